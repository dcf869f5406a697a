-- What a listing run accepts, whatever sessions and saves come between.
use Rattle.std.specs.Prelude.{◌≡◌, List, [], ◌∷◌, ◌==◌, if◌then◌else◌}
use Rattle.chain_commands.specs.Event.{Command, Event, Do, Ask, Save}
use Rattle.feed_frames.specs.Replies.{Reply}
use Rattle.name_lister.specs.Event.{ListEvent, Plain, Open, Page, Close, Begin, Slice}
use Rattle.name_lister.specs.Saver.{more_reply}

-- the commands, the newest first, with that of this event where it is one that was accepted
abbrev pub joined_plain : Event → Reply → List Command → List Command
joined_plain (Do command) reply commands = if reply.code == 0 then command ∷ commands else commands
joined_plain (Ask carrier message) reply commands = commands
joined_plain Save reply commands = commands

abbrev pub joined : ListEvent → Reply → List Command → List Command
joined (Plain event) reply commands = joined_plain event reply commands
joined Open reply commands = commands
joined (Page number) reply commands = commands
joined (Close number) reply commands = commands
joined Begin reply commands = commands
joined (Slice asked) reply commands = commands

-- the same behind these events with their replies
abbrev pub with_accepted : List Command → List ListEvent → List Reply → List Command
with_accepted commands [] replies = commands
with_accepted commands (event ∷ events) [] = commands
with_accepted commands (event ∷ events) (reply ∷ replies) = with_accepted (joined event reply commands) events replies

-- each slice among the events left some bytes: so the save that runs goes on
abbrev pub GoesOnAt : ListEvent → Reply → Type 0
GoesOnAt (Plain event) reply = Unit {0}
GoesOnAt Open reply = Unit {0}
GoesOnAt (Page number) reply = Unit {0}
GoesOnAt (Close number) reply = Unit {0}
GoesOnAt Begin reply = Unit {0}
GoesOnAt (Slice asked) reply = reply ≡ more_reply

abbrev pub GoesOn : List ListEvent → List Reply → Type 0
GoesOn [] replies = Unit {0}
GoesOn (event ∷ events) [] = Unit {0}
GoesOn (event ∷ events) (reply ∷ replies) = GoesOnAt event reply × GoesOn events replies
