-- One step of the machine, and runs of steps.
use Rattle.std.specs.Prelude.{◌≡◌, List, [], ◌∷◌}
use Rattle.chain_commands.specs.Event.{Event, Connect, Disconnect, Do, Ask, Save}
use Rattle.chain_commands.specs.RunState.{RunState}
use Rattle.feed_frames.specs.Replies.{Reply}
use Rattle.chain_commands.specs.Connecting.{Connects}
use Rattle.chain_commands.specs.Disconnecting.{Disconnects}
use Rattle.chain_commands.specs.Saving.{Saves}
use Rattle.bridge_core.specs.Querying.{Queries, transport_of}

-- From the old state the machine may give this reply to the event and go on to the new state.
abbrev pub Step : RunState → Event → Reply → RunState → Type 0
Step old (Do (Connect block)) reply new = Connects old block reply new
Step old (Do (Disconnect hash)) reply new = Disconnects old hash reply new
Step old (Ask carrier message) reply new = Queries (transport_of carrier) old message reply new
Step old Save reply new = Saves old reply new

-- the machine may give these replies to these events, one step after another
abbrev pub Run : RunState → List Event → List Reply → RunState → Type 0
Run old [] [] new = new ≡ old
Run old (event ∷ events) (reply ∷ replies) new = (mid : RunState) × Step old event reply mid × Run mid events replies new
Run old [] (reply ∷ replies) new = ⊥
Run old (event ∷ events) [] new = ⊥
