-- What becomes of a reply to the feed.
use Rattle.std.specs.Prelude.{ℕ, List, ◌++◌, Result, Ok, Err}
use Rattle.system_io.specs.Net.{NetTold, Moves}
use Rattle.system_io.specs.declared.feed.Place.{Place}
use Rattle.system_io.specs.declared.feed.Place.TheVariants.{Free, Open, Ended, Leaving}

-- no more replies go over the connection that has the place, if one has
abbrev pub IsShut : Place → Type 0
IsShut Free = Unit {0}
IsShut (Open link) = ⊥
IsShut (Ended last) = Unit {0}
IsShut (Leaving link until) = Unit {0}

-- the connection keeps the place, and has the reply behind what was unsent: of both some from the front went over it, in order, and the
-- others are unsent
abbrev pub KeepsReply : (held holds : NetTold) → Place → Place → List ℕ → Type 0
KeepsReply held holds (Open old) (Open new) bytes = Moves held holds old.link.peer (old.unsent ++ bytes) new.unsent
KeepsReply held holds old new bytes = ⊥

-- a reply is kept whole, or nothing goes over the connection behind it
abbrev pub SendsReply : {E : Type 0} → (held holds : NetTold) (old new : Place) → Result (Unit {0}) E → List ℕ → Type 0
SendsReply held holds old new (Ok done) bytes = KeepsReply held holds old new bytes
SendsReply held holds old new (Err e) bytes = IsShut new
