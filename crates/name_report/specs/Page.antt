-- A text on its way to a sink, of which a part may wait in memory.
use Rattle.std.specs.Prelude.{◌≡◌, ℕ, List, ◌++◌, Result, Ok, Err}
use Rattle.std.specs.Io.KnownBytes.{Appends}
use Rattle.fault_counts.specs.Faults.{NeverFell}
use Rattle.byte_io.specs.Sink.{SinkSeen}
use Rattle.frame_loop.specs.Delivery.{TookPart}

-- the sink, and the bytes that wait for it
pub record Outgoing : Type 0 where
  pub seen : SinkSeen
  pub held : List ℕ

abbrev pub outgoing : SinkSeen → List ℕ → Outgoing
outgoing seen held = record { seen = seen; held = held }

-- the text stands behind the bytes that waited; the sink took a part from the front, and the rest waits
pub record PutAll (old new : Outgoing) (text : List ℕ) : Type 0 where
  pub part : List ℕ
  pub text_is : old.held ++ text ≡ part ++ new.held
  pub took : Appends old.seen.taken new.seen.taken part
  pub moving : new.seen.stalls ≡ old.seen.stalls
  pub later : NeverFell old.seen.faults new.seen.faults

abbrev pub Puts : {E : Type 0} (old new : Outgoing) (text : List ℕ) → Result (Unit {0}) E → Type 0
Puts old new text (Ok done) = PutAll old new text
Puts old new text (Err e) = TookPart old.seen new.seen (old.held ++ text)
