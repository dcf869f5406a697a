-- What came of giving a text to a sink.
use Rattle.std.specs.Prelude.{◌≡◌, ◌⊎◌, ℕ, ◌<◌, List, [], ◌++◌, length, Result, Ok, Err}
use Rattle.std.specs.Io.KnownBytes.{Appends}
use Rattle.fault_counts.specs.Faults.{NeverFell}
use Rattle.byte_io.specs.Sink.{SinkSeen}
use Rattle.frame_loop.specs.Causes.{SinkCause}

-- the sink took the whole text, and a byte at least in each write
pub record TookAll (old new : SinkSeen) (text : List ℕ) : Type 0 where
  pub took : Appends old.taken new.taken text
  pub moving : new.stalls ≡ old.stalls
  pub later : NeverFell old.faults new.faults

-- the sink took a part of the text, and not all of it: its last write failed or stalled
pub record TookPart (old new : SinkSeen) (text : List ℕ) : Type 0 where
  pub part : List ℕ
  pub missing : List ℕ
  pub text_is : text ≡ part ++ missing
  pub some_missing : 0 < length missing
  pub took : Appends old.taken new.taken part
  pub later : NeverFell old.faults new.faults
  pub cause : SinkCause old new

-- the sink took the text, or a part of it and then failed or stalled
pub record TookUpTo (old new : SinkSeen) (text : List ℕ) : Type 0 where
  pub part : List ℕ
  pub missing : List ℕ
  pub text_is : text ≡ part ++ missing
  pub whole : (missing ≡ []) ⊎ SinkCause old new
  pub took : Appends old.taken new.taken part
  pub later : NeverFell old.faults new.faults

abbrev pub Delivers : {E : Type 0} (old new : SinkSeen) (text : List ℕ) → Result (Unit {0}) E → Type 0
Delivers old new text (Ok done) = TookAll old new text
Delivers old new text (Err e) = TookPart old new text
