-- What reading a snapshot from a source answers.
use Rattle.std.specs.Prelude.{◌≡◌, ℕ, ◌<◌, ◌≤◌, true, List, ◌++◌, length, Result, Ok, Err}
use Rattle.std.specs.Io.KnownBytes.{Consumes, IsAtEnd}
use Rattle.fault_counts.specs.Faults.{NeverFell, Rose}
use Rattle.byte_io.specs.Source.{SourceSeen}
use Rattle.nmc_base.specs.declared.chain_ends.Base.{Base}
use Rattle.name_tables.specs.declared.parts.Parts.{Parts}
use Rattle.name_snapshot.specs.Answers.{HasStart}
use Rattle.name_snapshot.specs.Faults.{HasFault}
use Rattle.name_snapshot.specs.declared.feed_fault.FeedFault.{FeedFault}
use Rattle.name_snapshot.specs.declared.feed_fault.FeedFault.TheVariants.{Bad, SourceFault, InputLimit, NoMemory}

-- Bytes were taken from the source, so many at most, and this holds of them.
pub record TakesUpTo (limit : ℕ) (old new : SourceSeen) (Of : List ℕ → Type 0) : Type 0 where
  pub taken : List ℕ
  pub consumed : Consumes old.left new.left taken
  pub within : length taken ≤ limit
  pub later : NeverFell old.faults new.faults
  pub holds : Of taken

-- the text has no fault but perhaps its end
abbrev pub HasOpenEnd : Base → List ℕ → Type 0
HasOpenEnd base text = (at : ℕ) → HasFault base text at → at ≡ length text

-- The last piece of the text shows a fault: each text that begins so has its first fault at this place. The pieces before show none.
pub record ShowsFault (base : Base) (text : List ℕ) (at : ℕ) : Type 0 where
  pub before : List ℕ
  pub piece : List ℕ
  pub text_is : text ≡ before ++ piece
  pub one_piece : length piece ≤ 65536
  pub open_before : HasOpenEnd base before
  pub bad : (more : List ℕ) → HasFault base (text ++ more) at

-- the source was read to its end, before the limit
pub record IsReadOut (limit : ℕ) (new : SourceSeen) (text : List ℕ) : Type 0 where
  pub at_end : IsAtEnd new.left
  pub below_limit : length text < limit

-- the bytes show a fault, or end too early
pub data IsBadAt (base : Base) (limit : ℕ) (new : SourceSeen) (text : List ℕ) (at : ℕ) : Type 0 where
  shown : ShowsFault base text at → IsBadAt base limit new text at
  at_its_end : IsReadOut limit new text → HasFault base text at → IsBadAt base limit new text at

-- the last read failed, before the limit
pub record EndsAtSource (base : Base) (limit : ℕ) (old new : SourceSeen) (text : List ℕ) : Type 0 where
  pub last_failed : new.failed ≡ true
  pub rose : Rose old.faults new.faults
  pub below_limit : length text < limit
  pub open_end : HasOpenEnd base text

-- as many bytes as the limit were read
pub record EndsAtLimit (base : Base) (limit : ℕ) (text : List ℕ) : Type 0 where
  pub at_limit : length text ≡ limit
  pub open_end : HasOpenEnd base text

abbrev pub FaultOf : Base → ℕ → (old new : SourceSeen) → FeedFault → List ℕ → Type 0
FaultOf base limit old new (Bad at) text = IsBadAt base limit new text at
FaultOf base limit old new SourceFault text = EndsAtSource base limit old new text
FaultOf base limit old new InputLimit text = EndsAtLimit base limit text
FaultOf base limit old new NoMemory text = Unit {0}

abbrev pub EndsOf : Base → ℕ → (old new : SourceSeen) → Result Parts FeedFault → List ℕ → Type 0
EndsOf base limit old new (Ok parts) text = IsReadOut limit new text × HasStart base text parts
EndsOf base limit old new (Err fault) text = FaultOf base limit old new fault text

-- a snapshot on the base was read from the source, or this is why not
abbrev pub ReadsSnapshot : Base → ℕ → (old new : SourceSeen) → Result Parts FeedFault → Type 0
ReadsSnapshot base limit old new result = TakesUpTo limit old new (EndsOf base limit old new result)
