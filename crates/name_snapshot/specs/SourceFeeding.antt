-- Feeding what a source gives to the reader of snapshots.
use Rattle.std.specs.Prelude.{◌≡◌, ℕ, List, [], ◌++◌, length, Result, Ok, Err}
use Rattle.std.specs.Io.KnownBytes.{IsAtEnd}
use Rattle.byte_io.specs.Source.{SourceSeen, ReadFails}
use Rattle.nmc_base.specs.declared.chain_ends.Base.{Base}
use Rattle.name_snapshot.specs.Faults.{HasFault}
use Rattle.name_snapshot.specs.Feeding.{Feeding, HasRead}
use Rattle.name_snapshot.specs.declared.feed_fault.FeedFault.{FeedFault}
use Rattle.name_snapshot.specs.declared.feed_fault.FeedFault.TheVariants.{Bad, SourceFault, InputLimit, NoMemory}
use Rattle.name_snapshot.specs.SourceAnswers.{TakesUpTo, IsReadOut, FaultOf}

-- ---- one piece

-- this piece was fed behind the text; it is empty only at the end
pub record FeedsMore (text : List ℕ) (new : SourceSeen) (after : Feeding) (count : ℕ) (piece : List ℕ) : Type 0 where
  pub length_is : length piece ≡ count
  pub read : HasRead (text ++ piece) after
  pub ended : count ≡ 0 → IsAtEnd new.left

-- nothing was read
pub record FeedsNone (old new : SourceSeen) (piece : List ℕ) : Type 0 where
  pub none : piece ≡ []
  pub fails : ReadFails old new

abbrev pub PieceOf : List ℕ → (old new : SourceSeen) (before after : Feeding) → Result ℕ FeedFault → List ℕ → Type 0
PieceOf text old new before after (Ok count) piece = FeedsMore text new after count piece
PieceOf text old new before after (Err (Bad at)) piece = (more : List ℕ) → HasFault before.base ((text ++ piece) ++ more) at
PieceOf text old new before after (Err SourceFault) piece = FeedsNone old new piece
PieceOf text old new before after (Err InputLimit) piece = ⊥
PieceOf text old new before after (Err NoMemory) piece = Unit {0}

-- the next piece of the source, of so many bytes at most, was fed behind this text
abbrev pub FeedsPiece : List ℕ → ℕ → (old new : SourceSeen) (before after : Feeding) → Result ℕ FeedFault → Type 0
FeedsPiece text most old new before after result = TakesUpTo most old new (PieceOf text old new before after result)

-- ---- the whole

abbrev pub FedOf : Base → ℕ → (old new : SourceSeen) → Feeding → Result (Unit {0}) FeedFault → List ℕ → Type 0
FedOf base limit old new after (Ok done) text = IsReadOut limit new text × HasRead text after
FedOf base limit old new after (Err fault) text = FaultOf base limit old new fault text

-- the source was fed to its end, or this is why not
abbrev pub FeedsSource : Base → ℕ → (old new : SourceSeen) → Feeding → Result (Unit {0}) FeedFault → Type 0
FeedsSource base limit old new after result = TakesUpTo limit old new (FedOf base limit old new after result)
