-- What came of one read, whose piece is fed to the reader of frames.
use Rattle.std.specs.Prelude.{◌≡◌, ℕ, ◌<◌, ◌≤◌, List, [], length, take, Result, Ok, Err}
use Rattle.std.specs.Io.KnownBytes.{Consumes, IsAtEnd}
use Rattle.fault_counts.specs.Faults.{NeverFell}
use Rattle.byte_io.specs.Source.{SourceSeen}
use Rattle.feed_frames.specs.Feed.{Feed, after_piece}
use Rattle.frame_loop.specs.Causes.{SourceCause}

-- the front of the piece is what the source gave
pub record ReadsPiece (old new : SourceSeen) (most : ℕ) (piece : List ℕ) (n : ℕ) : Type 0 where
  pub within : n ≤ most
  pub given : Consumes old.left new.left (take n piece)
  pub ended : n ≡ 0 → 0 < most → IsAtEnd new.left
  pub later : NeverFell old.faults new.faults

-- the read failed, and the count of faults rose
pub record ReadBreaks (old new : SourceSeen) : Type 0 where
  pub given : Consumes old.left new.left []
  pub cause : SourceCause old new
  pub later : NeverFell old.faults new.faults

abbrev pub ReadsFront : {E : Type 0} (old new : SourceSeen) (most : ℕ) (piece : List ℕ) → Result ℕ E → Type 0
ReadsFront old new most piece (Ok n) = ReadsPiece old new most piece n
ReadsFront old new most piece (Err e) = ReadBreaks old new

-- the piece that the source gave stands behind the bytes that were there
pub record FillsPiece (old new : SourceSeen) (most : ℕ) (before after : Feed) (n : ℕ) : Type 0 where
  pub piece : List ℕ
  pub length_is : length piece ≡ n
  pub within : n ≤ most
  pub grown : after ≡ after_piece before piece
  pub given : Consumes old.left new.left piece
  pub ended : n ≡ 0 → 0 < most → IsAtEnd new.left
  pub later : NeverFell old.faults new.faults

-- the read failed, and nothing was fed
pub record FillBreaks (old new : SourceSeen) (before after : Feed) : Type 0 where
  pub kept : after ≡ before
  pub given : Consumes old.left new.left []
  pub cause : SourceCause old new
  pub later : NeverFell old.faults new.faults

abbrev pub Fills : {E : Type 0} (old new : SourceSeen) (most : ℕ) (before after : Feed) → Result ℕ E → Type 0
Fills old new most before after (Ok n) = FillsPiece old new most before after n
Fills old new most before after (Err e) = FillBreaks old new before after
