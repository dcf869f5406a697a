-- The files of a disk at every moment so far, and what a crash at one of these moments may have left.
use Rattle.std.specs.Prelude.{◌⊎◌, ℕ, ◌<◌, ◌≤◌, List, [], ◌∷◌, length}
use Rattle.disk_model.specs.FileState.{FileState, IsFileImage}

-- the files by their numbers, of which 0, 1 and 2 are in use
abbrev pub Files : Type 0
Files = ℕ → FileState

-- the files now, and at each moment before, the newest first
pub record Moments : Type 0 where
  pub now : Files
  pub past : List Files

-- the number of this moment
abbrev pub clock : Moments → ℕ
clock m = length m.past

-- one moment later, with these files
abbrev pub after : Moments → Files → Moments
after m files = record { now = files; past = m.now ∷ m.past }

-- the same moment, with these files in the place of those that it had
abbrev pub instead : Moments → Files → Moments
instead m files = record { now = files; past = m.past }

-- A crash with these files may leave this of each of them; the files are independent.
abbrev pub IsImage : Files → (ℕ → List ℕ) → Type 0
IsImage files image = (file : ℕ) → file < 3 → IsFileImage (files file) (image file)

-- what a crash may leave with the old files, it may leave with the new ones too
abbrev pub Widens : Files → Files → Type 0
Widens old new = (image : ℕ → List ℕ) → IsImage old image → IsImage new image

-- P holds of the files at each moment from old on, up to the new one. A moment may go on with other files where
-- these leave each of its images possible.
pub data EachMoment (P : Files → Type 0) (old : Moments) : Moments → Type 0 where
  start : P old.now → EachMoment P old old
  more : (mid : Moments) (files : Files) → EachMoment P old mid → P files → EachMoment P old (after mid files)
  wider : (mid : Moments) (files : Files) → Widens mid.now files → EachMoment P old mid → P files → EachMoment P old (instead mid files)

-- one of these moments, from that time on, may have left this image
abbrev pub LeftIn : List Files → ℕ → (ℕ → List ℕ) → Type 0
LeftIn [] time image = ⊥
LeftIn (files ∷ past) time image = ((time ≤ length past) × IsImage files image) ⊎ LeftIn past time image

-- A crash at some moment from that time on, within a call or between two, may have left this image.
abbrev pub LeftSince : Moments → ℕ → (ℕ → List ℕ) → Type 0
LeftSince m time image = LeftIn (m.now ∷ m.past) time image
