-- What reading an area answers, and what its parts do.
use Rattle.std.specs.Prelude.{◌≡◌, ◌≢◌, ◌⊎◌, ℕ, ◌+◌, ◌<◌, ◌≤◌, ◌^◌, Bool, IsTrue, List, ◌++◌, length, take, Result, Ok, Err, OnOk, IfOk, ⊤}
use Rattle.disk_model.specs.Moments.{EachMoment}
use Rattle.disk_model.specs.Changes.{Unchanged}
use Rattle.disk_model.specs.DiskSeen.{DiskSeen, EndsWith, bytes_in}
use Rattle.gate_journal.specs.Records.{image_front}
use Rattle.nmc_base.specs.declared.chain_ends.Base.{Base}
use Rattle.name_tables.specs.declared.parts.Parts.{Parts}
use Rattle.state_image.specs.Loading.{Loading, HasRead}
use Rattle.chain_state.specs.Chain.{Indexed, indexed_of, kept_tip}
use Rattle.image_files.specs.declared.fault.ReadFault.{ReadFault}
use Rattle.image_files.specs.declared.fault.ReadFault.TheVariants.{Damaged, DiskFault, NoMemory}
use Rattle.image_files.specs.Fronts.{HasFront, HasFrontWithin, HasLength, HasLengthWithin, image_at, behind_length}
use Rattle.image_files.specs.Indexes.{IsIndexOf, BeginsWith, IsDamagedAt, IsOfAnotherBase, HasBadImage}

-- The disk was only read: no write and no cut was asked for, and no file has changed. A fault of it has its cause.
pub record OnlyReads {T : Type 0} (tells : Bool) (old new : DiskSeen) (result : Result T ReadFault) : Type 0 where
  pub unchanged : IsTrue tells → EachMoment (Unchanged old.moments.now) old.moments new.moments
  pub ends : EndsWith DiskFault old new result
  pub reads : new.changes ≡ old.changes

-- ---- the front

abbrev pub LengthAnswer : (longest : ℕ) → List ℕ → Result ℕ ReadFault → Type 0
LengthAnswer longest file (Ok image) = HasLengthWithin longest file image
LengthAnswer longest file (Err (Damaged at)) = (at ≡ 0) × ¬ (HasFrontWithin longest file)
LengthAnswer longest file (Err DiskFault) = ⊤
LengthAnswer longest file (Err NoMemory) = ⊤

-- The length of the image in this file was read, where no image is longer than the longest.
pub record ReadsLength (tells : Bool) (longest file : ℕ) (old new : DiskSeen) (result : Result ℕ ReadFault) : Type 0 where
  pub answer : IsTrue tells → LengthAnswer longest (bytes_in old file) result
  pub short : IfOk result (λ image. image ≤ longest)
  pub only : OnlyReads tells old new result

-- ---- the image

-- A text was fed. Where the disk tells its files, it is that of the file so far.
pub record HasFed (tells : Bool) (file : List ℕ) (l : Loading) : Type 0 where
  pub text : List ℕ
  pub read : HasRead text l
  pub is_front : IsTrue tells → text ≡ behind_length l.fed file

-- damage comes exactly where the text is that of no sound state
abbrev pub FedAnswer : List ℕ → {T : Type 0} → Result T ReadFault → Type 0
FedAnswer text (Ok value) = ⊤
FedAnswer text (Err (Damaged at)) = IsDamagedAt text at
FedAnswer text (Err DiskFault) = ⊤
FedAnswer text (Err NoMemory) = ⊤

-- this text was fed to a loader that showed no fault before
abbrev pub Feeds : List ℕ → Loading → {T : Type 0} → Result T ReadFault → Type 0
Feeds text l (Ok done) = HasRead text l
Feeds text l (Err (Damaged at)) = (more : List ℕ) → IsDamagedAt (text ++ more) at
Feeds text l (Err DiskFault) = ⊥
Feeds text l (Err NoMemory) = ⊤

-- so many bytes more were fed, of so many that were left
pub record FeedsMore (tells : Bool) (file : List ℕ) (left : ℕ) (old new : Loading) (count : ℕ) : Type 0 where
  pub some : 0 < count
  pub few : count ≤ left
  pub fed : new.fed ≡ old.fed + count
  pub has_fed : HasFed tells file new

-- The next piece of the image in this file was fed.
pub record FeedsPiece (tells : Bool) (file left : ℕ) (old new : Loading) (before after : DiskSeen) (result : Result ℕ ReadFault) : Type 0 where
  pub more : IfOk result (FeedsMore tells (bytes_in before file) left old new)
  pub answer : IsTrue tells → FedAnswer (behind_length (old.fed + left) (bytes_in before file)) result
  pub total : new.total ≡ old.total
  pub only : OnlyReads tells before after result

-- The whole image of so many bytes was fed.
pub record FeedsImage {T : Type 0} (tells : Bool) (file image : ℕ) (new : Loading) (before after : DiskSeen) (result : Result T ReadFault) : Type 0 where
  pub all : OnOk result (new.fed ≡ image)
  pub has_fed : OnOk result (HasFed tells (bytes_in before file) new)
  pub answer : IsTrue tells → FedAnswer (behind_length image (bytes_in before file)) result
  pub total : new.total ≡ image
  pub only : OnlyReads tells before after result

-- ---- the index

-- the chain of parts that were read, unless their base is another
abbrev pub IsChainOn : Base → Parts → Base → Result Indexed ReadFault → Type 0
IsChainOn read parts base (Ok index) = (read ≡ base) × (index ≡ indexed_of read (kept_tip read parts) parts)
IsChainOn read parts base (Err (Damaged at)) = (read ≢ base) × (at ≡ 8)
IsChainOn read parts base (Err DiskFault) = ⊥
IsChainOn read parts base (Err NoMemory) = ⊥

abbrev pub IndexAnswer : Base → List ℕ → Result Indexed ReadFault → Type 0
IndexAnswer base text (Ok index) = IsIndexOf base text index
IndexAnswer base text (Err (Damaged at)) = IsDamagedAt text at ⊎ IsOfAnotherBase base text at
IndexAnswer base text (Err DiskFault) = ⊤
IndexAnswer base text (Err NoMemory) = ⊤

-- The index of the image of so many bytes in this file was loaded. It is that of some text over every disk.
pub record LoadsIndex (tells : Bool) (file image : ℕ) (base : Base) (before after : DiskSeen) (result : Result Indexed ReadFault) : Type 0 where
  pub of_text : IfOk result (λ index. (text : List ℕ) × IsIndexOf base text index)
  pub answer : IsTrue tells → IndexAnswer base (behind_length image (bytes_in before file)) result
  pub only : OnlyReads tells before after result

-- of an area that has a front
abbrev pub BeginAnswer : Base → List ℕ → Result Indexed ReadFault → Type 0
BeginAnswer base file (Ok index) = BeginsWith base (image_at file) index
BeginAnswer base file (Err (Damaged at)) = HasBadImage base file at
BeginAnswer base file (Err DiskFault) = ⊤
BeginAnswer base file (Err NoMemory) = ⊤

-- The index was made with which the area in this file begins, whose image has so many bytes.
pub record BeginsIndex (tells : Bool) (file image : ℕ) (base : Base) (before after : DiskSeen) (result : Result Indexed ReadFault) : Type 0 where
  pub of_text : IfOk result (λ index. (text : List ℕ) × BeginsWith base text index)
  pub answer : IsTrue tells → HasLength (bytes_in before file) image → BeginAnswer base (bytes_in before file) result
  pub only : OnlyReads tells before after result

-- ---- the whole

-- The area begins with the image of this index, or with none for that of the base alone, and the gate behind stands at this place.
pub record IsReadFrom (base : Base) (file : List ℕ) (index : Indexed) (gate : ℕ) : Type 0 where
  pub front : HasFront file
  pub begins : take gate file ≡ image_front (image_at file)
  pub gate_is : gate ≡ length (image_front (image_at file))
  pub inside : gate < length file
  pub is_index : BeginsWith base (image_at file) index

-- The answers exclude one another, so each comes exactly where its case says; a fault of the disk has its cause beside, and want of
-- memory may stand in the place of an index and of damage behind the front.
abbrev pub ReadAnswer : Base → List ℕ → Result (Indexed × ℕ) ReadFault → Type 0
ReadAnswer base file (Ok (index, gate)) = IsReadFrom base file index gate
ReadAnswer base file (Err (Damaged at)) = HasBadImage base file at
ReadAnswer base file (Err DiskFault) = ⊤
ReadAnswer base file (Err NoMemory) = ⊤

-- over every disk: the index of some text on this base, and a gate where one may stand
pub record IsSomeIndex (base : Base) (index : Indexed) (gate : ℕ) : Type 0 where
  pub text : List ℕ
  pub is_index : BeginsWith base text index
  pub far : 8 ≤ gate
  pub near : gate ≤ 8 + 2 ^ 37

-- The image of the area in this file was read.
pub record ReadsImage (tells : Bool) (file : ℕ) (base : Base) (before after : DiskSeen) (result : Result (Indexed × ℕ) ReadFault) : Type 0 where
  pub answer : IsTrue tells → ReadAnswer base (bytes_in before file) result
  pub some : IfOk result (λ read. IsSomeIndex base read.0 read.1)
  pub only : OnlyReads tells before after result
