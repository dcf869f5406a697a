-- What the beginning of a save in slices and each of its slices answer, of every run state that the store stands for, and what they leave
-- of the disk.
use Rattle.std.specs.Prelude.{◌≡◌, ℕ, ◌+◌, ◌<◌, ◌≤◌, Bool, IsTrue, IsFalse, List, length}
use Rattle.fault_counts.specs.Faults.{NeverFell}
use Rattle.disk_model.specs.Moments.{Files, EachMoment}
use Rattle.disk_model.specs.Changes.{LeavesOthers}
use Rattle.disk_model.specs.DiskSeen.{DiskSeen, HasFailed, NoneFailed, bytes_in}
use Rattle.chain_commands.specs.Event.{Command}
use Rattle.chain_commands.specs.RunState.{RunState, longest_area}
use Rattle.chain_commands.specs.Saving.{longest_image, most_selections, saved_before}
use Rattle.image_slots.specs.Selections.{drafted_by}
use Rattle.image_slots.specs.Slotted.{with_one_more}
use Rattle.name_store.specs.declared.saving.SaveRefusal.TheVariants.{CheckpointLimit, ImageLimit}
use Rattle.name_store.specs.declared.drafting.DraftOutcome.{DraftOutcome}
use Rattle.name_store.specs.declared.drafting.DraftOutcome.TheVariants as begin
use Rattle.name_store.specs.declared.slicing.SliceOutcome.{SliceOutcome}
use Rattle.name_store.specs.declared.slicing.SliceOutcome.TheVariants.{Written, Selected, AreaLimit, Faulted}
use Rattle.name_store.specs.Stands.{Stands, EachStands, EachStandsForEither}
use Rattle.name_store.specs.Stored.{Stored, StandsFor, IsOn}
use Rattle.name_store.specs.Saves.{SparesSelected}
use Rattle.name_store.specs.Drafting.{Drafting, with_written, left_of, length_with, IsDraftOf, IsDraftOn, IsNextOf, IsDraftFor}

-- ---- the beginning

-- the draft of an image of so many bytes, of which nothing is written
abbrev pub drafting_of : Stored → ℕ → Drafting
drafting_of store image = record { draft = record { file = drafted_by store.slots.count; image = image; written = 0 }; from = store.area }

-- the store is as it was, and there is a draft
pub record HasBegun (old : Stored) (image : ℕ) (store : Stored) (drafting : Drafting) : Type 0 where
  pub same : store ≡ old
  pub drafting_is : drafting ≡ drafting_of old image
  pub is_draft : IsDraftOf store drafting

-- The refusals exclude one another, that of the selections first; a fault of the disk comes behind both.
abbrev pub BeginAnswer : Stored → ℕ → DraftOutcome → Type 0
BeginAnswer old image (begin.Begun store drafting) = HasBegun old image store drafting
BeginAnswer old image (begin.Refused store CheckpointLimit) = (store ≡ old) × (old.slots.count ≡ most_selections)
BeginAnswer old image (begin.Refused store ImageLimit) = (store ≡ old) × (old.slots.count < most_selections) × (longest_image < image)
BeginAnswer old image begin.Faulted = (old.slots.count < most_selections) × (image ≤ longest_image)

-- P holds where the save was refused
abbrev pub IfRefused : Type 0 → DraftOutcome → Type 0
IfRefused P (begin.Begun store drafting) = Unit {0}
IfRefused P (begin.Refused store refusal) = P
IfRefused P begin.Faulted = Unit {0}

-- A draft was begun where the last call worked, a fault told where the disk failed. Where a store is handed back no call failed, and
-- the store is on the disk.
abbrev pub BeginEnds : Bool → DiskSeen → DiskSeen → DraftOutcome → Type 0
BeginEnds tells before after (begin.Begun store drafting) = IsFalse after.failed × NoneFailed before after × (IsTrue tells → IsOn store after.moments.now)
BeginEnds tells before after (begin.Refused store refusal) = NoneFailed before after × (IsTrue tells → IsOn store after.moments.now)
BeginEnds tells before after begin.Faulted = HasFailed before after

-- the draft is on the disk, of each image of its length
abbrev pub BegunOn : DiskSeen → DraftOutcome → Type 0
BegunOn after (begin.Begun store drafting) = (image : List ℕ) → drafting.draft.image ≡ length image → IsDraftOn store drafting image after.moments.now
BegunOn after (begin.Refused store refusal) = Unit {0}
BegunOn after begin.Faulted = Unit {0}

-- of every run state that the store and the files stood for: whatever a crash leaves at any moment stands for it
abbrev pub KeepsRuns : Stored → DiskSeen → DiskSeen → Type 0
KeepsRuns old before after = (run : RunState) → StandsFor old run → Stands (bytes_in before) run → EachMoment (λ files. EachStands files run) before.moments after.moments

-- What the beginning leaves of the disk. No file changes but the one that is drafted.
pub record LeavesBegun (tells : Bool) (old : Stored) (before after : DiskSeen) (outcome : DraftOutcome) : Type 0 where
  pub later : NeverFell before.faults after.faults
  pub ends : BeginEnds tells before after outcome
  pub begun : IsTrue tells → BegunOn after outcome
  pub others : IsTrue tells → EachMoment (LeavesOthers (drafted_by old.slots.count) before.moments.now) before.moments after.moments
  pub kept : IsTrue tells → KeepsRuns old before after

-- ---- a slice, by the lengths

-- the slice wrote so many bytes more, and the store is as it was
pub record HasWritten (old : Stored) (drafting : Drafting) (most : ℕ) (store : Stored) (new : Drafting) : Type 0 where
  pub some_left : most < left_of old drafting
  pub same : store ≡ old
  pub drafting_is : new ≡ with_written drafting most
  pub is_draft : IsDraftOf store new

-- the store has the old one's index and host, one selection more, and the area that was drafted, no longer than the longest
pub record HasSelectedWithin (longest : ℕ) (old : Stored) (drafting : Drafting) (most : ℕ) (store : Stored) (number : ℕ) : Type 0 where
  pub all_left : left_of old drafting ≤ most
  pub within : length_with old drafting ≤ longest
  pub index : store.index ≡ old.index
  pub host : store.host ≡ old.host
  pub slots : store.slots ≡ with_one_more old.slots
  pub area : store.area ≡ length_with old drafting
  pub number_is : number ≡ old.slots.count + 1

abbrev pub HasSelected : Stored → Drafting → (most : ℕ) → Stored → (number : ℕ) → Type 0
HasSelected old drafting most store number = HasSelectedWithin longest_area old drafting most store number

-- Where more is left than a slice takes, it is written; else the save ends, by the length of its area. The answers exclude one another;
-- a fault of the disk may stand in the place of the first two alone.
abbrev pub SliceAnswerWithin : (longest : ℕ) → Stored → Drafting → ℕ → SliceOutcome → Type 0
SliceAnswerWithin longest old drafting most (Written store new) = HasWritten old drafting most store new
SliceAnswerWithin longest old drafting most (Selected store number) = HasSelectedWithin longest old drafting most store number
SliceAnswerWithin longest old drafting most (AreaLimit store) = (store ≡ old) × (left_of old drafting ≤ most) × (longest < length_with old drafting)
SliceAnswerWithin longest old drafting most Faulted = left_of old drafting ≤ most → length_with old drafting ≤ longest

-- of an area that has no more than 2^42 bytes
abbrev pub SliceAnswer : Stored → Drafting → ℕ → SliceOutcome → Type 0
SliceAnswer old drafting most outcome = SliceAnswerWithin longest_area old drafting most outcome

-- P holds where the save was given up for the length of its area
abbrev pub IfAtLimit : Type 0 → SliceOutcome → Type 0
IfAtLimit P (Written store drafting) = Unit {0}
IfAtLimit P (Selected store number) = Unit {0}
IfAtLimit P (AreaLimit store) = P
IfAtLimit P Faulted = Unit {0}

-- ---- the disk

-- The slice was done where its last call worked, a fault told where it failed. Where a store is handed back no call failed, and the
-- store is on the disk.
abbrev pub SliceEnds : Bool → DiskSeen → DiskSeen → SliceOutcome → Type 0
SliceEnds tells before after (Written store drafting) = IsFalse after.failed × NoneFailed before after × (IsTrue tells → IsOn store after.moments.now)
SliceEnds tells before after (Selected store number) = IsFalse after.failed × NoneFailed before after × (IsTrue tells → IsOn store after.moments.now)
SliceEnds tells before after (AreaLimit store) = NoneFailed before after × (IsTrue tells → IsOn store after.moments.now)
SliceEnds tells before after Faulted = HasFailed before after

-- the draft is on the disk still, where the piece was the next of its image
abbrev pub WrittenOn : Stored → Drafting → (piece : List ℕ) → (before after : DiskSeen) → SliceOutcome → Type 0
WrittenOn old drafting piece before after (Written store new) =
    (image : List ℕ) → IsDraftOn old drafting image before.moments.now → IsNextOf drafting image piece → IsDraftOn store new image after.moments.now
WrittenOn old drafting piece before after (Selected store number) = Unit {0}
WrittenOn old drafting piece before after (AreaLimit store) = Unit {0}
WrittenOn old drafting piece before after Faulted = Unit {0}

-- no file changes but the one that is drafted, unless the slice ends the save
abbrev pub LeavesUndrafted : Drafting → (before after : DiskSeen) → SliceOutcome → Type 0
LeavesUndrafted drafting before after (Written store new) = EachMoment (LeavesOthers drafting.draft.file before.moments.now) before.moments after.moments
LeavesUndrafted drafting before after (Selected store number) = Unit {0}
LeavesUndrafted drafting before after (AreaLimit store) = EachMoment (LeavesOthers drafting.draft.file before.moments.now) before.moments after.moments
LeavesUndrafted drafting before after Faulted = Unit {0}

-- What a slice leaves of the disk. The selected area is as it was at each moment.
pub record LeavesSlice (tells : Bool) (old : Stored) (drafting : Drafting) (piece : List ℕ) (before after : DiskSeen) (outcome : SliceOutcome) : Type 0 where
  pub later : NeverFell before.faults after.faults
  pub ends : SliceEnds tells before after outcome
  pub written : IsTrue tells → WrittenOn old drafting piece before after outcome
  pub others : IsTrue tells → LeavesUndrafted drafting before after outcome
  pub spared : IsTrue tells → EachMoment (SparesSelected old before.moments.now) before.moments after.moments

-- ---- of a run state

-- the store stands for the run state behind the save, over every disk
abbrev pub StandsBehind : Stored → Drafting → SliceOutcome → Type 0
StandsBehind old drafting (Written store new) = Unit {0}
StandsBehind old drafting (Selected store number) =
    (run : RunState) (newer older : List Command) (image : List ℕ) → StandsFor old run → IsDraftFor run newer older drafting.from image → drafting.draft.image ≡ length image
    → StandsFor store (saved_before run newer older image)
StandsBehind old drafting (AreaLimit store) = Unit {0}
StandsBehind old drafting Faulted = Unit {0}

-- a run state that store and files stand for, and of which the draft is, with the next piece of its image
pub record IsDraftHere (old : Stored) (drafting : Drafting) (piece : List ℕ) (before : DiskSeen) (run : RunState) (newer older : List Command) (image : List ℕ) : Type 0 where
  pub stands : StandsFor old run
  pub files : Stands (bytes_in before) run
  pub is_for : IsDraftFor run newer older drafting.from image
  pub on : IsDraftOn old drafting image before.moments.now
  pub next : IsNextOf drafting image piece

-- What a slice leaves of files that stood for a run state. A slice that doesn't end the save leaves it at each moment. One that ends it leaves
-- at each moment this one or the next one, in which the older commands are saved; and the next one at its end.
abbrev pub SliceKeeps : Stored → Drafting → ℕ → (run next : RunState) → (before after : DiskSeen) → SliceOutcome → Type 0
SliceKeeps old drafting most run next before after (Written store new) = EachMoment (λ files. EachStands files run) before.moments after.moments
SliceKeeps old drafting most run next before after (Selected store number) =
    EachMoment (EachStandsForEither run next) before.moments after.moments × Stands (bytes_in after) next × EachStands after.moments.now next
SliceKeeps old drafting most run next before after (AreaLimit store) = EachMoment (λ files. EachStands files run) before.moments after.moments
SliceKeeps old drafting most run next before after Faulted =
    EachMoment (EachStandsForEither run next) before.moments after.moments
    × (most < left_of old drafting → EachMoment (λ files. EachStands files run) before.moments after.moments)

abbrev pub KeepsSliced : Stored → Drafting → (piece : List ℕ) → ℕ → (before after : DiskSeen) → SliceOutcome → Type 0
KeepsSliced old drafting piece most before after outcome = (run : RunState) (newer older : List Command) (image : List ℕ) → IsDraftHere old drafting piece before run newer older image
    → SliceKeeps old drafting most run (saved_before run newer older image) before after outcome

-- ---- what the calls ask for

-- The piece is the next of the image of this draft, which is on the disk.
pub record HasNext (store : Stored) (drafting : Drafting) (piece : List ℕ) (files : Files) : Type 0 where
  pub image : List ℕ
  pub on : IsDraftOn store drafting image files
  pub next : IsNextOf drafting image piece
