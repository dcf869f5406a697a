-- A save in slices that runs: what is kept of it beside the store, when its draft is on a disk, and of which commands it is.
use Rattle.std.specs.Prelude.{◌≡◌, ℕ, ◌+◌, ◌-◌, ◌≤◌, List, ◌++◌, length, take, drop, All}
use Rattle.disk_model.specs.Moments.{Files}
use Rattle.gate_journal.specs.Records.{Fits, records_text}
use Rattle.chain_state.specs.Chain.{Indexed}
use Rattle.index_commands.specs.Standing as chains
use Rattle.chain_commands.specs.Event.{Command}
use Rattle.chain_commands.specs.RunState.{RunState, after_commands, saved_chain, grown_by}
use Rattle.chain_commands.specs.Saving.{longest_image, most_selections}
use Rattle.image_slots.specs.Selections.{drafted_by}
use Rattle.image_slots.specs.Drafted.{Drafted, DraftHolds}
use Rattle.image_files.specs.SavingIndex.{IsTextOfIndex}
use Rattle.name_store.specs.Stored.{Stored, area_file}

-- the draft of the image and of the records behind it, and the length of the selected area when it was begun
pub record Drafting : Type 0 where
  pub draft : Drafted
  pub from : ℕ

-- with so many bytes more
abbrev pub with_written : Drafting → ℕ → Drafting
with_written drafting count = record { draft = record drafting.draft { written = drafting.draft.written + count }; from = drafting.from }

-- ---- lengths

-- so many bytes have the records of the commands that the store accepted since
abbrev pub grown_since : Stored → Drafting → ℕ
grown_since store drafting = store.area - drafting.from

-- so many bytes has the draft when it is whole: those of the image, and those records
abbrev pub whole_of : Stored → Drafting → ℕ
whole_of store drafting = drafting.draft.image + grown_since store drafting

-- so many of them are not written yet
abbrev pub left_of : Stored → Drafting → ℕ
left_of store drafting = whole_of store drafting - drafting.draft.written

-- the length of the area that it becomes: the image's length before it, and a gate behind it
abbrev pub length_with : Stored → Drafting → ℕ
length_with store drafting = 9 + whole_of store drafting

-- The draft is one of this store: in the area that isn't selected, with room for a selection more and for the image; it was begun when
-- the selected area was no longer than now, and holds no more than there is.
pub record IsDraftOf (store : Stored) (drafting : Drafting) : Type 0 where
  pub file : drafting.draft.file ≡ drafted_by store.slots.count
  pub few : store.slots.count + 1 ≤ most_selections
  pub short : drafting.draft.image ≤ longest_image
  pub some : 9 ≤ drafting.from
  pub begun : drafting.from ≤ store.area
  pub within : drafting.draft.written ≤ whole_of store drafting

-- ---- bytes

-- so many bytes of the selected area, from the gate on that was its last when the draft was begun
abbrev pub since_text : Drafting → ℕ → List ℕ → List ℕ
since_text drafting count selected = take count (drop (drafting.from - 1) selected)

-- what was written: of the image, and then of what was added to the selected area since
abbrev pub drafted_text : Drafting → (image selected : List ℕ) → List ℕ
drafted_text drafting image selected = take drafting.draft.written image ++ since_text drafting (drafting.draft.written - length image) selected

-- The draft is on the disk: its file has, behind the length of this image, what was written; and what the selected area has since it was
-- begun are whole records.
pub record IsDraftOn (store : Stored) (drafting : Drafting) (image : List ℕ) (files : Files) : Type 0 where
  pub size : drafting.draft.image ≡ length image
  pub holds : DraftHolds drafting.draft (drafted_text drafting image (files (area_file store)).bytes) (files drafting.draft.file).bytes
  pub records : List (List ℕ)
  pub fit : All Fits records
  pub since : since_text drafting (grown_since store drafting) (files (area_file store)).bytes ≡ records_text records

-- the next bytes of this image
abbrev pub IsNextOf : Drafting → (image piece : List ℕ) → Type 0
IsNextOf drafting image piece = piece ≡ take (length piece) (drop drafting.draft.written image)

-- ---- commands

-- The save of this run state was begun at this length of its area, behind its older commands: this is a text of the index of the chain that
-- they left. Its newer ones were accepted since.
pub record IsDraftFor (run : RunState) (newer older : List Command) (from : ℕ) (image : List ℕ) : Type 0 where
  pub parts : run.since ≡ newer ++ older
  pub from_is : from ≡ grown_by older (9 + length run.text)
  pub index : Indexed
  pub stands : chains.StandsFor index (after_commands (saved_chain run) older)
  pub is_text : IsTextOfIndex index image
