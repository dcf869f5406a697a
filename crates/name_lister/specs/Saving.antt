-- A save in slices that runs: its draft, the text that is given out into it, and what both are on the disk and for the machine.
use Rattle.std.specs.Prelude.{◌≡◌, ℕ, Bool, IsTrue, min, length, List, Option, Some, None}
use Rattle.disk_model.specs.DiskSeen.{DiskSeen}
use Rattle.disk_model.specs.Moments.{Files}
use Rattle.chain_state.specs.Chain.{Indexed, IsIndexed}
use Rattle.chain_commands.specs.Event.{Command}
use Rattle.chain_commands.specs.RunState.{RunState}
use Rattle.name_store.specs.Drafting.{IsDraftOf, IsDraftOn, IsDraftFor, IsNextOf}
use Rattle.name_store.specs.Slicing.{SliceAnswer, IfAtLimit, LeavesSlice, StandsBehind, KeepsSliced}
use Rattle.name_store.specs.Stored.{Stored}
use Rattle.image_files.specs.SavingIndex.{IsTextOfIndex}
use Rattle.feed_frames.specs.Replies.{Reply}
use Rattle.bridge_core.specs.Bridge.{fault_reply}
use Rattle.bridge_core.specs.Bridged.{Bridged}
use Rattle.bridge_core.specs.Slicing.{slice_of, KeepsSliceAnswers}
use Rattle.bridge_core.specs.declared.slicing.SliceTurned.{SliceTurned}
use Rattle.bridge_core.specs.declared.slicing.SliceTurned.TheVariants.{Written, Selected, AreaLimit, Ended}
use Rattle.sliced_save.specs.Mirror.{Mirrored, MirrorsIndex}
use Rattle.sliced_save.specs.Sliced.{Sliced}
use Rattle.name_lister.specs.Saver.{Saver, IsSplit, more_reply, selected_reply, area_limit_reply}
use Rattle.name_lister.specs.declared.saving.Saving.{Saving}

-- of the text just those bytes were given that were written, and the draft is of an image as long as the text
pub record IsGiven (saving : Saving) : Type 0 where
  pub given : saving.slices.given ≡ min saving.draft.draft.written (length saving.slices.text)
  pub image : saving.draft.draft.image ≡ length saving.slices.text

-- ---- what is pinned

-- the text of each index that it mirrors, of which nothing was given
pub record IsPinnedOf (mirror : Mirrored) (slices : Sliced) : Type 0 where
  pub given : slices.given ≡ 0
  pub is_text : (index : Indexed) → IsIndexed index → MirrorsIndex index mirror → IsTextOfIndex index slices.text

abbrev pub IsPinnedBy : Option Mirrored → Sliced → Type 0
IsPinnedBy None slices = ⊥
IsPinnedBy (Some mirror) slices = IsPinnedOf mirror slices

-- ---- what runs

-- it is a draft beside the store
abbrev pub IsSavingOf : Stored → Option Saving → Type 0
IsSavingOf store None = Unit {0}
IsSavingOf store (Some saving) = IsDraftOf store saving.draft × IsGiven saving

-- the draft is on the disk
abbrev pub IsSavingOn : Stored → Option Saving → Files → Type 0
IsSavingOn store None files = Unit {0}
IsSavingOn store (Some saving) files = IsDraftOn store saving.draft saving.slices.text files

-- It is the machine's: its text is that of the index behind the older commands, and as many bytes were written.
pub record IsSaverOf (run : RunState) (saving : Saving) (saver : Saver) : Type 0 where
  pub newer : List Command
  pub older : List Command
  pub split : IsSplit saver run newer older
  pub draft : IsDraftFor run newer older saving.draft.from saver.text
  pub text_is : saving.slices.text ≡ saver.text
  pub written_is : saving.draft.draft.written ≡ saver.written

-- a save runs here exactly where one does in the machine
abbrev pub SavesFor : RunState → Option Saving → Option Saver → Type 0
SavesFor run None None = Unit {0}
SavesFor run None (Some saver) = ⊥
SavesFor run (Some saving) None = ⊥
SavesFor run (Some saving) (Some saver) = IsSaverOf run saving saver

-- ---- a slice

-- where bytes are left, just those of the text were given that were written
abbrev pub StaysGiven : SliceTurned → Sliced → Type 0
StaysGiven (Written bridge drafting) rest = IsGiven (record { draft = drafting; slices = rest })
StaysGiven (Selected bridge number) rest = Unit {0}
StaysGiven (AreaLimit bridge) rest = Unit {0}
StaysGiven Ended rest = Unit {0}

-- The next bytes of the text were handed to the bridge, which wrote a slice of at most so many bytes.
pub record WritesSlice {D : Type 0} (tells : Bool) (seen : D → DiskSeen) (bridge : Bridged) (saving : Saving) (most : ℕ) (before after : D) (turned : SliceTurned) (rest : Sliced) : Type 0 where
  pub piece : List ℕ
  pub next : IsNextOf saving.draft saving.slices.text piece
  pub answer : SliceAnswer bridge.store saving.draft most (slice_of turned)
  pub undone : IfAtLimit (after ≡ before) (slice_of turned)
  pub leaves : LeavesSlice tells bridge.store saving.draft piece (seen before) (seen after) (slice_of turned)
  pub stands : StandsBehind bridge.store saving.draft (slice_of turned)
  pub kept : IsTrue tells → KeepsSliced bridge.store saving.draft piece most (seen before) (seen after) (slice_of turned)
  pub answers : KeepsSliceAnswers bridge.answers turned
  pub text_is : rest.text ≡ saving.slices.text
  pub given : StaysGiven turned rest

-- what it is answered with
abbrev pub slice_reply : SliceTurned → Reply
slice_reply (Written bridge drafting) = more_reply
slice_reply (Selected bridge number) = selected_reply number
slice_reply (AreaLimit bridge) = area_limit_reply
slice_reply Ended = fault_reply

-- the bridge behind it, and the save that goes on
abbrev pub left_by : SliceTurned → Sliced → Option (Bridged × Option Saving)
left_by (Written bridge drafting) rest = Some (bridge, Some (record { draft = drafting; slices = rest }))
left_by (Selected bridge number) rest = Some (bridge, None)
left_by (AreaLimit bridge) rest = Some (bridge, None)
left_by Ended rest = None
