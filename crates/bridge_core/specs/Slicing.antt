-- What came of the begin of a save in slices, and of a slice, as the store says it; and the answers that are kept.
use Rattle.std.specs.Prelude.{◌≡◌}
use Rattle.kept_answers.specs.Answering.{Answering}
use Rattle.name_store.specs.declared.drafting.DraftOutcome.{DraftOutcome}
use Rattle.name_store.specs.declared.drafting.DraftOutcome.TheVariants as drafts
use Rattle.name_store.specs.declared.slicing.SliceOutcome.{SliceOutcome}
use Rattle.name_store.specs.declared.slicing.SliceOutcome.TheVariants as slices
use Rattle.bridge_core.specs.declared.slicing.DraftTurned.{DraftTurned}
use Rattle.bridge_core.specs.declared.slicing.DraftTurned.TheVariants.{Begun, Refused, Ended}
use Rattle.bridge_core.specs.declared.slicing.SliceTurned.{SliceTurned}
use Rattle.bridge_core.specs.declared.slicing.SliceTurned.TheVariants as turned
use Rattle.bridge_core.specs.declared.slicing.SliceTurned.TheVariants.{Written, Selected, AreaLimit}

-- ---- the store in them

abbrev pub draft_of : DraftTurned → DraftOutcome
draft_of (Begun bridge drafting) = drafts.Begun bridge.store drafting
draft_of (Refused bridge refusal) = drafts.Refused bridge.store refusal
draft_of Ended = drafts.Faulted

abbrev pub slice_of : SliceTurned → SliceOutcome
slice_of (Written bridge drafting) = slices.Written bridge.store drafting
slice_of (Selected bridge number) = slices.Selected bridge.store number
slice_of (AreaLimit bridge) = slices.AreaLimit bridge.store
slice_of turned.Ended = slices.Faulted

-- ---- the answers stay

abbrev pub KeepsDraftAnswers : Answering → DraftTurned → Type 0
KeepsDraftAnswers old (Begun bridge drafting) = bridge.answers ≡ old
KeepsDraftAnswers old (Refused bridge refusal) = bridge.answers ≡ old
KeepsDraftAnswers old Ended = Unit {0}

abbrev pub KeepsSliceAnswers : Answering → SliceTurned → Type 0
KeepsSliceAnswers old (Written bridge drafting) = bridge.answers ≡ old
KeepsSliceAnswers old (Selected bridge number) = bridge.answers ≡ old
KeepsSliceAnswers old (AreaLimit bridge) = bridge.answers ≡ old
KeepsSliceAnswers old turned.Ended = Unit {0}
