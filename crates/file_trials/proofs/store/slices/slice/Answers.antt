use Rattle.std.proofs.Common.{◌≡◌, ◌+◌, ◌-◌, List, ℕ, Bool, length, take, drop, sym, ◌∙◌, ap, arith, length-take, length-drop}
use Rattle.disk_model.specs.DiskSeen.{DiskSeen}
use Rattle.name_store.specs.Stored.{Stored}
use Rattle.name_store.specs.Drafting.{Drafting, IsNextOf}
use Rattle.name_store.specs.Slicing.{SliceAnswer, LeavesSlice}
use Rattle.name_store.specs.declared.slicing.SliceOutcome.{SliceOutcome}
use Rattle.name_store.specs.declared.slicing.SliceOutcome.TheVariants.{Written, Selected, AreaLimit, Faulted}
use Rattle.file_trials.specs.Slices.{IsGoing, GoesOn}
use Rattle.file_trials.proofs.store.slices.slice.Goals as goal

-- a slice that was written is one more of the save
goes_on : (tells : Bool) (image : List ℕ) (written most : ℕ) (store : Stored) (draft : Drafting) (piece : List ℕ) (before after : DiskSeen) → IsGoing tells image written store draft before.moments.now
    → IsNextOf draft image piece → (outcome : SliceOutcome) → SliceAnswer store draft most outcome → LeavesSlice tells store draft piece before after outcome → GoesOn tells image (written + most) after.moments.now outcome
goes_on tells image written most store draft piece before after going next (Written new more) answer leaves = record {
  is_draft = answer.is_draft;
  size = ap (λ (d : Drafting). d.draft.image) answer.drafting_is ∙ going.size;
  written_is = ap (λ (d : Drafting). d.draft.written) answer.drafting_is ∙ ap (λ (n : ℕ). n + most) going.written_is;
  on_disk = leaves.ends.2;
  drafted = λ told. leaves.written told image (going.drafted told) next;
}
goes_on tells image written most store draft piece before after going next (Selected new number) answer leaves = tt
goes_on tells image written most store draft piece before after going next (AreaLimit new) answer leaves = tt
goes_on tells image written most store draft piece before after going next Faulted answer leaves = tt

pub returns : goal.returns
returns g c =
    let image = c.args.image.now in
    let rest = drop c.args.written image in
    let count = c.min-end.result - c.args.written in
    let piece = take count rest in
    let size : length piece ≡ count = omega (arith, length-take count rest, length-drop c.args.written image, c.min-end.ensures, c.requires.within) in
    let next : IsNextOf c.args.begun.1 image piece = ap (λ (n : ℕ). take n rest) (sym size) ∙ ap (λ (n : ℕ). take (length piece) (drop n image)) (sym c.requires.going.written_is) in
    goes_on g.D.Disk.tells image c.args.written c.args.most c.args.begun.0 c.args.begun.1 piece (g.D.Disk.seen c.args.disk.now) (g.D.Disk.seen c.slice.new.disk) c.requires.going next c.slice.result
    c.slice.ensures.answer c.slice.ensures.leaves
