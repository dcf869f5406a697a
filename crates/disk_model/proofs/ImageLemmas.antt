-- What is known of the images of a file.
use Rattle.std.proofs.Common.{◌≡◌, inl, inr, ℕ, ◌<◌, List, length, refl, sym, ◌∙◌, subst, arith}
use Rattle.std.proofs.lemmas.Bool.{cases_eq}
use Rattle.std.proofs.lemmas.List.{ext_get_or}
use Rattle.disk_model.specs.FileState.{FileState, IsFileImage, IsSettled}
use Rattle.disk_model.specs.Moments.{Files, Moments, EachMoment, IsImage}
use Rattle.disk_model.specs.Changes.{Changes, AfterSync, KeepsSettled, Unchanged}
use Rattle.disk_model.proofs.MomentLemmas.{weaken, join, last_moment}

-- of a settled file there is one
pub IsSettled-image : (file : FileState) (image : List ℕ) → IsSettled file → IsFileImage file image → image ≡ file.bytes
IsSettled-image file image settled is =
    let size : length image ≡ length file.bytes = omega (arith, settled.no_shorter, settled.no_longer, is.no_shorter, is.no_longer) in
    ext_get_or 0 image file.bytes size (λ p low. let within : p < length file.bytes = omega arith in is.kept p (settled.each p within))

-- a sync adds none
pub AfterSync-image : (old new : FileState) (image : List ℕ) → AfterSync old new → IsFileImage new image → IsFileImage old image
AfterSync-image old new image synced is = record {
  no_shorter = omega (arith, synced.no_shorter, is.no_shorter);
  no_longer = omega (arith, synced.no_longer, is.no_longer);
  inside = λ p settled. is.inside p (synced.kept p settled).settled;
  kept = λ p settled. let stays = synced.kept p settled in is.kept p stays.settled ∙ stays.same;
}

-- a file that is as it was keeps what was settled
pub AfterSync-same : (file : FileState) → AfterSync file file
AfterSync-same file = record {
  kept = λ p settled. record { settled = settled; same = refl };
  no_shorter = omega arith;
  no_longer = omega arith;
}

pub AfterSync-then : (old mid new : FileState) → AfterSync old mid → AfterSync mid new → AfterSync old new
AfterSync-then old mid new a b = record {
  kept = λ p settled. let first = a.kept p settled in let second = b.kept p first.settled in record { settled = second.settled; same = second.same ∙ first.same };
  no_shorter = omega (arith, a.no_shorter, b.no_shorter);
  no_longer = omega (arith, a.no_longer, b.no_longer);
}

pub KeepsSettled-sync : (file : ℕ) (old new : Files) → Changes file AfterSync old new → KeepsSettled old new
KeepsSettled-sync file old new so k = elim (cases_eq k file) [
  | inl same ↦ subst (λ (n : ℕ). AfterSync (old n) (new n)) (sym same) so.here
  | inr differ ↦ subst (AfterSync (old k)) (sym (so.others k differ)) (AfterSync-same (old k))
]

pub KeepsSettled-images : (old new : Files) (image : ℕ → List ℕ) → KeepsSettled old new → IsImage new image → IsImage old image
KeepsSettled-images old new image so is = λ k low. AfterSync-image (old k) (new k) (image k) (so k) (is k low)

-- ---- at each moment

pub keeps_unchanged : {old new : Moments} → EachMoment (Unchanged old.now) old new → EachMoment (KeepsSettled old.now) old new
keeps_unchanged {old} each = weaken (KeepsSettled old.now) (λ files same. λ k. subst (λ (f : Files). AfterSync (old.now k) (f k)) (sym same) (AfterSync-same (old.now k))) each

pub keeps_synced : (file : ℕ) {old new : Moments} → EachMoment (Changes file AfterSync old.now) old new → EachMoment (KeepsSettled old.now) old new
keeps_synced file {old} each = weaken (KeepsSettled old.now) (λ files so. KeepsSettled-sync file old.now files so) each

pub keeps_then : {old mid new : Moments} → EachMoment (KeepsSettled old.now) old mid → EachMoment (KeepsSettled mid.now) mid new → EachMoment (KeepsSettled old.now) old new
keeps_then {old} {mid} first second = join first (weaken (KeepsSettled old.now) (λ files so. λ k. AfterSync-then (old.now k) (mid.now k) (files k) (last_moment first k) (so k)) second)
