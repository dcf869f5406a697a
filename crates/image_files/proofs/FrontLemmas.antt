-- The front of a file, by the eight bytes that were read of it.
use Rattle.std.proofs.Common.{◌≡◌, ℕ, ◌+◌, ◌≤◌, List, ◌++◌, length, take, drop, sym, ◌∙◌, ap, subst, arith, length-take, length-drop}
use Rattle.std.specs.Int.{w64, to_le_bytes, from_le_bytes}
use Rattle.std.proofs.lemmas.List.{take_all}
use Rattle.disk_model.specs.Reads.{IsRead}
use Rattle.gate_journal.specs.Records.{image_front}
use Rattle.gate_journal.proofs.ReadLemmas.{take_more_of}
use Rattle.image_files.specs.Fronts.{LiesInside, HasFrontWithin, HasLength, HasLengthWithin, image_length_at, image_at, behind_length}

module _ (file into : List ℕ) (n : ℕ) (read : IsRead file 0 8 n into) (whole : length into ≡ 8) (image : ℕ) (image_is : image ≡ from_le_bytes w64 into) (longest : ℕ) where
  bytes_read : 8 ≤ length file → into ≡ take 8 file
  bytes_read long =
      let is : n ≡ 8 = omega (arith, read.count) in
      sym (take_all 8 into (omega (arith, whole))) ∙ subst (λ (k : ℕ). take k into ≡ take k file) is read.same

  length_read : 8 ≤ length file → image ≡ image_length_at file
  length_read long = image_is ∙ ap (λ (l : List ℕ). from_le_bytes w64 l) (bytes_read long)

  pub front_read : LiesInside longest image (length file) → to_le_bytes w64 image ≡ into → HasLengthWithin longest file image
  front_read lies bytes =
      let long : 8 ≤ length file = omega (arith, lies.long) in
      record {
        front = subst (λ (k : ℕ). LiesInside longest k (length file)) (length_read long) lies;
        length_is = length_read long;
        bytes = bytes ∙ bytes_read long;
      }

  pub no_front_read : ¬ (LiesInside longest image (length file)) → ¬ (HasFrontWithin longest file)
  no_front_read not front = not (subst (λ (k : ℕ). LiesInside longest k (length file)) (sym (length_read (omega (arith, front.long)))) front)

-- ---- the image behind

module _ (file : List ℕ) (image : ℕ) (has : HasLength file image) where
  pub image_is : behind_length image file ≡ image_at file
  image_is = ap (λ (k : ℕ). behind_length k file) has.length_is

  pub lies_inside : 9 + image ≤ length file
  lies_inside = subst (λ (k : ℕ). 9 + k ≤ length file) (sym has.length_is) has.front.inside

  pub image_size : length (image_at file) ≡ image
  image_size = sym (ap (λ (l : List ℕ). length l) image_is) ∙ omega (arith, length-take image (drop 8 file), length-drop 8 file, lies_inside)

  pub front_begins : take (8 + image) file ≡ image_front (image_at file)
  front_begins =
      take_more_of 8 image file ∙ (λ i. sym has.bytes i ++ image_is i) ∙ ap (λ (k : ℕ). to_le_bytes w64 k ++ image_at file) (sym image_size)
