-- The place of damage is that of the fault by the grammar.
use Rattle.std.proofs.Common.{◌≡◌, ◌⊎◌, inl, inr, ℕ, ◌-◌, List, [], length, refl, sym, ap, subst, ◌∙◌, arith}
use Rattle.std.specs.Prelude.{Err}
use Rattle.block_grammar.proofs.Readers.{IsBytes}
use Rattle.block_grammar.proofs.ReaderLaws.{err_is, ok_err}
use Rattle.undo_records.specs.declared.fault.FaultKind.{FaultKind}
use Rattle.undo_records.specs.declared.fault.FaultKind.TheVariants.{Cut, BadTag, Unsorted}
use Rattle.undo_records.proofs.Laws.{Spot}
use Rattle.image_grammar.specs.Answers.{IsWhole}
use Rattle.image_faults.specs.Faults.{HasImageFault}
use Rattle.image_grammar.specs.Image.{image_told}
use Rattle.image_grammar.specs.Stages.{image_from}
use Rattle.image_faults.proofs.FaultLaws.{bad_faults, fault_cases, fault_told, fault_only}
use Rattle.image_faults.proofs.RunLaws.{told_of}
use Rattle.image_grammar.proofs.WholeLaws.{text_again}
use Rattle.state_image.specs.Answers.{place_by, IsDamaged}

-- where the text ends too early, nothing is behind the place
cut_end : (text rest : List ℕ) → IsBytes text → image_from text ≡ Err (Cut, rest) → rest ≡ []
cut_end text rest are h =
    elim (fault_cases text (Cut, rest) are h) [
      | inl end ↦ ap (λ (s : Spot). s.1) end
      | inr b ↦ let f = bad_faults text rest are b in absurd (f.no_end (ap (λ (s : Spot). s.0) (err_is (f.kind, rest) (Cut, rest) (sym f.reads ∙ h))))
    ]

place_at : (text : List ℕ) (kind : FaultKind) (rest : List ℕ) → IsBytes text → image_from text ≡ Err (kind, rest) → place_by text (Err (kind, rest)) ≡ length text - length rest
place_at text Cut rest are h = let none = cut_end text rest are h in omega (arith, ap (λ (l : List ℕ). length l) none)
place_at text BadTag rest are h = refl
place_at text Unsorted rest are h = refl

place_is : (text : List ℕ) (e : Spot) → IsBytes text → image_from text ≡ Err e → place_by text (image_from text) ≡ length text - length e.1
place_is text e are h = ap (place_by text) h ∙ place_at text e.0 e.1 are h

pub fault_damages : (text : List ℕ) (at : ℕ) → IsBytes text → HasImageFault text at → IsDamaged text at
fault_damages text at are has =
    let f = fault_only text at are has in
    record {
      none = λ version image is. subst (IsWhole (image_told version image)) (ap image_from (sym is.text_is) ∙ f.reads) (text_again version image is.has_text);
      at_is = f.at_is ∙ sym (place_is text f.fault are f.reads);
    }

pub damage_only : (text : List ℕ) (at : ℕ) → IsBytes text → IsDamaged text at → HasImageFault text at ⊎ (((place : ℕ) → HasImageFault text place → ⊥) × (at ≡ 0))
damage_only text at are damaged =
    elim (told_of (image_from text)) [
      | inl x ↦ inr (λ place has. let f = fault_only text place are has in ok_err (image_from text) x.0 f.fault x.1 f.reads, damaged.at_is ∙ ap (place_by text) x.1)
      | inr e ↦ inl (subst (HasImageFault text) (sym (damaged.at_is ∙ place_is text e.0 are e.1)) (fault_told text e.0 are e.1))
    ]
