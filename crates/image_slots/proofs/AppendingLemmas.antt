-- What an append leaves of the selections.
use Rattle.std.proofs.Common.{◌≡◌, ◌⊎◌, inl, inr, ℕ, suc, ◌+◌, ◌*◌, ◌<◌, true, List, [], ◌∷◌, ◌++◌, length, sym, ◌∙◌, ap, subst, arith, length-append}
use Rattle.disk_model.specs.FileState.{FileState, IsFileImage}
use Rattle.disk_model.specs.Moments.{Files}
use Rattle.disk_model.proofs.ImageLemmas.{IsSettled-image}
use Rattle.gate_journal.specs.Gate.{record_text, ClosedAfter}
use Rattle.gate_journal.specs.Records.{records_text}
use Rattle.gate_journal.specs.Stand.{Stand, text_before, IsAtGate}
use Rattle.gate_journal.specs.Writes.{IsBeforeOrAfter}
use Rattle.gate_journal.proofs.GateLemmas.{gate_behind}
use Rattle.gate_journal.proofs.RecordLemmas.{with_or_without, records_before, front-push}
use Rattle.image_slots.specs.Selections.{HasSelections, selections, next_selection, selections_limit, selections_file}
use Rattle.image_slots.specs.Slotted.{Slotted, AreOn, KeepsOrSelects, with_one_more}
use Rattle.image_slots.proofs.SelectionLemmas.{text_size, all_fit}

-- the journal of the selections, at the gate behind so many
abbrev pub journal_of : Slotted → Stand
journal_of slots = record { file = selections_file; length = slots.at + 6 * slots.count + 1; limit = selections_limit slots.at slots.limits.selections; reached = true }

module _ (front : List ℕ) (slots : Slotted) (file : FileState) (on : AreOn front slots file) where
  abbrev before : List ℕ
  before = front ++ records_text (selections slots.count)

  abbrev next : List ℕ
  next = next_selection slots.count

  place : slots.at + 6 * slots.count + 1 ≡ length before + 1
  place = omega (arith, on.at_is, length-append front (records_text (selections slots.count)), text_size slots.count)

  pub stands_at_gate : IsAtGate (journal_of slots) file
  stands_at_gate = (gate_behind (journal_of slots) file front (selections slots.count) on.settled on.has place).0

  text_is : text_before (journal_of slots) file.bytes ≡ before
  text_is = (gate_behind (journal_of slots) file front (selections slots.count) on.settled on.has place).1

  one_more : (image : List ℕ) → HasSelections front (suc slots.count) image → HasSelections front (slots.count + 1) image
  one_more image has = let raised : suc slots.count ≡ slots.count + 1 = omega arith in subst (λ (n : ℕ). HasSelections front n image) raised has

  -- one selection more
  pub added : (stand : Stand) (new : FileState) → 0 < stand.length → IsAtGate stand new → text_before stand new.bytes ≡ text_before (journal_of slots) file.bytes ++ record_text next
      → AreOn front (with_one_more slots) new
  added stand new some at_gate text = record {
    settled = at_gate.settled;
    at_is = on.at_is;
    has = one_more new.bytes (records_before stand new front (selections slots.count ++ next ∷ []) some at_gate
        (text ∙ ap (λ (l : List ℕ). l ++ record_text next) text_is ∙ sym (front-push front (selections slots.count) next)) (all_fit (suc slots.count)));
  }

  -- or as before
  pub either : (old files : Files) → IsBeforeOrAfter selections_file (text_before (journal_of slots) file.bytes) (text_before (journal_of slots) file.bytes ++ record_text next) old files
      → KeepsOrSelects front slots.count old files
  either old files both = record {
    image = λ image is. elim (with_or_without front (selections slots.count) next image (all_fit slots.count) (omega arith)
        (subst (λ (l : List ℕ). ClosedAfter l image ⊎ ClosedAfter (l ++ record_text next) image) text_is (both.image image is))) [
          | inl kept ↦ inl kept
          | inr more ↦ inr (one_more image more)
        ];
    others = both.others;
  }

-- a crash leaves them
pub lasting : (front : List ℕ) (slots : Slotted) (file : FileState) → AreOn front slots file → (image : List ℕ) → IsFileImage file image → HasSelections front slots.count image
lasting front slots file on image is = subst (HasSelections front slots.count) (sym (IsSettled-image file image on.settled is)) on.has
