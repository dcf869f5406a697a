-- What an append leaves of the records of an area.
use Rattle.std.proofs.Common.{◌≡◌, ◌⊎◌, ℕ, ◌<◌, true, List, [], ◌∷◌, ◌++◌, sym, ◌∙◌, ap, subst}
use Rattle.disk_model.specs.FileState.{FileState, IsSettled}
use Rattle.disk_model.specs.Moments.{Files}
use Rattle.gate_journal.specs.Gate.{record_text, ClosedAfter}
use Rattle.gate_journal.specs.Records.{Fits, records_text, image_front, IsArea}
use Rattle.gate_journal.specs.Stand.{Stand, text_before, IsAtGate}
use Rattle.gate_journal.specs.Writes.{IsBeforeOrAfter}
use Rattle.gate_journal.proofs.GateLemmas.{gate_behind}
use Rattle.gate_journal.proofs.RecordLemmas.{with_or_without, records_before, front-push, pushed_fit}
use Rattle.index_commands.specs.Keeping.{HoldsRecords, KeepsOrAdds}

-- the journal of an area in a file, which has no more bytes than the longest
abbrev pub journal_at : (longest file area : ℕ) → Stand
journal_at longest file area = record { file = file; length = area; limit = longest; reached = true }

-- a settled file that has an image and these records
pub record Held (area : ℕ) (file : FileState) : Type 0 where
  pub settled : IsSettled file
  pub image : List ℕ
  pub records : List (List ℕ)
  pub holds : HoldsRecords area image records file.bytes

module _ (longest number area : ℕ) (file : FileState) (h : Held area file) where
  abbrev journal : Stand
  journal = journal_at longest number area

  abbrev front : List ℕ
  front = image_front h.image

  behind : IsAtGate journal file × (text_before journal file.bytes ≡ front ++ records_text h.records)
  behind = gate_behind journal file front h.records h.settled h.holds.is_area h.holds.length_is

  pub stands_at_gate : IsAtGate journal file
  stands_at_gate = behind.0

  module _ (record_is : List ℕ) (fits : Fits record_is) where
    -- with one record more
    pub added : (length_is : ℕ) (new : FileState) → 0 < length_is → IsAtGate (journal_at longest number length_is) new
        → text_before (journal_at longest number length_is) new.bytes ≡ text_before journal file.bytes ++ record_text record_is → IsArea h.image (h.records ++ record_is ∷ []) new.bytes
    added length_is new some at_gate text =
        records_before (journal_at longest number length_is) new front (h.records ++ record_is ∷ []) some at_gate
        (text ∙ ap (λ (l : List ℕ). l ++ record_text record_is) behind.1 ∙ sym (front-push front h.records record_is)) (pushed_fit h.records record_is h.holds.is_area.fit fits)

    pub either : (old files : Files) → IsBeforeOrAfter number (text_before journal file.bytes) (text_before journal file.bytes ++ record_text record_is) old files
        → KeepsOrAdds number h.image h.records record_is old files
    either old files both = record {
      image_is = λ crashed is. with_or_without front h.records record_is crashed h.holds.is_area.fit fits
          (subst (λ (l : List ℕ). ClosedAfter l crashed ⊎ ClosedAfter (l ++ record_text record_is) crashed) behind.1 (both.image crashed is));
      others = both.others;
    }
