-- Feeding an image piece by piece.
use Rattle.std.proofs.Common.{◌≡◌, ◌≢◌, ℕ, ◌+◌, ◌≤◌, ◌^◌, Bool, List, [], ◌++◌, length, take, drop, refl, sym, ◌∙◌, ap, subst, arith, take-append-drop}
use Rattle.std.specs.Prelude.{Ok, Err, IsTrue}
use Rattle.std.proofs.lemmas.List.{take-take, drop-drop}
use Rattle.disk_model.specs.Reads.{IsRead}
use Rattle.gate_journal.proofs.ReadLemmas.{take_more_of}
use Rattle.undo_records.specs.declared.fault.FaultKind.TheVariants.{Cut, BadTag, Unsorted}
use Rattle.image_grammar.specs.Resuming.{Answer}
use Rattle.image_grammar.specs.Stages.{Gathered}
use Rattle.state_image.specs.Answers.{IsImageAnswer, place_by}
use Rattle.state_image.specs.Loading.{Loading, HasRead, Takes}
use Rattle.state_image.specs.declared.fault.ImageFault.{ImageFault}
use Rattle.state_image.specs.declared.fault.ImageFault.TheVariants as image
use Rattle.image_files.specs.declared.fault.ReadFault.{ReadFault}
use Rattle.image_files.specs.declared.fault.ReadFault.TheVariants.{Damaged, DiskFault, NoMemory}
use Rattle.image_files.specs.Faults.{of_image, HasPlace}
use Rattle.image_files.specs.Fronts.{behind_length}
use Rattle.image_files.specs.Indexes.{IsDamagedAt}
use Rattle.image_files.specs.Reading.{HasFed, Feeds, FedAnswer}

-- ---- places

place_low : (text : List ℕ) (at : ℕ) (answer : Answer Gathered) → at ≡ place_by text answer → at ≤ length text
place_low text at (Ok x) is = omega arith
place_low text at (Err (Cut, rest)) is = omega arith
place_low text at (Err (BadTag, rest)) is = omega arith
place_low text at (Err (Unsorted, rest)) is = omega arith

pub end_place : (text : List ℕ) (fault : ImageFault) → length text ≤ 2 ^ 37 → IsImageAnswer text (Err fault) → HasPlace fault
end_place text (image.Damaged at) low damaged = omega (arith, low, place_low text at _ damaged.at_is)
end_place text image.NoMemory low none = tt

pub piece_place : (text : List ℕ) (l : Loading) (fault : ImageFault) → length text ≤ 2 ^ 37 → Takes text l (Err fault) → HasPlace fault
piece_place text l (image.Damaged at) low stopped = omega (arith, low, stopped.shows.at_is)
piece_place text l image.NoMemory low none = tt

-- ---- one piece

pub feeds_fault : (T : Type 0) (text : List ℕ) (l : Loading) (fault : ImageFault) → Takes text l (Err fault) → Feeds text l {T = T} (Err (of_image fault))
feeds_fault T text l (image.Damaged at) stopped = λ more. record { place = at; damaged = stopped.damaged more; at_is = refl }
feeds_fault T text l image.NoMemory none = tt

-- a fault of a text's front is one of the text
pub front_fault : (T U : Type 0) (text more whole : List ℕ) (l : Loading) (fault : ReadFault) → text ++ more ≡ whole → Feeds text l {T = T} (Err fault) → FedAnswer whole {T = U} (Err fault)
front_fault T U text more whole l (Damaged at) is feeds = subst (λ (w : List ℕ). IsDamagedAt w at) is (feeds more)
front_fault T U text more whole l DiskFault is feeds = tt
front_fault T U text more whole l NoMemory is feeds = tt

-- what was read behind the bytes that were fed
pub read_more : (file into : List ℕ) (fed room n count : ℕ) → IsRead file (8 + fed) room n into → count ≤ n → behind_length (fed + count) file ≡ behind_length fed file ++ take count into
read_more file into fed room n count read few =
    let here : take count (drop fed (drop 8 file)) ≡ take count into =
    ap (λ (l : List ℕ). take count l) (drop-drop fed 8 file) ∙ sym (take-take count n (drop (8 + fed) file) few) ∙ ap (λ (l : List ℕ). take count l) (sym read.same) ∙ take-take count n into few in
    take_more_of fed count (drop 8 file) ∙ ap (λ (l : List ℕ). behind_length fed file ++ l) here

-- the rest of the image stands behind them
pub rest_of : (file : List ℕ) (fed all : ℕ) → fed ≤ all → behind_length fed file ++ drop fed (behind_length all file) ≡ behind_length all file
rest_of file fed all low = ap (λ (l : List ℕ). l ++ drop fed (behind_length all file)) (sym (take-take fed all (drop 8 file) low)) ∙ take-append-drop fed (behind_length all file)

module _ (tells : Bool) (file : List ℕ) (old : Loading) (has : HasFed tells file old) where
  pub fed_more : (into : List ℕ) (room n count : ℕ) (new : Loading) → (IsTrue tells → IsRead file (8 + old.fed) room n into) → count ≤ n → new.fed ≡ old.fed + count
      → HasRead (has.text ++ take count into) new → HasFed tells file new
  fed_more into room n count new read few fed has_read = record {
    text = has.text ++ take count into;
    read = has_read;
    is_front = λ told.
        ap (λ (l : List ℕ). l ++ take count into) (has.is_front told) ∙ sym (read_more file into old.fed room n count (read told) few) ∙ ap (λ (k : ℕ). behind_length k file) (sym fed);
  }

  pub fed_fault : (T U : Type 0) (into : List ℕ) (room n count left : ℕ) (new : Loading) (fault : ReadFault) → (IsTrue tells → IsRead file (8 + old.fed) room n into) → count ≤ n → count ≤ left
      → Feeds (has.text ++ take count into) new {T = T} (Err fault) → IsTrue tells → FedAnswer (behind_length (old.fed + left) file) {T = U} (Err fault)
  fed_fault T U into room n count left new fault read few within feeds told =
      let all = behind_length (old.fed + left) file in
      let front : has.text ++ take count into ≡ behind_length (old.fed + count) file =
      ap (λ (l : List ℕ). l ++ take count into) (has.is_front told) ∙ sym (read_more file into old.fed room n count (read told) few) in
      front_fault T U (has.text ++ take count into) (drop (old.fed + count) all) all new fault
      (ap (λ (l : List ℕ). l ++ drop (old.fed + count) all) front ∙ rest_of file (old.fed + count) (old.fed + left) (omega (arith, within))) feeds

-- nothing was fed yet
pub none_fed : (tells : Bool) (file : List ℕ) (l : Loading) → HasRead [] l → HasFed tells file l
none_fed tells file l read = record { text = []; read = read; is_front = λ told. ap (λ (k : ℕ). behind_length k file) (sym read.fed) }

-- of the same file, where the disk tells it
pub fed_same : (tells : Bool) (a b : List ℕ) (l : Loading) → (IsTrue tells → a ≡ b) → HasFed tells a l → HasFed tells b l
fed_same tells a b l same has = record { text = has.text; read = has.read; is_front = λ told. has.is_front told ∙ ap (λ (file : List ℕ). behind_length l.fed file) (same told) }

pub piece_fault : (text : List ℕ) (fault : ReadFault) → FedAnswer text {T = ℕ} (Err fault) → FedAnswer text {T = Unit {0}} (Err fault)
piece_fault text (Damaged at) bad = bad
piece_fault text DiskFault none = tt
piece_fault text NoMemory none = tt

pub feed_not_disk : (T : Type 0) (text : List ℕ) (l : Loading) (fault : ReadFault) → Feeds text l {T = T} (Err fault) → fault ≢ DiskFault
feed_not_disk T text l (Damaged at) feeds same = cc
feed_not_disk T text l DiskFault feeds same = feeds
feed_not_disk T text l NoMemory feeds same = cc
