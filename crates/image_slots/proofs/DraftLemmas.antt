-- What the calls of a draft leave.
use Rattle.std.proofs.Common.{◌≡◌, ℕ, ◌+◌, Bool, List, [], ◌∷◌, ◌++◌, length, take, drop, Ok, Err, refl, sym, ◌∙◌, ap, subst, arith, append_assoc, length-append}
use Rattle.std.specs.Prelude.{◌≢◌, Result, IsErrAnd}
use Rattle.std.specs.Int.{w64, to_le_bytes}
use Rattle.std.proofs.lemmas.List.{append-nil, take_all, drop_all}
use Rattle.disk_model.specs.FileState.{FileState, put}
use Rattle.disk_model.specs.Moments.{Moments, EachMoment, start}
use Rattle.disk_model.specs.Changes.{Changes, LeavesOthers}
use Rattle.disk_model.specs.DiskSeen.{DiskSeen}
use Rattle.disk_model.proofs.MomentLemmas.{weaken, join, last_moment}
use Rattle.gate_journal.specs.Gate.{ClosedAfter}
use Rattle.gate_journal.specs.Records.{IsArea, image_front, records_text}
use Rattle.gate_journal.proofs.AppendLemmas.{closed_front}
use Rattle.image_slots.specs.Slotted.{Slotted}
use Rattle.image_slots.specs.Drafted.{Drafted, DraftHolds, DraftHoldsArea}
use Rattle.image_slots.specs.Answers.{RefusalAnswer}
use Rattle.image_slots.specs.Calls.{Begins}
use Rattle.image_slots.specs.declared.faults.DraftFault.{DraftFault}
use Rattle.image_slots.specs.declared.faults.DraftFault.TheVariants.{DiskFault}

-- ---- what a call leaves of the other files

module _ (file : ℕ) (change : FileState → FileState → Type 0) (old m1 : Moments) where
  pub leaves : EachMoment (Changes file change old.now) old m1 → EachMoment (LeavesOthers file old.now) old m1
  leaves did = weaken (LeavesOthers file old.now) (λ files so. so.others) did

  pub leaves_more : (m2 : Moments) → EachMoment (LeavesOthers file old.now) old m1 → EachMoment (Changes file change m1.now) m1 m2 → EachMoment (LeavesOthers file old.now) old m2
  leaves_more m2 so_far did = join so_far (weaken (LeavesOthers file old.now) (λ files so. λ other differ. so.others other differ ∙ last_moment so_far other differ) did)

-- ---- what the area holds

-- a piece put at the end
put_end : (bytes piece : List ℕ) (at : ℕ) → at ≡ length bytes → put bytes at piece ≡ bytes ++ piece
put_end bytes piece at is =
    let front : take at bytes ≡ bytes = take_all at bytes (omega (arith, is)) in
    let rest : drop (at + length piece) bytes ≡ [] = drop_all (at + length piece) bytes (omega (arith, is)) in
    (λ i. front i ++ (piece ++ rest i)) ∙ ap (λ (l : List ℕ). bytes ++ l) (append-nil piece)

module _ (draft : Drafted) (pieces bytes : List ℕ) (holds : DraftHolds draft pieces bytes) where
  end_is : 8 + draft.written ≡ length bytes
  end_is = omega (arith, holds.written, ap length holds.bytes, length-append (to_le_bytes w64 draft.image) pieces)

  pub holds_more : (piece new : List ℕ) → new ≡ put bytes (8 + draft.written) piece → DraftHolds (record draft { written = draft.written + length piece }) (pieces ++ piece) new
  holds_more piece new wrote = record {
    bytes = wrote ∙ put_end bytes piece (8 + draft.written) end_is ∙ ap (λ (l : List ℕ). l ++ piece) holds.bytes ∙ append_assoc (to_le_bytes w64 draft.image) pieces piece;
    written = omega (arith, holds.written, length-append pieces piece);
  }

  pub whole_is : (new : List ℕ) → new ≡ put bytes (8 + draft.written) (0 ∷ []) → new ≡ (to_le_bytes w64 draft.image ++ pieces) ++ 0 ∷ []
  whole_is new wrote = wrote ∙ put_end bytes (0 ∷ []) (8 + draft.written) end_is ∙ ap (λ (l : List ℕ). l ++ 0 ∷ []) holds.bytes

-- an image, records and a closed gate are an area
pub area_is : (draft : Drafted) (image : List ℕ) (records : List (List ℕ)) (bytes new : List ℕ) → DraftHoldsArea draft image records bytes
    → new ≡ (to_le_bytes w64 draft.image ++ (image ++ records_text records)) ++ 0 ∷ [] → IsArea image records new
area_is draft image records bytes new has is =
    let text = image_front image ++ records_text records in
    let same : to_le_bytes w64 draft.image ++ (image ++ records_text records) ≡ text =
    ap (λ (n : ℕ). to_le_bytes w64 n ++ (image ++ records_text records)) has.size ∙ sym (append_assoc (to_le_bytes w64 (length image)) image (records_text records)) in
    record {
      closed = subst (ClosedAfter text) (sym (is ∙ ap (λ (l : List ℕ). l ++ 0 ∷ []) same)) (closed_front text [] 0 (omega arith));
      fit = has.fit;
    }

-- where a limit is passed, nothing is done
pub refused : (tells : Bool) (slots : Slotted) (image : ℕ) (disk : DiskSeen) (fault : DraftFault) (result : Result Drafted DraftFault) → RefusalAnswer slots.limits slots.count image fault
    → fault ≢ DiskFault → IsErrAnd result (λ e. e ≡ fault) → Begins tells slots image disk disk result
refused tells slots image disk fault (Ok draft) why no_disk told = absurd told
refused tells slots image disk fault (Err e) why no_disk told = subst (λ (f : DraftFault). Begins tells slots image disk disk (Err f)) (sym told) (record {
  answer = why;
  holds = λ tells. tt;
  others = λ tells. start (λ other differ. refl);
  ends = record { later = record { count = omega arith; at_limit = λ h. h }; worked = tt; none = tt; failed = λ is. absurd (no_disk cc) };
})
