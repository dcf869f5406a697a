-- What a piece leaves of a draft and of its text.
use Rattle.std.proofs.Common.{◌≡◌, ℕ, List, [], ◌∷◌, ◌++◌, length, take, drop, Ok, Err, refl, sym, ◌∙◌, ap, subst, arith, append_assoc}
use Rattle.std.specs.Prelude.{Result, OnOk}
use Rattle.std.specs.Int.{w64, to_le_bytes}
use Rattle.std.proofs.lemmas.List.{append-nil, take-append-drop}
use Rattle.disk_model.specs.Moments.{Moments, EachMoment}
use Rattle.disk_model.specs.Changes.{LeavesOthers}
use Rattle.disk_model.proofs.MomentLemmas.{weaken, join, last_moment}
use Rattle.disk_model.specs.FileState.{FileState}
use Rattle.gate_journal.proofs.RecordLemmas.{none_fit}
use Rattle.image_slots.specs.Drafted.{Drafted, DraftHolds, DraftHoldsArea}
use Rattle.image_files.specs.Saving.{HasImage, HasArea}
use Rattle.image_files.specs.Pieces.{IsDrafted}

-- the pieces and this one more
pub written_on : (image : List ℕ) (old : Drafted) (text file : List ℕ) (is : IsDrafted image old text file) (count : ℕ) (new : Drafted) (after : List ℕ)
    → DraftHolds new (is.pieces ++ take count text) after → IsDrafted image new (drop count text) after
written_on image old text file is count new after holds = record {
  pieces = is.pieces ++ take count text;
  whole = append_assoc is.pieces (take count text) (drop count text) ∙ ap (λ (l : List ℕ). is.pieces ++ l) (take-append-drop count text) ∙ is.whole;
  holds = holds;
}

-- nothing is left: the pieces are the image
pub all_written : (image : List ℕ) (draft : Drafted) (text file : List ℕ) → IsDrafted image draft text file → text ≡ [] → DraftHolds draft image file
all_written image draft text file is none =
    subst (λ (l : List ℕ). DraftHolds draft l file) (sym (append-nil is.pieces) ∙ ap (λ (l : List ℕ). is.pieces ++ l) (sym none) ∙ is.whole) is.holds

-- a draft whose pieces are an image, and all of it, is one without records
pub image_area : (draft : Drafted) (image bytes : List ℕ) → DraftHolds draft image bytes → draft.written ≡ draft.image → DraftHoldsArea draft image [] bytes
image_area draft image bytes holds all = record {
  holds = subst (λ (l : List ℕ). DraftHolds draft l bytes) (sym (append-nil image)) holds;
  size = omega (arith, all, holds.written);
  fit = none_fit;
}

pub image_whole : {T E : Type 0} (result : Result T E) (draft : Drafted) (image : List ℕ) (file : FileState) → draft.image ≡ length image
    → OnOk result (file.bytes ≡ (to_le_bytes w64 draft.image ++ image) ++ 0 ∷ []) → OnOk result (HasArea image [] file) → OnOk result (HasImage image file)
image_whole (Ok value) draft image file size whole has = record {
  settled = has.settled;
  bytes = whole ∙ ap (λ (n : ℕ). (to_le_bytes w64 n ++ image) ++ 0 ∷ []) size;
  area = has.area;
}
image_whole (Err fault) draft image file size whole has = tt

-- no other file has changed in one call, and none in the next
pub others_then : (file : ℕ) (old mid new : Moments) → EachMoment (LeavesOthers file old.now) old mid → EachMoment (LeavesOthers file mid.now) mid new → EachMoment (LeavesOthers file old.now) old new
others_then file old mid new first second = join first (weaken (LeavesOthers file old.now) (λ files leaves. λ other differ. leaves other differ ∙ last_moment first other differ) second)

-- nothing is written yet: the whole image is left
pub none_written : (image : List ℕ) (draft : Drafted) (file : List ℕ) → DraftHolds draft [] file → IsDrafted image draft image file
none_written image draft file holds = record { pieces = []; whole = refl; holds = holds }
