-- What making the files leaves at each moment.
use Rattle.std.proofs.Common.{◌≡◌, inl, inr, ℕ, ◌≤◌, List, [], ◌∷◌, length, refl, sym, ◌∙◌, ap, subst, arith}
use Rattle.std.proofs.lemmas.List.{append-nil}
use Rattle.nmc_base.specs.declared.chain_ends.Base.{Base}
use Rattle.chain_names.specs.Log.{Log}
use Rattle.disk_model.specs.FileState.{FileState, IsFileImage}
use Rattle.disk_model.specs.Moments.{Files, Moments, EachMoment, IsImage}
use Rattle.disk_model.specs.Changes.{Changes, Unchanged, LeavesOthers}
use Rattle.disk_model.proofs.MomentLemmas.{weaken, join, last_moment}
use Rattle.disk_model.proofs.ImageLemmas.{IsSettled-image}
use Rattle.gate_journal.specs.Gate.{ClosedAfter}
use Rattle.gate_journal.specs.Records.{IsArea, image_front}
use Rattle.gate_journal.proofs.AppendLemmas.{closed_front}
use Rattle.gate_journal.proofs.RecordLemmas.{none_fit}
use Rattle.chain_commands.specs.RunState.{RunState}
use Rattle.chain_commands.specs.Saving.{IsSavedText, of_start}
use Rattle.chain_commands.specs.Saving.{none_yet as nothing_saved}
use Rattle.image_slots.specs.Selections.{HasSelections}
use Rattle.undo_records.specs.declared.version.Version.TheVariants.{Two}
use Rattle.name_store.specs.Header.{IsBegun, header_text}
use Rattle.name_store.specs.Stands.{Bytes, IsRunState, Stands, EachStands, begun_from}
use Rattle.name_store.specs.Making.{IsEmpty, EachIsBegun}
use Rattle.name_store.specs.MakingSteps.{HasSettled, IsHeaderOrNone, area_with, open_header}
use Rattle.name_store.specs.Starting.{IsStartText, HasStartText}

-- ---- the run state

-- no start list
pub no_start : (base : Base) → HasStartText base [] []
no_start base = record {
  is_start = record { makes = tt; few = omega arith };
  wide = tt;
  is_text = refl;
  short = omega arith;
}

begun_text : (base : Base) (host : List ℕ) (start : Log) (text : List ℕ) → IsStartText base start text → IsSavedText (begun_from base host start text)
begun_text base host [] text is = nothing_saved refl refl refl is
begun_text base host (event ∷ start) text is = of_start Two refl refl (λ e. absurd cc) is

pub begun_state : (base : Base) (host : List ℕ) (start : Log) (text : List ℕ) → IsBegun base host → HasStartText base start text → IsRunState (begun_from base host start text)
begun_state base host start text begun has = record {
  begun = begun;
  wide = has.wide;
  has_saved = record { text_is = begun_text base host start text has.is_text; short = has.short; few = omega arith };
  valid = record { low = begun.low; starts = has.is_start };
  allowed_before = tt;
  allowed = tt;
  fits = omega (arith, has.short);
}

-- ---- before the header: from an empty file

-- a header's file of at most one byte is uninitialised, whatever a crash leaves of it
short_begun : (run : RunState) (files : Files) → (files 0).greatest ≤ 1 → EachIsBegun run files
short_begun run files short = λ image is. inl (λ begun. let header = is 0 (omega arith) in omega (arith, begun.long, header.no_longer, short))

module _ (run : RunState) (d0 d1 : Moments) (empty : IsEmpty (d0.now 0)) (looked : EachMoment (Unchanged d0.now) d0 d1) where
  none_yet : (d0.now 0).greatest ≤ 1
  none_yet = omega (arith, empty.settled.no_longer, ap length empty.are)

  pub looked_begun : EachMoment (EachIsBegun run) d0 d1
  looked_begun = weaken (EachIsBegun run) (λ files same. subst (EachIsBegun run) (sym same) (short_begun run d0.now none_yet)) looked

  same_header : (d1.now 0) ≡ (d0.now 0)
  same_header = ap (λ (files : Files). files 0) (last_moment looked)

  module _ (d2 : Moments) (area : EachMoment (LeavesOthers 1 d1.now) d1 d2) where
    pub area_begun : EachMoment (EachIsBegun run) d0 d2
    area_begun = join looked_begun (weaken (EachIsBegun run)
        (λ files so. short_begun run files (subst (λ (s : FileState). s.greatest ≤ 1) (sym (so 0 (omega arith) ∙ same_header)) none_yet)) area)

    pub short_still : (d2.now 0).greatest ≤ 1
    short_still = subst (λ (s : FileState). s.greatest ≤ 1) (sym (last_moment area 0 (omega arith) ∙ same_header)) none_yet

-- ---- while the header is made, and after

no_selections : (front : List ℕ) (file : List ℕ) → ClosedAfter front file → HasSelections front 0 file
no_selections front file closed = record { closed = subst (λ (l : List ℕ). ClosedAfter l file) (sym (append-nil front)) closed; fit = none_fit }

-- an image and a closed gate are an area
area_is : (text file : List ℕ) → file ≡ area_with text → IsArea text [] file
area_is text file is = record {
  closed = subst (λ (l : List ℕ). ClosedAfter l file) (sym (append-nil (image_front text))) (subst (ClosedAfter (image_front text)) (sym is) (closed_front (image_front text) [] 0 (omega arith)));
  fit = none_fit;
}

module _ (base : Base) (host : List ℕ) (start : Log) (text : List ℕ) (state : IsRunState (begun_from base host start text)) where
  abbrev run : RunState
  run = begun_from base host start text

  -- with its gate open, the header is that of the base
  stands_made : (image : Bytes) → image 0 ≡ open_header base host → image 1 ≡ area_with text → Stands image run
  stands_made image header area = record {
    selections = subst (HasSelections (header_text base host) 0) (sym header)
        (no_selections (header_text base host) (open_header base host) (closed_front (header_text base host) [] 0 (omega arith)));
    area = area_is text (image 1) area;
    is_state = state;
  }

  module _ (d2 d3 : Moments) (area : HasSettled (area_with text) (d2.now 1)) where
    area_image : (files : Files) (image : Bytes) → LeavesOthers 0 d2.now files → IsImage files image → image 1 ≡ area_with text
    area_image files image others is = IsSettled-image (d2.now 1) (image 1) area.settled (subst (λ (s : FileState). IsFileImage s (image 1)) (others 1 (omega arith)) (is 1 (omega arith))) ∙ area.are

    pub header_begun : EachMoment (Changes 0 (λ _ file. IsHeaderOrNone base host file) d2.now) d2 d3 → EachMoment (EachIsBegun run) d2 d3
    header_begun header = weaken (EachIsBegun run) (λ files so. λ image is. elim (so.here (image 0) (is 0 (omega arith))) [
      | inl none ↦ inl none
      | inr whole ↦ inr (stands_made image whole (area_image files image so.others is))
    ]) header

    pub header_stands : LeavesOthers 0 d2.now d3.now → HasSettled (open_header base host) (d3.now 0) → EachStands d3.now run
    header_stands others header = λ image is.
        stands_made image (IsSettled-image (d3.now 0) (image 0) header.settled (is 0 (omega arith)) ∙ header.are) (area_image d3.now image others is)
