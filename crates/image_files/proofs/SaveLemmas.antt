-- What a save leaves at each moment.
use Rattle.std.specs.Prelude.{Result, Ok, Err, OnOk, OnErr}
use Rattle.std.proofs.Common.{◌≡◌, ◌≢◌, inl, inr, ℕ, ◌<◌, List, [], sym, ◌∙◌, subst, arith}
use Rattle.disk_model.specs.FileState.{FileState, IsFileImage}
use Rattle.disk_model.specs.Moments.{Files, Moments, EachMoment}
use Rattle.disk_model.specs.Changes.{LeavesOthers}
use Rattle.disk_model.proofs.ImageLemmas.{IsSettled-image}
use Rattle.disk_model.proofs.MomentLemmas.{weaken, join, last_moment}
use Rattle.gate_journal.specs.Records.{IsArea}
use Rattle.image_slots.specs.Selections.{selected_by, drafted_by, selections_file}
use Rattle.image_slots.specs.Slotted.{Slotted, AreOn, KeepsOrSelects}
use Rattle.image_slots.proofs.AppendingLemmas.{lasting}
use Rattle.image_files.specs.Saving.{HasImage, HasArea, IsBeingSelected, SavesAt, drafting, selecting}
use Rattle.image_files.specs.Crashes.{LeavesOldOrNew}

-- ---- the files

pub not_drafted : (count : ℕ) → selections_file ≢ drafted_by count
not_drafted count = grind arith

pub apart : (count : ℕ) → selected_by count ≢ drafted_by count
apart count = grind arith

pub not_selections : (count : ℕ) → selected_by count ≢ selections_file
not_selections count = grind arith

pub drafted_low : (count : ℕ) → drafted_by count < 3
drafted_low count = omega arith

pub selected_low : (count : ℕ) → selected_by count < 3
selected_low count = omega arith

-- ---- crashes

pub crash_of : (front : List ℕ) (slots : Slotted) (image : List ℕ) (records : List (List ℕ)) (old files : Files) → AreOn front slots (old selections_file)
    → SavesAt front slots.count image records old files → LeavesOldOrNew front slots.count image records old files
crash_of front slots image records old files on (drafting leaves) crashed is =
    inl (record {
      selections = lasting front slots (old selections_file) on (crashed selections_file)
          (subst (λ (f : FileState). IsFileImage f (crashed selections_file)) (leaves selections_file (not_drafted slots.count)) (is selections_file (omega arith)));
      selected = subst (λ (f : FileState). IsFileImage f (crashed (selected_by slots.count))) (leaves (selected_by slots.count) (apart slots.count)) (is (selected_by slots.count) (selected_low slots.count));
    })
crash_of front slots image records old files on (selecting being) crashed is = elim (being.selections (crashed selections_file) (is selections_file (omega arith))) [
  | inl kept ↦ inl (record {
    selections = kept;
    selected = subst (λ (f : FileState). IsFileImage f (crashed (selected_by slots.count))) being.selected (is (selected_by slots.count) (selected_low slots.count));
  })
  | inr more ↦ inr (record {
    selections = more;
    drafted = subst (IsArea image records) (sym (IsSettled-image (files (drafted_by slots.count)) (crashed (drafted_by slots.count)) being.drafted.settled (is (drafted_by slots.count) (drafted_low slots.count)))) being.drafted.area;
  })
]

-- ---- each moment

module _ (count : ℕ) (before mid : Moments) (drafts : EachMoment (LeavesOthers (drafted_by count) before.now) before mid) where
  -- while it is drafted
  pub saves_drafting : (front image : List ℕ) (records : List (List ℕ)) → EachMoment (SavesAt front count image records before.now) before mid
  saves_drafting front image records = weaken (SavesAt front count image records before.now) (λ files leaves. drafting leaves) drafts

  pub keeps_drafting : EachMoment (λ files. files (selected_by count) ≡ before.now (selected_by count)) before mid
  keeps_drafting = weaken (λ files. files (selected_by count) ≡ before.now (selected_by count)) (λ files leaves. leaves (selected_by count) (apart count)) drafts

  -- the selections are on the disk still
  pub on_still : (front : List ℕ) (slots : Slotted) → AreOn front slots (before.now selections_file) → AreOn front slots (mid.now selections_file)
  on_still front slots on = subst (AreOn front slots) (sym (last_moment drafts selections_file (not_drafted count))) on

  -- what is selected from then on is selected behind the drafting
  pub selected_since : (after : Moments) → EachMoment (λ files. files (selected_by count) ≡ mid.now (selected_by count)) mid after
      → EachMoment (λ files. files (selected_by count) ≡ before.now (selected_by count)) before after
  selected_since after same = join keeps_drafting (weaken (λ files. files (selected_by count) ≡ before.now (selected_by count)) (λ files is. is ∙ last_moment keeps_drafting) same)

  module _ (front image : List ℕ) (records : List (List ℕ)) where
    being_selected : HasArea image records (mid.now (drafted_by count)) → (files : Files) → KeepsOrSelects front count mid.now files → IsBeingSelected front count image records before.now files
    being_selected has files keeps = record {
      selections = keeps.image;
      drafted = subst (HasArea image records) (sym (keeps.others (drafted_by count) (λ same. not_drafted count (sym same)))) has;
      selected = keeps.others (selected_by count) (not_selections count) ∙ last_moment drafts (selected_by count) (apart count);
    }

    -- a save from then on is one behind the drafting
    saves_at : (files : Files) → SavesAt front count image records mid.now files → SavesAt front count image records before.now files
    saves_at files (drafting leaves) = drafting (λ other differ. leaves other differ ∙ last_moment drafts other differ)
    saves_at files (selecting being) = selecting (record { selections = being.selections; drafted = being.drafted; selected = being.selected ∙ last_moment drafts (selected_by count) (apart count) })

    pub saves_since : (after : Moments) → EachMoment (SavesAt front count image records mid.now) mid after → EachMoment (SavesAt front count image records before.now) before after
    saves_since after saves = join (saves_drafting front image records) (weaken (SavesAt front count image records before.now) saves_at saves)

    module _ (has : HasArea image records (mid.now (drafted_by count))) (after : Moments) (adds : EachMoment (KeepsOrSelects front count mid.now) mid after) where
      -- and while it is selected
      pub saves_selecting : EachMoment (SavesAt front count image records before.now) before after
      saves_selecting =
          join (saves_drafting front image records) (weaken (SavesAt front count image records before.now) (λ files keeps. selecting (being_selected has files keeps)) adds)

      pub keeps_selecting : EachMoment (λ files. files (selected_by count) ≡ before.now (selected_by count)) before after
      keeps_selecting = join keeps_drafting (weaken (λ files. files (selected_by count) ≡ before.now (selected_by count)) (λ files keeps. (being_selected has files keeps).selected) adds)

      -- the area stands there still
      area_same : after.now (drafted_by count) ≡ mid.now (drafted_by count)
      area_same = (last_moment adds).others (drafted_by count) (λ same. not_drafted count (sym same))

      pub area_still : HasArea image records (after.now (drafted_by count))
      area_still = subst (HasArea image records) (sym area_same) has

-- the selected area, while the selections change
pub selected_same : (count : ℕ) (front : List ℕ) (mid after : Moments) → EachMoment (KeepsOrSelects front count mid.now) mid after
    → EachMoment (λ files. files (selected_by count) ≡ mid.now (selected_by count)) mid after
selected_same count front mid after adds = weaken (λ files. files (selected_by count) ≡ mid.now (selected_by count)) (λ files keeps. keeps.others (selected_by count) (not_selections count)) adds

-- a settled file with an image alone
pub area_of_image : (image : List ℕ) (file : FileState) → HasImage image file → HasArea image [] file
area_of_image image file has = record { settled = has.settled; area = has.area }

pub image_still : (count : ℕ) (front image : List ℕ) (mid after : Moments) → EachMoment (KeepsOrSelects front count mid.now) mid after → HasImage image (mid.now (drafted_by count))
    → HasImage image (after.now (drafted_by count))
image_still count front image mid after adds has = subst (HasImage image) (sym ((last_moment adds).others (drafted_by count) (λ same. not_drafted count (sym same)))) has

-- what holds in any case holds at Ok and at an error
pub on_ok : {T E : Type 0} {P : Type 0} (result : Result T E) → P → OnOk result P
on_ok (Ok value) holds = holds
on_ok (Err fault) holds = tt

pub on_err : {T E : Type 0} {P : Type 0} (result : Result T E) → P → OnErr result P
on_err (Ok value) holds = tt
on_err (Err fault) holds = holds
