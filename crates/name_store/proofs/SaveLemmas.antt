-- A save of the index of a store: the run state behind it, and what a crash leaves.
use Rattle.std.proofs.Common.{◌≡◌, ℕ, ◌+◌, ◌<◌, ◌≤◌, Bool, List, [], length, Ok, Err, refl, sym, ◌∙◌, ap, subst, arith}
use Rattle.std.specs.Prelude.{IsTrue, Result, OnOk}
use Rattle.disk_model.specs.FileState.{FileState}
use Rattle.disk_model.specs.Moments.{EachMoment}
use Rattle.disk_model.specs.DiskSeen.{DiskSeen, file_in, bytes_in}
use Rattle.disk_model.specs.declared.disk.Failed.{Failed}
use Rattle.undo_records.specs.declared.version.Version.TheVariants.{Two}
use Rattle.chain_commands.specs.RunState.{RunState, chain_of}
use Rattle.chain_commands.specs.Saving.{HoldsSave, CheckpointLimit, ImageLimit, saves, saved_by, save_order, longest_image, most_selections}
use Rattle.chain_commands.specs.Saving as machine
use Rattle.chain_commands.specs.Refusals.{IsFirst, HasNoneBelow}
use Rattle.chain_commands.proofs.SavingLemmas.{one_text}
use Rattle.image_slots.specs.Selections.{drafted_by}
use Rattle.image_slots.specs.Slotted.{Slotted, with_one_more}
use Rattle.image_files.specs.Saving.{HasImage, HasArea, SavesAt, SelectsArea, WritesImage}
use Rattle.image_files.specs.SavingIndex.{IsTextOfIndex, HasLongText, WritesIndex}
use Rattle.image_files.proofs.SaveLemmas.{area_of_image}
use Rattle.name_store.specs.Stands.{IsRunState, Stands, EachStandsForEither}
use Rattle.name_store.specs.Stored.{Stored, StandsFor, IsOn}
use Rattle.name_store.specs.Saves.{IsSavedAs, SparesSelected}
use Rattle.name_store.specs.Outcomes.{LeavesDisk, KeepsOn}
use Rattle.name_store.specs.declared.store.Outcome.TheVariants.{Done, Faulted}
use Rattle.name_store.proofs.TextLemmas.{text_of}
use Rattle.name_store.proofs.RunDraftLemmas.{for_begun, state_behind, stands_behind}
use Rattle.name_store.proofs.SelectLemmas.{selected_on, selected_moments, selected_done}

-- ---- the refusals

module _ (store : Stored) (run : RunState) (s : StandsFor store run) where
  -- there are fewer selections than may be
  module _ (few : store.slots.count < most_selections) where
    none_at_limit : HoldsSave run CheckpointLimit → ⊥
    none_at_limit holds = omega (arith, holds, s.selections, few)

    pub none_before : HasNoneBelow (HoldsSave run) save_order 1
    none_before = record { none = λ refusal low holds. none refusal low holds }
      where
        none : (refusal : machine.SaveRefusal) → save_order refusal < 1 → HoldsSave run refusal → ⊥
        none CheckpointLimit low holds = none_at_limit holds
        none ImageLimit low holds = omega (arith, low)

    pub first_long : HasLongText longest_image store.index → IsFirst (HoldsSave run) save_order ImageLimit
    first_long long = record {
      holds = record { text = long.text; is_text = text_of store.index (chain_of run) s.index long.text long.is_text; long = long.long };
      first = λ other low holds. none_before.none other low holds;
    }

    module _ (text : List ℕ) (is : IsTextOfIndex store.index text) (short : length text ≤ longest_image) where
      pub none_at_all : HasNoneBelow (HoldsSave run) save_order 2
      none_at_all = record { none = λ refusal low holds. none refusal holds }
        where
          none : (refusal : machine.SaveRefusal) → HoldsSave run refusal → ⊥
          none CheckpointLimit holds = none_at_limit holds
          none ImageLimit holds =
              let same = one_text Two (chain_of run) holds.text text holds.is_text (text_of store.index (chain_of run) s.index text is) in
              omega (arith, holds.long, ap length same, short)

  pub first_limit : store.slots.count ≡ most_selections → IsFirst (HoldsSave run) save_order CheckpointLimit
  first_limit full = record { holds = omega (arith, s.selections, full); first = λ other low holds. omega (arith, low) }

-- ---- the run state behind the save

module _ (store : Stored) (run : RunState) (s : StandsFor store run) (few : store.slots.count < most_selections) (text : List ℕ) (is : IsTextOfIndex store.index text) (short : length text ≤ longest_image) where
  -- all commands are older than the save
  pub saved_state : IsRunState (saved_by run text)
  saved_state = state_behind store run s [] run.since store.area text (for_begun store run text s is) few short (omega (arith, short))

  -- the store behind the save
  abbrev pub saved_store : Stored
  saved_store = record { index = store.index; host = store.host; slots = with_one_more store.slots; area = 9 + length text }

  pub saved_stands : StandsFor saved_store (saved_by run text)
  saved_stands = stands_behind store run s [] run.since store.area text (for_begun store run text s is) few short (omega (arith, short)) saved_store refl refl refl (omega arith)

  pub saved_so : (number : ℕ) → number ≡ store.slots.count + 1 → IsSavedAs run saved_store number
  saved_so number is_number = record {
    next = saved_by run text;
    is_saved = record { text = text; is_text = text_of store.index (chain_of run) s.index text is; state_is = refl };
    stands = saved_stands;
    number_is = omega (arith, is_number, s.selections);
  }

-- ---- the files

-- a whole save selects its image, and no records behind it
abbrev pub IsWhole : List ℕ → List ℕ → List (List ℕ) → Type 0
IsWhole text image records = (image ≡ text) × (records ≡ [])

whole_area : (result : Result ℕ Failed) (text image : List ℕ) (records : List (List ℕ)) (file : FileState) → IsWhole text image records → OnOk result (HasImage text file) → OnOk result (HasArea image records file)
whole_area (Ok number) text image records file whole has =
    subst (λ (l : List ℕ). HasArea l records file) (sym whole.0) (subst (λ (l : List (List ℕ)). HasArea text l file) (sym whole.1) (area_of_image text file has))
whole_area (Err error) text image records file whole has = tt

whole_selects : (tells : Bool) (old new : Slotted) (text : List ℕ) (before after : DiskSeen) (result : Result ℕ Failed) → WritesImage tells old new text before after result
    → SelectsArea tells old new (IsWhole text) before after result
whole_selects tells old new text before after result wrote = record {
  ok = wrote.ok;
  err = wrote.err;
  on_disk = wrote.on_disk;
  area = λ told image records whole. whole_area result text image records (file_in after (drafted_by old.count)) whole (wrote.area told);
  any_moment = λ told front image records on whole.
      subst (λ (l : List ℕ). EachMoment (SavesAt front old.count l records before.moments.now) before.moments after.moments) (sym whole.0)
      (subst (λ (l : List (List ℕ)). EachMoment (SavesAt front old.count text l before.moments.now) before.moments after.moments) (sym whole.1) (wrote.any_moment told front on));
  selected = wrote.selected;
  ends = wrote.ends;
}

-- ---- what a save of the store comes to

-- the limits of a store's selections and images
pub record HasLimits (store : Stored) : Type 0 where
  pub selections : store.slots.limits.selections ≡ most_selections
  pub image : store.slots.limits.image ≡ longest_image

module _ (tells : Bool) (old : Stored) (limits : HasLimits old) (before after : DiskSeen) (on : IsTrue tells → IsOn old before.moments.now) (image : ℕ) (new : Slotted) where
  abbrev saving : Result ℕ Failed → Type 0
  saving result = WritesIndex tells old.index old.slots new image before after result

  module _ (result : Result ℕ Failed) (w : saving result) where
    pub few : old.slots.count < most_selections
    few = omega (arith, w.room.room.one_more, limits.selections)

    pub short : length w.text ≤ longest_image
    short = omega (arith, w.room.room.short, limits.image)

    pub selects : SelectsArea tells old.slots new (IsWhole w.text) before after result
    selects = whole_selects tells old.slots new w.text before after result w.writes

    pub none_refuses : (run : RunState) → StandsFor old run → HasNoneBelow (HoldsSave run) save_order 2
    none_refuses run s = none_at_all old run s few w.text w.room.is_text short

    next_state : (run : RunState) → StandsFor old run → IsRunState (saved_by run w.text)
    next_state run s = saved_state old run s few w.text w.room.is_text short

    pub is_saved : (run : RunState) → StandsFor old run → machine.IsSaved run (saved_by run w.text)
    is_saved run s = record { text = w.text; is_text = text_of old.index (chain_of run) s.index w.text w.room.is_text; state_is = refl }

    pub moments_of : IsTrue tells → (run : RunState) → StandsFor old run → Stands (bytes_in before) run → EachMoment (EachStandsForEither run (saved_by run w.text)) before.moments after.moments
    moments_of told run s stands = selected_moments tells told old before after (on told) (IsWhole w.text) w.text run s stands [] run.since (refl, refl) (next_state run s) result new selects

  -- it was made
  module _ (number : ℕ) (w : saving (Ok number)) where
    abbrev store : Stored
    store = record { index = old.index; host = old.host; slots = new; area = 9 + image }

    store_is : store ≡ record { index = old.index; host = old.host; slots = with_one_more old.slots; area = 9 + length w.text }
    store_is = λ i. record { index = old.index; host = old.host; slots = w.writes.ok.1 i; area = 9 + w.room.image_is i }

    pub save_answers : (told_number : ℕ) → told_number ≡ number → (run : RunState) → StandsFor old run → IsSavedAs run store told_number
    save_answers told_number is_number run s =
        subst (λ (x : Stored). IsSavedAs run x told_number) (sym store_is)
        (saved_so old run s (few (Ok number) w) w.text w.room.is_text (short (Ok number) w) told_number (is_number ∙ w.writes.ok.0))

    pub save_leaves : {R : Type 0} (told_number : ℕ) → LeavesDisk {T = ℕ} {R = R} tells (SparesSelected old) before after (Done store told_number)
    save_leaves told_number = record {
      later = w.writes.ends.later;
      worked = w.writes.ends.worked;
      none = w.writes.ends.none;
      failed = tt;
      still_on = λ told. subst (λ (x : Stored). IsOn x after.moments.now) (sym store_is) (selected_on tells told old before after (on told) (IsWhole w.text) w.text [] (refl, refl) number (9 + length w.text) new (selects (Ok number) w) (omega arith));
      others = w.writes.selected;
    }

    pub save_keeps : {R : Type 0} (told_number : ℕ) → KeepsOn {T = ℕ} {R = R} tells old machine.IsSaved before after (Done store told_number)
    save_keeps told_number = λ told run s stands. record {
      next = saved_by run w.text;
      is_next = is_saved (Ok number) w run s;
      done = selected_done tells told old before after (on told) (IsWhole w.text) w.text run s stands [] run.since (refl, refl) (next_state (Ok number) w run s) number new (selects (Ok number) w);
      any_moment = moments_of (Ok number) w told run s stands;
    }

  -- the disk failed
  module _ (error : Failed) (w : saving (Err error)) where
    pub fault_leaves : {R : Type 0} → LeavesDisk {T = ℕ} {R = R} tells (SparesSelected old) before after Faulted
    fault_leaves = record { later = w.writes.ends.later; worked = tt; none = tt; failed = w.writes.ends.failed; still_on = λ told. tt; others = w.writes.selected }

    pub fault_keeps : {R : Type 0} → KeepsOn {T = ℕ} {R = R} tells old machine.IsSaved before after Faulted
    fault_keeps = λ told run s stands. record {
      next = saved_by run w.text;
      is_next = is_saved (Err error) w run s;
      done = tt;
      any_moment = moments_of (Err error) w told run s stands;
    }
