-- The beginning of a save in slices, and its slices: the draft on the disk, the store, and what a crash leaves.
use Rattle.std.proofs.Common.{◌≡◌, inl, ℕ, ◌+◌, ◌-◌, ◌<◌, ◌≤◌, Bool, List, [], ◌∷◌, ◌++◌, length, take, drop, Ok, Err, refl, sym, ◌∙◌, ap, subst, arith, append_assoc, length-append, length-take, length-drop}
use Rattle.std.specs.Prelude.{IsTrue, Result, All}
use Rattle.std.specs.List.{AllByRecursion}
use Rattle.std.proofs.lemmas.List.{append-nil, drop_at, drop-take}
use Rattle.std.proofs.lemmas.Grind.{flat_map-append}
use Rattle.disk_model.specs.declared.disk.Failed.{Failed}
use Rattle.disk_model.specs.FileState.{FileState, IsFileImage, IsSettled}
use Rattle.disk_model.specs.Moments.{Files, EachMoment, start}
use Rattle.disk_model.specs.Changes.{LeavesOthers}
use Rattle.disk_model.specs.DiskSeen.{DiskSeen, file_in, bytes_in}
use Rattle.disk_model.proofs.MomentLemmas.{weaken, last_moment}
use Rattle.gate_journal.specs.Gate.{record_text}
use Rattle.gate_journal.specs.Records.{Fits, IsArea, records_text, image_front}
use Rattle.gate_journal.proofs.RecordLemmas.{none_fit}
use Rattle.chain_commands.specs.Event.{Command}
use Rattle.chain_commands.specs.RunState.{RunState, after_commands, saved_chain, grown_by, longest_area}
use Rattle.chain_commands.specs.Saving.{saved_before}
use Rattle.image_slots.specs.Selections.{selected_by, drafted_by}
use Rattle.image_slots.specs.Slotted.{Slotted, AreOn}
use Rattle.image_slots.specs.Drafted.{Drafted, DraftHolds}
use Rattle.image_slots.specs.Calls.{Begins}
use Rattle.image_slots.specs.declared.faults.DraftFault.{DraftFault}
use Rattle.image_slots.specs.declared.faults.DraftFault.TheVariants.{DiskFault}
use Rattle.image_files.specs.Saving.{SelectsArea}
use Rattle.image_files.proofs.SaveLemmas.{apart, not_drafted}
use Rattle.index_commands.specs.Records.{record_of, records_of, HasSize}
use Rattle.index_commands.proofs.SizeLemmas.{allowed_sizes}
use Rattle.index_commands.specs.Keeping.{HoldsRecords}
use Rattle.index_commands.proofs.AreaLemmas.{area_size, records_fit}
use Rattle.name_store.specs.Header.{header_text}
use Rattle.name_store.specs.Stands.{Stands, EachStands, EachStandsForEither, IsRunState}
use Rattle.name_store.specs.Stored.{Stored, StandsFor, IsOn, area_file}
use Rattle.name_store.specs.Saves.{SparesSelected}
use Rattle.name_store.specs.Drafting.{Drafting, grown_since, left_of, length_with, IsDraftOf, IsDraftOn, IsNextOf, IsDraftFor, since_text, drafted_text}
use Rattle.name_store.specs.Slicing.{drafting_of, LeavesBegun, KeepsRuns, LeavesSlice, KeepsSliced, IsDraftHere, HasNext, HasSelected, SliceAnswer, SliceAnswerWithin, StandsBehind}
use Rattle.name_store.specs.SliceSteps.{WritesNext, IsWholeWith}
use Rattle.name_store.specs.declared.saving.SaveRefusal.{SaveRefusal}
use Rattle.name_store.specs.declared.drafting.DraftOutcome.TheVariants as begin
use Rattle.name_store.specs.declared.slicing.SliceOutcome.{SliceOutcome}
use Rattle.name_store.specs.declared.slicing.SliceOutcome.TheVariants.{Written, Selected, AreaLimit, Faulted}
use Rattle.name_store.proofs.RunDraftLemmas.{state_behind, stands_behind, allowed_parts}
use Rattle.name_store.proofs.SelectLemmas.{selected_on, selected_moments, selected_done}
use Rattle.name_store.proofs.StateLemmas.{front_size, area_is}
use Rattle.name_store.proofs.StoreLemmas.{area_low, stands_left, stands_again}

-- ---- while no file changes but the one that is drafted

module _ (old : Stored) (before : DiskSeen) (on : IsOn old before.moments.now) where
  pub on_drafting : (files : Files) → LeavesOthers (drafted_by old.slots.count) before.moments.now files → IsOn old files
  on_drafting files leaves =
      let header = leaves 0 (not_drafted old.slots.count) in
      let area = leaves (area_file old) (apart old.slots.count) in
      record {
        text = on.text;
        host = on.host;
        slots = subst (λ (f : FileState). AreOn (header_text old.index.base on.text) old.slots f) (sym header) on.slots;
        image = on.image;
        records = on.records;
        holds = subst (λ (f : FileState). HoldsRecords old.area on.image on.records f.bytes) (sym area) on.holds;
        settled_area = subst IsSettled (sym area) on.settled_area;
      }

  pub stands_drafting : (tells : Bool) → IsTrue tells → (run : RunState) → StandsFor old run → Stands (bytes_in before) run → (files : Files)
      → LeavesOthers (drafted_by old.slots.count) before.moments.now files → EachStands files run
  stands_drafting tells told run s stands files leaves image is =
      stands_left tells told old before before on run s stands image
      (subst (λ (f : FileState). IsFileImage f (image 0)) (leaves 0 (not_drafted old.slots.count)) (is 0 (omega arith)))
      (subst (λ (f : FileState). IsFileImage f (image (area_file old))) (leaves (area_file old) (apart old.slots.count)) (is (area_file old) (area_low old)))

module _ (tells : Bool) (old : Stored) (before after : DiskSeen) (on : IsTrue tells → IsOn old before.moments.now)
    (others : IsTrue tells → EachMoment (LeavesOthers (drafted_by old.slots.count) before.moments.now) before.moments after.moments) where
  pub on_still : IsTrue tells → IsOn old after.moments.now
  on_still told = on_drafting old before (on told) after.moments.now (last_moment (others told))

  pub runs_still : IsTrue tells → KeepsRuns old before after
  runs_still told run s stands = weaken (λ files. EachStands files run) (stands_drafting old before (on told) tells told run s stands) (others told)

  pub spared_still : IsTrue tells → EachMoment (SparesSelected old before.moments.now) before.moments after.moments
  spared_still told = weaken (SparesSelected old before.moments.now) (λ files leaves. leaves (area_file old) (apart old.slots.count)) (others told)

-- ---- the beginning

-- a draft of which nothing is written
pub begun_on : (store : Stored) (size : ℕ) (files : Files) → (let drafting = drafting_of store size in DraftHolds drafting.draft [] (files drafting.draft.file).bytes
    → (image : List ℕ) → size ≡ length image → IsDraftOn store drafting image files)
begun_on store size files holds image is =
    let drafting = drafting_of store size in
    let selected = (files (area_file store)).bytes in
    let none : 0 - length image ≡ 0 = omega arith in
    let grown : grown_since store drafting ≡ 0 = omega arith in
    record {
      size = is;
      holds = subst (λ (n : ℕ). DraftHolds drafting.draft (since_text drafting n selected) (files drafting.draft.file).bytes) (sym none) holds;
      records = [];
      fit = none_fit;
      since = ap (λ (n : ℕ). since_text drafting n selected) grown;
    }

module _ (tells : Bool) (old : Stored) (before after : DiskSeen) (on : IsTrue tells → IsOn old before.moments.now) (size : ℕ) where
  pub begun_leaves : (draft : Drafted) → Begins tells old.slots size before after (Ok draft) → LeavesBegun tells old before after (begin.Begun old (record { draft = draft; from = old.area }))
  begun_leaves draft did = subst (λ (d : Drafted). LeavesBegun tells old before after (begin.Begun old (record { draft = d; from = old.area }))) (sym did.answer.1) (record {
    later = did.ends.later;
    ends = (did.ends.worked, did.ends.none, on_still tells old before after on did.others);
    begun = λ told image is. begun_on old size after.moments.now (subst (λ (d : Drafted). DraftHolds d [] (bytes_in after d.file)) did.answer.1 (did.holds told)) image is;
    others = did.others;
    kept = runs_still tells old before after on did.others;
  })

  pub unbegun_leaves : Begins tells old.slots size before after (Err DiskFault) → LeavesBegun tells old before after begin.Faulted
  unbegun_leaves did = record {
    later = did.ends.later;
    ends = did.ends.failed refl;
    begun = λ told. tt;
    others = did.others;
    kept = runs_still tells old before after on did.others;
  }

pub refused_leaves : (tells : Bool) (old : Stored) (disk : DiskSeen) → (IsTrue tells → IsOn old disk.moments.now) → (refusal : SaveRefusal) → LeavesBegun tells old disk disk (begin.Refused old refusal)
refused_leaves tells old disk on refusal = record {
  later = record { count = omega arith; at_limit = λ is. is };
  ends = (refl, on);
  begun = λ told. tt;
  others = λ told. start (λ other differ. refl);
  kept = λ told run s stands. start (stands_again tells told old disk disk (on told) run s stands);
}

-- ---- a slice that doesn't end the save

module _ (tells : Bool) (old : Stored) (drafting : Drafting) (is : IsDraftOf old drafting) (most : ℕ) (piece : List ℕ) (before after : DiskSeen) (on : IsTrue tells → IsOn old before.moments.now)
    (wrote : Drafted) where
  abbrev new : Drafting
  new = record { draft = wrote; from = drafting.from }

  abbrev writing : {T E : Type 0} → Result T E → Type 0
  writing result = WritesNext tells (area_file old) drafting new most piece before after result

  others_by : {T E : Type 0} (result : Result T E) → writing result → IsTrue tells → EachMoment (LeavesOthers (drafted_by old.slots.count) before.moments.now) before.moments after.moments
  others_by result did told = subst (λ (n : ℕ). EachMoment (LeavesOthers n before.moments.now) before.moments after.moments) is.file (did.others told)

  module _ (did : WritesNext {T = Unit {0}} {E = DraftFault} tells (area_file old) drafting new most piece before after (Ok tt)) where
    -- the draft goes on
    goes_on : IsTrue tells → (image : List ℕ) → IsDraftOn old drafting image before.moments.now → IsNextOf drafting image piece → IsDraftOn old new image after.moments.now
    goes_on told image draft next =
        let same : file_in after (area_file old) ≡ file_in before (area_file old) = last_moment (others_by (Ok tt) did told) (area_file old) (apart old.slots.count) in
        record {
          size = ap (λ (d : Drafting). d.draft.image) did.ok ∙ draft.size;
          holds = subst (λ (f : FileState). DraftHolds wrote (drafted_text new image f.bytes) (bytes_in after wrote.file)) (sym same) (did.holds told image draft.size next draft.holds);
          records = draft.records;
          fit = draft.fit;
          since = ap (λ (f : FileState). since_text drafting (grown_since old drafting) f.bytes) same ∙ draft.since;
        }

    pub written_leaves : 0 < most → LeavesSlice tells old drafting piece before after (Written old new)
    written_leaves some = record {
      later = did.ends.later;
      ends = (did.ends.worked some, did.ends.none, on_still tells old before after on (others_by (Ok tt) did));
      written = goes_on;
      others = did.others;
      spared = spared_still tells old before after on (others_by (Ok tt) did);
    }

    pub written_keeps : IsTrue tells → KeepsSliced old drafting piece most before after (Written old new)
    written_keeps told run newer older image here = runs_still tells old before after on (others_by (Ok tt) did) told run here.stands here.files

  module _ (fault : DraftFault) (did : WritesNext {T = Unit {0}} {E = DraftFault} tells (area_file old) drafting new most piece before after (Err fault)) where
    pub unwritten_leaves : LeavesSlice tells old drafting piece before after Faulted
    unwritten_leaves = record {
      later = did.ends.later;
      ends = did.ends.failed;
      written = λ told. tt;
      others = λ told. tt;
      spared = spared_still tells old before after on (others_by (Err fault) did);
    }

    pub unwritten_keeps : IsTrue tells → KeepsSliced old drafting piece most before after Faulted
    unwritten_keeps told run newer older image here =
        let runs = runs_still tells old before after on (others_by (Err fault) did) told run here.stands here.files in
        (weaken (EachStandsForEither run (saved_before run newer older image)) (λ files each. λ left is. inl (each left is)) runs, λ more. runs)

-- ---- a slice at the limit

module _ (tells : Bool) (old : Stored) (drafting : Drafting) (most : ℕ) (piece : List ℕ) (disk : DiskSeen) (on : IsTrue tells → IsOn old disk.moments.now) where
  pub limit_leaves : LeavesSlice tells old drafting piece disk disk (AreaLimit old)
  limit_leaves = record {
    later = record { count = omega arith; at_limit = λ is. is };
    ends = (refl, on);
    written = λ told. tt;
    others = λ told. start (λ other differ. refl);
    spared = λ told. start refl;
  }

  pub limit_keeps : IsTrue tells → KeepsSliced old drafting piece most disk disk (AreaLimit old)
  limit_keeps told run newer older image here = start (stands_again tells told old disk disk (on told) run here.stands here.files)

-- ---- what the selected area has since the beginning

records_parts : (newer older : List Command) → records_of (newer ++ older) ≡ records_of older ++ records_of newer
records_parts [] older = sym (append-nil (records_of older))
records_parts (command ∷ newer) older =
    ap (λ (l : List (List ℕ)). l ++ record_of command ∷ []) (records_parts newer older) ∙ append_assoc (records_of older) (records_of newer) (record_of command ∷ [])

-- it is the records of the newer commands
module _ (old : Stored) (run : RunState) (s : StandsFor old run) (newer older : List Command) (from : ℕ) (image : List ℕ) (is : IsDraftFor run newer older from image)
    (selected : List ℕ) (area : IsArea run.text (records_of run.since) selected) where
  abbrev front : List ℕ
  front = image_front run.text

  abbrev before_it : List ℕ
  before_it = front ++ records_text (records_of older)

  text_parts : front ++ records_text (records_of run.since) ≡ before_it ++ records_text (records_of newer)
  text_parts =
      ap (λ (l : List Command). front ++ records_text (records_of l)) is.parts ∙ ap (λ (l : List (List ℕ)). front ++ records_text l) (records_parts newer older)
      ∙ ap (λ (l : List ℕ). front ++ l) (flat_map-append record_text (records_of older) (records_of newer))
      ∙ sym (append_assoc front (records_text (records_of older)) (records_text (records_of newer)))

  older_size : length before_it ≡ from - 1
  older_size =
      let sizes : AllByRecursion HasSize older = allowed_sizes (saved_chain run) older (allowed_parts old run s newer older from image is).0 in
      let first : 9 + length run.text ≡ length front + 1 = omega (arith, front_size run.text) in
      omega (arith, is.from_is ∙ ap (λ (n : ℕ). grown_by older n) first ∙ area_size front older sizes)

  all_size : old.area - 1 ≡ length (front ++ records_text (records_of run.since))
  all_size = omega (arith, s.area, area_is run s.is_state)

  pub newer_text : (drafting : Drafting) → drafting.from ≡ from → drafting.from ≤ old.area → since_text drafting (grown_since old drafting) selected ≡ records_text (records_of newer)
  newer_text drafting same low =
      let at = drafting.from - 1 in
      let size : length before_it ≡ at = omega (arith, older_size, same) in
      let total : at + grown_since old drafting ≡ old.area - 1 = omega (arith, same, low, older_size, is.from_is, front_size run.text, length-append front (records_text (records_of older))) in
      sym (drop-take at (grown_since old drafting) selected) ∙ ap (λ (n : ℕ). drop at (take n selected)) (total ∙ all_size) ∙ ap (drop at) (area.closed.begins ∙ text_parts)
      ∙ drop_at before_it (records_text (records_of newer)) at size

  pub newer_fit : All Fits (records_of newer)
  newer_fit = records_fit newer (allowed_sizes (after_commands (saved_chain run) older) newer (allowed_parts old run s newer older from image is).1)

-- ---- the slice that ends the save

module _ (tells : Bool) (old : Stored) (drafting : Drafting) (is : IsDraftOf old drafting) (count most : ℕ) (piece : List ℕ) (before after : DiskSeen) (on : IsTrue tells → IsOn old before.moments.now)
    (all : count ≡ left_of old drafting) (low : count ≤ most) (slots : Slotted) where
  abbrev selecting : Result ℕ Failed → Type 0
  selecting result = SelectsArea tells old.slots slots (IsWholeWith (area_file old) drafting count piece before) before after result

  -- what the selected area has since, in the words of the step
  since_all : (records : List (List ℕ)) → since_text drafting (grown_since old drafting) (bytes_in before (area_file old)) ≡ records_text records
      → since_text drafting (drafting.draft.written + count - drafting.draft.image) (bytes_in before (area_file old)) ≡ records_text records
  since_all records since =
      let same : drafting.draft.written + count - drafting.draft.image ≡ grown_since old drafting = omega (arith, all, is.within, is.begun) in
      ap (λ (n : ℕ). since_text drafting n (bytes_in before (area_file old))) same ∙ since

  whole_with : (image : List ℕ) (records : List (List ℕ)) → IsDraftOn old drafting image before.moments.now → IsNextOf drafting image piece → All Fits records
      → since_text drafting (grown_since old drafting) (bytes_in before (area_file old)) ≡ records_text records → IsWholeWith (area_file old) drafting count piece before image records
  whole_with image records draft next fit since = record { size = draft.size; next = next; holds = draft.holds; fit = fit; since = since_all records since }

  since_size : IsTrue tells → length (since_text drafting (grown_since old drafting) (bytes_in before (area_file old))) ≡ grown_since old drafting
  since_size told =
      let selected = bytes_in before (area_file old) in
      let held = on told in
      omega (arith, length-take (grown_since old drafting) (drop (drafting.from - 1) selected), length-drop (drafting.from - 1) selected, held.holds.length_is, held.holds.is_area.closed.inside, is.begun, is.some)

  abbrev behind : Stored
  behind = record { index = old.index; host = old.host; slots = slots; area = length_with old drafting }

  -- of a run state that store and files stand for
  module _ (run : RunState) (newer older : List Command) (image : List ℕ) (here : IsDraftHere old drafting piece before run newer older image) where
    newer_since : since_text drafting (grown_since old drafting) (bytes_in before (area_file old)) ≡ records_text (records_of newer)
    newer_since =
        let area = subst (λ (n : ℕ). IsArea run.text (records_of run.since) (bytes_in before (selected_by n))) (sym here.stands.selections) here.files.area in
        newer_text old run here.stands newer older drafting.from image here.is_for (bytes_in before (area_file old)) area drafting refl is.begun

    has_newer : IsWholeWith (area_file old) drafting count piece before image (records_of newer)
    has_newer = whole_with image (records_of newer) here.on here.next (newer_fit old run here.stands newer older drafting.from image here.is_for (bytes_in before (area_file old))
        (subst (λ (n : ℕ). IsArea run.text (records_of run.since) (bytes_in before (selected_by n))) (sym here.stands.selections) here.files.area)) newer_since

    module _ (within : length_with old drafting ≤ longest_area) where
      state_next : IsRunState (saved_before run newer older image)
      state_next = state_behind old run here.stands newer older drafting.from image here.is_for (omega (arith, is.few)) (omega (arith, is.short, here.on.size)) (omega (arith, within, here.on.size))

      moments_next : (told : IsTrue tells) (result : Result ℕ Failed) → selecting result → EachMoment (EachStandsForEither run (saved_before run newer older image)) before.moments after.moments
      moments_next told result did =
          selected_moments tells told old before after (on told) (IsWholeWith (area_file old) drafting count piece before) image run here.stands here.files newer older has_newer state_next result slots did

  module _ (within : length_with old drafting ≤ longest_area) where
    -- it was selected
    module _ (number : ℕ) (did : selecting (Ok number)) where
      pub selected_answer : (told_number : ℕ) → told_number ≡ number → HasSelected old drafting most behind told_number
      selected_answer told_number is_number = record {
        all_left = omega (arith, all, low);
        within = within;
        index = refl;
        host = refl;
        slots = did.ok.1;
        area = refl;
        number_is = is_number ∙ did.ok.0;
      }

      pub selected_stands : (told_number : ℕ) → StandsBehind old drafting (Selected behind told_number)
      selected_stands told_number run newer older image s is_for size =
          stands_behind old run s newer older drafting.from image is_for (omega (arith, is.few)) (omega (arith, is.short, size)) (omega (arith, within, size)) behind refl refl did.ok.1 (omega (arith, size))

      on_behind : IsTrue tells → HasNext old drafting piece before.moments.now → IsOn behind after.moments.now
      on_behind told next =
          let records = next.on.records in
          let has = whole_with next.image records next.on next.next next.on.fit next.on.since in
          subst (λ (x : Slotted). IsOn (record { index = old.index; host = old.host; slots = x; area = length_with old drafting }) after.moments.now) (sym did.ok.1)
          (selected_on tells told old before after (on told) (IsWholeWith (area_file old) drafting count piece before) next.image records has number (length_with old drafting) slots did
          (omega (arith, next.on.size, since_size told, ap length next.on.since)))

      pub selected_leaves : (IsTrue tells → HasNext old drafting piece before.moments.now) → (told_number : ℕ) → LeavesSlice tells old drafting piece before after (Selected behind told_number)
      selected_leaves next told_number = record {
        later = did.ends.later;
        ends = (did.ends.worked, did.ends.none, λ told. on_behind told (next told));
        written = λ told. tt;
        others = λ told. tt;
        spared = did.selected;
      }

      pub selected_keeps : (told : IsTrue tells) (next : IsTrue tells → HasNext old drafting piece before.moments.now) (told_number : ℕ) → KeepsSliced old drafting piece most before after (Selected behind told_number)
      selected_keeps told next told_number run newer older image here =
          let done = selected_done tells told old before after (on told) (IsWholeWith (area_file old) drafting count piece before) image run here.stands here.files newer older (has_newer run newer older image here)
          (state_next run newer older image here within) number slots did in (
            moments_next run newer older image here within told (Ok number) did,
            done,
            stands_again tells told behind after after (on_behind told (next told)) (saved_before run newer older image) (selected_stands told_number run newer older image here.stands here.is_for here.on.size) done,
          )

    -- the disk failed
    module _ (error : Failed) (did : selecting (Err error)) where
      pub unselected_leaves : LeavesSlice tells old drafting piece before after Faulted
      unselected_leaves = record { later = did.ends.later; ends = did.ends.failed; written = λ told. tt; others = λ told. tt; spared = did.selected }

      pub unselected_keeps : IsTrue tells → KeepsSliced old drafting piece most before after Faulted
      unselected_keeps told run newer older image here =
          (moments_next run newer older image here within told (Err error) did, λ more. absurd (omega (arith, all, low, more)))

-- ---- of an area that is shorter than the longest there is

-- where more is left than the slice takes
pub written_within : (longest : ℕ) (old : Stored) (drafting : Drafting) (most : ℕ) → most < left_of old drafting → (outcome : SliceOutcome)
    → SliceAnswer old drafting most outcome → SliceAnswerWithin longest old drafting most outcome
written_within longest old drafting most more (Written store new) is = is
written_within longest old drafting most more (Selected store number) is = absurd (omega (arith, more, is.all_left))
written_within longest old drafting most more (AreaLimit store) is = absurd (omega (arith, more, is.1))
written_within longest old drafting most more Faulted is = λ low. absurd (omega (arith, more, low))

-- where no more is left, and the area has room for it
pub ended_within : (longest : ℕ) (old : Stored) (drafting : Drafting) (most : ℕ) → length_with old drafting ≤ longest → length_with old drafting ≤ longest_area → (outcome : SliceOutcome)
    → SliceAnswer old drafting most outcome → SliceAnswerWithin longest old drafting most outcome
ended_within longest old drafting most within low (Written store new) is = is
ended_within longest old drafting most within low (Selected store number) is = record {
  all_left = is.all_left;
  within = within;
  index = is.index;
  host = is.host;
  slots = is.slots;
  area = is.area;
  number_is = is.number_is;
}
ended_within longest old drafting most within low (AreaLimit store) is = absurd (omega (arith, low, is.2))
ended_within longest old drafting most within low Faulted is = λ all. within
