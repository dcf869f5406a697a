-- A slice of a save, by what came of it in the bridge.
use Rattle.std.proofs.Common.{◌≡◌, ◌<◌, ◌≤◌, ℕ, ◌+◌, Bool, List, ◌++◌, length, length-append, take, Option, Some, None, refl, sym, ap, subst, ◌∙◌, inl, inr, arith}
use Rattle.std.specs.Prelude.{◌⊎◌, IsTrue}
use Rattle.std.proofs.lemmas.Bool.{cases_lt}
use Rattle.std.proofs.lemmas.List.{take_at}
use Rattle.disk_model.specs.Changes.{LeavesOthers}
use Rattle.disk_model.specs.DiskSeen.{DiskSeen}
use Rattle.disk_model.specs.Moments.{EachMoment}
use Rattle.disk_model.proofs.MomentLemmas.{weaken}
use Rattle.chain_commands.specs.Chain.{Chain}
use Rattle.chain_commands.specs.Event.{Command}
use Rattle.chain_commands.specs.RunState.{RunState, chain_of, grown_by, longest_area}
use Rattle.chain_commands.specs.Saving.{saved_before}
use Rattle.image_slots.specs.Selections.{drafted_by}
use Rattle.name_store.specs.Drafting.{Drafting, IsDraftOf, IsDraftOn, IsDraftFor, IsNextOf, left_of, length_with}
use Rattle.name_store.specs.Slicing.{HasWritten, HasSelected, LeavesSlice, StandsBehind, KeepsSliced, IsDraftHere}
use Rattle.name_store.specs.Stored as stores
use Rattle.name_store.specs.Stored.{Stored}
use Rattle.name_store.specs.declared.slicing.SliceOutcome.TheVariants as slices
use Rattle.name_store.proofs.RunDraftLemmas.{area_parts, chain_behind, grown_sum, grown_least}
use Rattle.bridge_core.specs.Bridge.{AreFilesOf, fault_reply}
use Rattle.bridge_core.specs.Bridged as bridges
use Rattle.bridge_core.specs.Bridged.{Bridged}
use Rattle.bridge_core.specs.Runs.{KeepsFiles, KeepsEither}
use Rattle.bridge_core.proofs.BridgedLemmas.{stands_still}
use Rattle.bridge_core.specs.declared.slicing.SliceTurned.{SliceTurned}
use Rattle.bridge_core.specs.declared.slicing.SliceTurned.TheVariants as turns
use Rattle.sliced_save.specs.Sliced.{Sliced}
use Rattle.name_lister.specs.Answers.{AnswersList}
use Rattle.name_lister.specs.Event.{Slice}
use Rattle.listing_sessions.specs.Pinned.{IsMirrorOn}
use Rattle.name_lister.specs.Lister.{Listed, listed, StandsFor, IsListOn}
use Rattle.name_lister.specs.Saver as savers
use Rattle.name_lister.specs.Saver.{Saver, IsSplit, Selects, IsTooLong, writes, selects, gives_up, drafted_area, slice_size, more_reply, selected_reply, area_limit_reply}
use Rattle.name_lister.specs.Saving.{IsGiven, IsSaverOf, IsSavingOf, IsSavingOn, SavesFor, WritesSlice, left_by, slice_reply}
use Rattle.name_lister.specs.Step.{ListState, MayLeave}
use Rattle.name_lister.specs.declared.lister.ListTurned.{ListTurned}
use Rattle.name_lister.specs.declared.lister.ListTurned.TheVariants.{On, Ended}
use Rattle.name_lister.specs.declared.saving.Saving.{Saving}
use Rattle.name_lister.proofs.FileLemmas.{files_beside}
use Rattle.name_lister.proofs.TurnLemmas.{files_stay}

-- ---- one split

-- lists with the same back have the same front
same_fronts : {X : Type 0} (a b c d : List X) → a ++ b ≡ c ++ d → length b ≡ length d → a ≡ c
same_fronts a b c d e same =
    sym (take_at a b (length a) refl) ∙ ap (take (length a)) e ∙ take_at c d (length a) (omega (arith, ap length e, length-append a b, length-append c d, same))

module _ (saver : Saver) (run : RunState) where
  pub one_split : (newer older others rest : List Command) → IsSplit saver run newer older → IsSplit saver run others rest → newer ≡ others
  one_split newer older others rest s t = same_fronts newer older others rest (sym s.since_is ∙ t.since_is) (omega (arith, s.count_is, t.count_is))

-- ---- a slice here and in the machine

-- the save that runs in the machine
pub record Runs (run : RunState) (saving : Saving) (was : Option Saver) : Type 0 where
  pub saver : Saver
  pub saver_is : was ≡ Some saver
  pub is : IsSaverOf run saving saver

pub runs_there : (run : RunState) (held : Option Saving) (saving : Saving) (was : Option Saver) → held ≡ Some saving → SavesFor run held was → Runs run saving was
runs_there run None saving was e s = absurd (cc e)
runs_there run (Some other) saving None e s = absurd s
runs_there run (Some other) saving (Some saver) e s =
    record { saver = saver; saver_is = refl; is = subst (λ (held : Option Saving). SavesFor run held (Some saver)) e s }

module _ (old : Listed) (saving : Saving) (saving_is : old.saving ≡ Some saving) (size_is : saving.draft.draft.image ≡ length saving.slices.text) (state : ListState) (s : StandsFor old state) where
  abbrev there : Runs state.run saving state.saver
  there = runs_there state.run old.saving saving state.saver saving_is s.saving

  abbrev saver : Saver
  saver = there.saver

  abbrev newer : List Command
  newer = there.is.newer

  area_is : old.bridge.store.area ≡ grown_by newer saving.draft.from
  area_is = area_parts old.bridge.store state.run s.bridge.store newer there.is.older saving.draft.from saver.text there.is.draft

  image_is : saving.draft.draft.image ≡ length saver.text
  image_is = size_is ∙ ap length there.is.text_is

  pub left_is : left_of old.bridge.store saving.draft ≡ savers.left_of saver newer
  left_is = omega (arith, area_is, image_is, there.is.written_is, grown_sum newer saving.draft.from (length saver.text), grown_least newer saving.draft.from)

  pub length_with_is : length_with old.bridge.store saving.draft ≡ drafted_area saver newer
  length_with_is = omega (arith, area_is, image_is, grown_sum newer saving.draft.from (9 + length saver.text), grown_least newer saving.draft.from)

  -- the draft is of the run state, and the piece the next of its text
  draft_for : IsDraftFor state.run newer there.is.older saving.draft.from saving.slices.text
  draft_for = subst (IsDraftFor state.run newer there.is.older saving.draft.from) (sym there.is.text_is) there.is.draft

  abbrev pub next_run : RunState
  next_run = saved_before state.run newer there.is.older saving.slices.text

  -- what the slice would select
  pub selects_there : (most : ℕ) → left_of old.bridge.store saving.draft ≤ most → length_with old.bridge.store saving.draft ≤ longest_area → Selects most state.run saver next_run
  selects_there most last fits = record {
    newer = newer;
    older = there.is.older;
    split = there.is.split;
    last = omega (arith, last, left_is);
    fits = omega (arith, fits, length_with_is);
    state_is = ap (saved_before state.run newer there.is.older) there.is.text_is;
  }

  pub too_long_there : (most : ℕ) → left_of old.bridge.store saving.draft ≤ most → longest_area < length_with old.bridge.store saving.draft → IsTooLong most state.run saver
  too_long_there most last over =
      record { newer = newer; older = there.is.older; split = there.is.split; last = omega (arith, last, left_is); over = omega (arith, over, length_with_is) }

  pub never_too_long : (most : ℕ) → (left_of old.bridge.store saving.draft ≤ most → length_with old.bridge.store saving.draft ≤ longest_area) → ¬ (IsTooLong most state.run saver)
  never_too_long most within long =
      let same = one_split saver state.run long.newer long.older newer there.is.older long.split there.is.split in
      let last : savers.left_of saver newer ≤ most = subst (λ (commands : List Command). savers.left_of saver commands ≤ most) same long.last in
      let over : longest_area < drafted_area saver newer = subst (λ (commands : List Command). longest_area < drafted_area saver commands) same long.over in
      omega (arith, within (omega (arith, last, left_is)), over, length_with_is)

  module _ (piece : List ℕ) (next : IsNextOf saving.draft saving.slices.text piece) (before : DiskSeen) where
    pub draft_here : AreFilesOf state.run before.moments.now → IsDraftOn old.bridge.store saving.draft saving.slices.text before.moments.now
        → IsDraftHere old.bridge.store saving.draft piece before state.run newer there.is.older saving.slices.text
    draft_here stood on = record { stands = s.bridge.store; files = stood.read; is_for = draft_for; on = on; next = next }

-- ---- the turn

-- the bridge stands for what it stood for, where its store and its answers stay
same_bridge : (old new : Bridged) → new.store ≡ old.store → new.answers ≡ old.answers → (run : RunState) → bridges.StandsFor old run → bridges.StandsFor new run
same_bridge old new same answers run s = stands_still old new run run s (subst (λ (x : Stored). stores.StandsFor x run) (sym same) s.store) refl refl answers

module _ {D : Type 0} (tells : Bool) (seen : D → DiskSeen) (old : Listed) (before after : D) (on : IsTrue tells → IsListOn old (seen before).moments.now) (saving : Saving) (saving_is : old.saving ≡ Some saving)
    (of : IsDraftOf old.bridge.store saving.draft) (given : IsGiven saving) (asked : ℕ) (piece : List ℕ) where
  draft_on : IsTrue tells → IsDraftOn old.bridge.store saving.draft saving.slices.text (seen before).moments.now
  draft_on told = subst (λ (held : Option Saving). IsSavingOn old.bridge.store held (seen before).moments.now) saving_is (on told).saving

  beside : EachMoment (LeavesOthers saving.draft.draft.file (seen before).moments.now) (seen before).moments (seen after).moments
      → EachMoment (LeavesOthers (drafted_by old.bridge.store.slots.count) (seen before).moments.now) (seen before).moments (seen after).moments
  beside = subst (λ (file : ℕ). EachMoment (LeavesOthers file (seen before).moments.now) (seen before).moments (seen after).moments) of.file

  module _ (next : IsNextOf saving.draft saving.slices.text piece) (state : ListState) (s : StandsFor old state) where
    abbrev saver_of : Saver
    saver_of = saver old saving saving_is given.image state s

    abbrev run_behind : RunState
    run_behind = next_run old saving saving_is given.image state s

    here : IsTrue tells → AreFilesOf state.run (seen before).moments.now
        → IsDraftHere old.bridge.store saving.draft piece (seen before) state.run (newer old saving saving_is given.image state s) (there old saving saving_is given.image state s).is.older saving.slices.text
    here told stood = draft_here old saving saving_is given.image state s piece next (seen before) stood (draft_on told)

  -- ---- more is left

  module _ (next : IsNextOf saving.draft saving.slices.text piece) (bridge : Bridged) (drafting : Drafting) (slices_left : Sliced) (text_is : slices_left.text ≡ saving.slices.text)
      (has : HasWritten old.bridge.store saving.draft (slice_size asked) bridge.store drafting) (answers : bridge.answers ≡ old.bridge.answers)
      (leaves : LeavesSlice tells old.bridge.store saving.draft piece (seen before) (seen after) (slices.Written bridge.store drafting))
      (kept : IsTrue tells → KeepsSliced old.bridge.store saving.draft piece (slice_size asked) (seen before) (seen after) (slices.Written bridge.store drafting)) where
    abbrev saving_on : Saving
    saving_on = record { draft = drafting; slices = slices_left }

    saver_on : (state : ListState) (s : StandsFor old state) → IsSaverOf state.run saving_on (record (saver_of next state s) { written = (saver_of next state s).written + slice_size asked })
    saver_on state s =
        let is = (there old saving saving_is given.image state s).is in
        record {
          newer = is.newer;
          older = is.older;
          split = record { since_is = is.split.since_is; count_is = is.split.count_is };
          draft = subst (λ (from : ℕ). IsDraftFor state.run is.newer is.older from (saver_of next state s).text) (sym (ap (λ (d : Drafting). d.from) has.drafting_is)) is.draft;
          text_is = text_is ∙ is.text_is;
          written_is = omega (arith, ap (λ (d : Drafting). d.draft.written) has.drafting_is, is.written_is);
        }

    pub slice_written : AnswersList tells seen old before (Slice asked) more_reply (On (listed bridge old.mirror old.held old.page (Some saving_on))) after
    slice_written = record {
      step = λ state s.
          let held = there old saving saving_is given.image state s in
          record {
            new = record { run = state.run; sessions = state.sessions; saver = Some (record held.saver { written = held.saver.written + slice_size asked }) };
            step = record {
              moves = writes held.saver held.saver_is (record {
                newer = held.is.newer;
                older = held.is.older;
                split = held.is.split;
                more = omega (arith, has.some_left, left_is old saving saving_is given.image state s);
                told = refl;
                same = refl;
                moves = refl;
              });
              sessions = refl;
            };
            stands = record { bridge = same_bridge old.bridge bridge has.same answers state.run s.bridge; mirror = s.mirror; sessions = s.sessions; saving = saver_on state s };
            follow = λ told stood. files_beside old.bridge.store state.run s.bridge.store (seen before) (seen after) stood (beside (leaves.others told))
                (kept told state.run held.is.newer held.is.older saving.slices.text (here next state s told stood));
          };
      later = leaves.later;
      none = leaves.ends.1;
      works = λ zero. leaves.ends.0;
      drafts = λ told runs. beside (leaves.others told);
      ends = λ told. record {
        store = leaves.ends.2 told;
        saving = subst (λ (text : List ℕ). IsDraftOn bridge.store drafting text (seen after).moments.now) (sym text_is) (leaves.written told saving.slices.text (draft_on told) next);
      };
      untouched = λ undone. absurd (undone.0 refl);
      others = leaves.spared;
      bridge = (answers, λ is. omega (arith, is));
      page = refl;
    }

  -- ---- the area is selected

  module _ (next : IsNextOf saving.draft saving.slices.text piece) (bridge : Bridged) (number : ℕ) (has : HasSelected old.bridge.store saving.draft (slice_size asked) bridge.store number)
      (answers : bridge.answers ≡ old.bridge.answers) (leaves : LeavesSlice tells old.bridge.store saving.draft piece (seen before) (seen after) (slices.Selected bridge.store number))
      (stands : StandsBehind old.bridge.store saving.draft (slices.Selected bridge.store number))
      (kept : IsTrue tells → KeepsSliced old.bridge.store saving.draft piece (slice_size asked) (seen before) (seen after) (slices.Selected bridge.store number)) where
    same_chain : (state : ListState) (s : StandsFor old state) → chain_of (run_behind next state s) ≡ chain_of state.run
    same_chain state s =
        let is = (there old saving saving_is given.image state s).is in
        sym (chain_behind old.bridge.store state.run s.bridge.store is.newer is.older saving.draft.from saving.slices.text (draft_for old saving saving_is given.image state s))

    selected_stands : (state : ListState) (s : StandsFor old state) → stores.StandsFor bridge.store (run_behind next state s)
    selected_stands state s =
        let is = (there old saving saving_is given.image state s).is in
        stands state.run is.newer is.older saving.slices.text s.bridge.store (draft_for old saving saving_is given.image state s) given.image

    pub slice_selected : AnswersList tells seen old before (Slice asked) (selected_reply number) (On (listed bridge old.mirror old.held old.page None)) after
    slice_selected = record {
      step = λ state s.
          let held = there old saving saving_is given.image state s in
          record {
            new = record { run = run_behind next state s; sessions = state.sessions; saver = None };
            step = record {
              moves = selects held.saver held.saver_is (selects_there old saving saving_is given.image state s (slice_size asked) has.all_left has.within)
                  (ap selected_reply (omega (arith, has.number_is, s.bridge.store.selections))) refl;
              sessions = refl;
            };
            stands = record {
              bridge = stands_still old.bridge bridge state.run (run_behind next state s) s.bridge (selected_stands state s) refl (same_chain state s) answers;
              mirror = subst (λ (chain : Chain). IsMirrorOn chain old.mirror) (sym (same_chain state s)) s.mirror;
              sessions = s.sessions;
              saving = tt;
            };
            follow = λ told stood.
                let all = kept told state.run held.is.newer held.is.older saving.slices.text (here next state s told stood) in
                record { files = record { read = all.1; each = all.2 }; any_moment = all.0 };
          };
      later = leaves.later;
      none = leaves.ends.1;
      works = λ zero. leaves.ends.0;
      drafts = λ told runs. absurd (cc runs);
      ends = λ told. record { store = leaves.ends.2 told; saving = tt };
      untouched = λ undone. absurd (undone.0 refl);
      others = leaves.spared;
      bridge = (answers, λ is. omega (arith, is));
      page = refl;
    }

  -- ---- the area would be too long

  module _ (next : IsNextOf saving.draft saving.slices.text piece) (bridge : Bridged) (same : bridge.store ≡ old.bridge.store) (last : left_of old.bridge.store saving.draft ≤ slice_size asked)
      (over : longest_area < length_with old.bridge.store saving.draft) (answers : bridge.answers ≡ old.bridge.answers) (untouched : after ≡ before)
      (leaves : LeavesSlice tells old.bridge.store saving.draft piece (seen before) (seen after) (slices.AreaLimit bridge.store)) where
    pub slice_too_long : AnswersList tells seen old before (Slice asked) area_limit_reply (On (listed bridge old.mirror old.held old.page None)) after
    slice_too_long = record {
      step = λ state s.
          let held = there old saving saving_is given.image state s in
          record {
            new = record { run = state.run; sessions = state.sessions; saver = None };
            step = record { moves = gives_up held.saver held.saver_is (too_long_there old saving saving_is given.image state s (slice_size asked) last over) refl refl refl; sessions = refl };
            stands = record { bridge = same_bridge old.bridge bridge same answers state.run s.bridge; mirror = s.mirror; sessions = s.sessions; saving = tt };
            follow = λ told stood. subst (λ (d : D). KeepsFiles state.run state.run (seen before) (seen d)) (sym untouched) (files_stay seen before state.run stood);
          };
      later = leaves.later;
      none = leaves.ends.0;
      works = λ zero. absurd (omega (arith, zero));
      drafts = λ told runs. beside (leaves.others told);
      ends = λ told. record { store = leaves.ends.1 told; saving = tt };
      untouched = λ undone. untouched;
      others = leaves.spared;
      bridge = (answers, λ is. omega (arith, is));
      page = refl;
    }

  -- ---- the disk failed

  module _ (next : IsNextOf saving.draft saving.slices.text piece) (within : left_of old.bridge.store saving.draft ≤ slice_size asked → length_with old.bridge.store saving.draft ≤ longest_area)
      (leaves : LeavesSlice tells old.bridge.store saving.draft piece (seen before) (seen after) slices.Faulted)
      (kept : IsTrue tells → KeepsSliced old.bridge.store saving.draft piece (slice_size asked) (seen before) (seen after) slices.Faulted) where
    -- what may be kept goes by whether the slice was the last
    keeps_by : (state : ListState) (s : StandsFor old state) → IsTrue tells → AreFilesOf state.run (seen before).moments.now
        → (slice_size asked < left_of old.bridge.store saving.draft) ⊎ (left_of old.bridge.store saving.draft ≤ slice_size asked) → KeepsEither (MayLeave state (Slice asked)) state.run (seen before) (seen after)
    keeps_by state s told stood (inl more) =
        let held = there old saving saving_is given.image state s in
        record {
          kept = state.run;
          is_kept = inl refl;
          any_moment = weaken _ (λ files each image_is is. inl (each image_is is)) ((kept told state.run held.is.newer held.is.older saving.slices.text (here next state s told stood)).1 more);
        }
    keeps_by state s told stood (inr last) =
        let held = there old saving saving_is given.image state s in
        record {
          kept = run_behind next state s;
          is_kept = inr (record { saver = held.saver; one_runs = held.saver_is; selects = selects_there old saving saving_is given.image state s (slice_size asked) last (within last) });
          any_moment = (kept told state.run held.is.newer held.is.older saving.slices.text (here next state s told stood)).0;
        }

    pub slice_failed : AnswersList tells seen old before (Slice asked) fault_reply Ended after
    slice_failed = record {
      step = λ state s. record {
        valid =
            let held = there old saving saving_is given.image state s in
            record { saver = held.saver; one_runs = held.saver_is; fits = never_too_long old saving saving_is given.image state s (slice_size asked) within };
        keeps = λ told stood. keeps_by state s told stood (cases_lt (slice_size asked) (left_of old.bridge.store saving.draft));
      };
      later = leaves.later;
      none = tt;
      works = λ zero. absurd (omega (arith, zero));
      drafts = λ told runs. absurd runs;
      ends = (refl, leaves.ends);
      untouched = λ undone. absurd (undone.1 refl);
      others = leaves.spared;
      bridge = tt;
      page = tt;
    }

-- ---- whatever came of it

-- the lister behind a slice
abbrev pub behind_slice : Listed → Option (Bridged × Option Saving) → ListTurned
behind_slice old (Some left) = On (listed left.0 old.mirror old.held old.page left.1)
behind_slice old None = Ended

-- what is kept of the save is that of the store
abbrev pub KeepsSaving : Option (Bridged × Option Saving) → Type 0
KeepsSaving (Some left) = IsSavingOf left.0.store left.1
KeepsSaving None = Unit {0}

module _ {D : Type 0} (tells : Bool) (seen : D → DiskSeen) (old : Listed) (before after : D) (saving : Saving) (most : ℕ) (rest : Sliced) where
  pub slice_keeps : (turned : SliceTurned) → WritesSlice tells seen old.bridge saving most before after turned rest → KeepsSaving (left_by turned rest)
  slice_keeps (turns.Written bridge drafting) w = (w.answer.is_draft, w.given)
  slice_keeps (turns.Selected bridge number) w = tt
  slice_keeps (turns.AreaLimit bridge) w = tt
  slice_keeps turns.Ended w = tt

module _ {D : Type 0} (tells : Bool) (seen : D → DiskSeen) (old : Listed) (before after : D) (on : IsTrue tells → IsListOn old (seen before).moments.now) (saving : Saving) (saving_is : old.saving ≡ Some saving)
    (asked : ℕ) (rest : Sliced) where
  pub slice_told : IsSavingOf old.bridge.store (Some saving) → (turned : SliceTurned) → WritesSlice tells seen old.bridge saving (slice_size asked) before after turned rest
      → AnswersList tells seen old before (Slice asked) (slice_reply turned) (behind_slice old (left_by turned rest)) after
  slice_told of (turns.Written bridge drafting) w =
      slice_written tells seen old before after on saving saving_is of.0 of.1 asked w.piece w.next bridge drafting rest w.text_is w.answer w.answers w.leaves w.kept
  slice_told of (turns.Selected bridge number) w =
      slice_selected tells seen old before after on saving saving_is of.0 of.1 asked w.piece w.next bridge number w.answer w.answers w.leaves w.stands w.kept
  slice_told of (turns.AreaLimit bridge) w =
      slice_too_long tells seen old before after on saving saving_is of.0 of.1 asked w.piece w.next bridge w.answer.0 w.answer.1 w.answer.2 w.answers w.undone w.leaves
  slice_told of turns.Ended w = slice_failed tells seen old before after on saving saving_is of.0 of.1 asked w.piece w.next w.answer w.leaves w.kept
