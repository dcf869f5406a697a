-- The begin of a save in slices, by what came of it in the bridge.
use Rattle.std.proofs.Common.{◌≡◌, ◌<◌, ◌≤◌, ℕ, Bool, [], ◌++◌, length, Option, Some, None, refl, sym, ap, subst, ◌∙◌, arith, length-append}
use Rattle.std.specs.Prelude.{◌≢◌, IsTrue}
use Rattle.std.specs.Option.{is_some}
use Rattle.fault_counts.proofs.FaultLemmas.{NeverFell_refl}
use Rattle.disk_model.specs.DiskSeen.{DiskSeen}
use Rattle.disk_model.specs.Moments.{start}
use Rattle.disk_model.proofs.MomentLemmas.{weaken}
use Rattle.feed_frames.specs.Replies.{Reply}
use Rattle.chain_state.specs.Chain.{IsIndexed}
use Rattle.chain_commands.specs.Event.{Save}
use Rattle.chain_commands.specs.Reply.{no_memory_reply}
use Rattle.chain_commands.specs.RunState.{RunState, chain_of}
use Rattle.chain_commands.specs.Saving.{IsTextOf, HasLongText, CheckpointLimit, ImageLimit, save_refusal_reply, longest_image, most_selections}
use Rattle.chain_commands.proofs.SavingLemmas.{one_text}
use Rattle.undo_records.specs.declared.version.Version.TheVariants.{Two}
use Rattle.image_files.specs.SavingIndex.{IsTextOfIndex}
use Rattle.name_store.specs.Drafting.{Drafting}
use Rattle.name_store.specs.Slicing.{BeginAnswer, HasBegun, LeavesBegun}
use Rattle.name_store.specs.Saves.{save_refusal_of}
use Rattle.name_store.specs.Stored as stores
use Rattle.name_store.specs.Stored.{Stored}
use Rattle.name_store.specs.declared.drafting.DraftOutcome.TheVariants as drafts
use Rattle.name_store.specs.declared.saving.SaveRefusal.{SaveRefusal}
use Rattle.name_store.specs.declared.saving.SaveRefusal.TheVariants as refusals
use Rattle.name_store.proofs.TextLemmas.{text_of}
use Rattle.bridge_core.specs.Bridge.{IsUndone, fault_code, fault_reply}
use Rattle.bridge_core.specs.Bridged as bridges
use Rattle.bridge_core.specs.Bridged.{Bridged}
use Rattle.bridge_core.proofs.BridgedLemmas.{stands_still}
use Rattle.sliced_save.specs.Mirror.{Mirrored}
use Rattle.sliced_save.specs.Sliced.{Sliced}
use Rattle.name_lister.specs.Answers.{AnswersList, AsksPlain}
use Rattle.name_lister.specs.Event.{Plain, Begin, Slice}
use Rattle.name_lister.specs.Kept.{IsMirrorNow}
use Rattle.name_lister.specs.Lister.{Listed, listed, StandsFor, IsListOn}
use Rattle.name_lister.specs.Saver.{Saver, Begins, runs_already, no_more_saves, lacks_memory, too_long, begins, Slices, no_save, slice_size, running_reply, no_save_reply, begun_reply}
use Rattle.name_lister.specs.Saving.{IsPinnedBy, IsSaverOf, SavesFor}
use Rattle.name_lister.specs.Step.{ListState, PlainStep}
use Rattle.name_lister.specs.declared.lister.ListTurned.TheVariants.{On, Ended}
use Rattle.name_lister.specs.declared.saving.Saving.{Saving}
use Rattle.name_lister.proofs.FileLemmas.{spares, files_beside}
use Rattle.name_lister.proofs.KeptLemmas.{mirror_now}
use Rattle.name_lister.proofs.TurnLemmas.{files_stay}

-- ---- what changes nothing

module _ {D : Type 0} (tells : Bool) (seen : D → DiskSeen) (old : Listed) (disk : D) (on : IsTrue tells → IsListOn old (seen disk).moments.now) (reply : Reply) (undone : IsUndone reply) where
  pub begin_aside : ((state : ListState) → StandsFor old state → Begins state.run state.saver reply state.saver) → AnswersList tells seen old disk Begin reply (On old) disk
  begin_aside made = record {
    step = λ state s. record {
      new = state;
      step = record { moves = (refl, made state s); sessions = refl };
      stands = s;
      follow = λ told stood. files_stay seen disk state.run stood;
    };
    later = NeverFell_refl (seen disk).faults;
    none = refl;
    works = λ zero. absurd (undone.0 zero);
    drafts = λ told. start (λ other differ. refl);
    ends = on;
    untouched = λ asks. refl;
    others = λ told. start refl;
    bridge = (refl, undone.1);
    page = refl;
  }

  pub slice_aside : (asked : ℕ) → ((state : ListState) → StandsFor old state → Slices (slice_size asked) state.run state.saver reply state.run state.saver)
      → AnswersList tells seen old disk (Slice asked) reply (On old) disk
  slice_aside asked made = record {
    step = λ state s. record {
      new = state;
      step = record { moves = made state s; sessions = refl };
      stands = s;
      follow = λ told stood. files_stay seen disk state.run stood;
    };
    later = NeverFell_refl (seen disk).faults;
    none = refl;
    works = λ zero. absurd (undone.0 zero);
    drafts = λ told runs. start (λ other differ. refl);
    ends = on;
    untouched = λ asks. refl;
    others = λ told. start refl;
    bridge = (refl, undone.1);
    page = refl;
  }

-- ---- a save while one runs in slices

module _ {D : Type 0} (tells : Bool) (seen : D → DiskSeen) (old : Listed) (disk : D) (on : IsTrue tells → IsListOn old (seen disk).moments.now) where
  running_step : (saving : Option Saving) (saver : Option Saver) (run : RunState) → IsTrue (is_some saving) → SavesFor run saving saver → PlainStep saver run Save running_reply run
  running_step None saver run some s = absurd (cc some)
  running_step (Some saving) None run some s = absurd s
  running_step (Some saving) (Some saver) run some s = (refl, refl)

  running_asks : (saving : Option Saving) → IsTrue (is_some saving) → AsksPlain tells seen old saving disk Save running_reply (On old) disk
  running_asks None some = absurd (cc some)
  running_asks (Some saving) some = refl

  pub save_aside : IsTrue (is_some old.saving) → AnswersList tells seen old disk (Plain Save) running_reply (On old) disk
  save_aside some = record {
    step = λ state s. record {
      new = state;
      step = record { moves = (running_step old.saving state.saver state.run some s.saving, refl); sessions = refl };
      stands = s;
      follow = λ told stood. files_stay seen disk state.run stood;
    };
    later = NeverFell_refl (seen disk).faults;
    none = refl;
    works = tt;
    drafts = λ told. tt;
    ends = on;
    untouched = λ asks. refl;
    others = λ told. start refl;
    bridge = running_asks old.saving some;
    page = refl;
  }

-- ---- refusals

-- no save runs in the machine, where none runs here
pub none_runs : (run : RunState) (saving : Option Saving) (saver : Option Saver) → saving ≡ None → SavesFor run saving saver → saver ≡ None
none_runs run None None none s = refl
none_runs run None (Some saver) none s = absurd s
none_runs run (Some saving) saver none s = absurd (cc none)

pub begins_while_one_runs : (run : RunState) (saving : Option Saving) (saver : Option Saver) → IsTrue (is_some saving) → SavesFor run saving saver → Begins run saver running_reply saver
begins_while_one_runs run None saver some s = absurd (cc some)
begins_while_one_runs run (Some saving) None some s = absurd s
begins_while_one_runs run (Some saving) (Some saver) some s = runs_already saver refl refl refl

pub slices_while_none_runs : (most : ℕ) (run : RunState) (saving : Option Saving) (saver : Option Saver) → saving ≡ None → SavesFor run saving saver → Slices most run saver no_save_reply run saver
slices_while_none_runs most run saving saver none s =
    let none_too = none_runs run saving saver none s in
    no_save none_too refl refl none_too

module _ (old : Listed) (none : old.saving ≡ None) (state : ListState) (s : StandsFor old state) where
  abbrev saver_none : state.saver ≡ None
  saver_none = none_runs state.run old.saving state.saver none s.saving

  pub begins_at_limit : most_selections ≤ old.bridge.store.slots.count → Begins state.run state.saver (save_refusal_reply CheckpointLimit) state.saver
  begins_at_limit many = no_more_saves saver_none (omega (arith, many, s.bridge.store.selections)) refl saver_none

  few_of : old.bridge.store.slots.count < most_selections → state.run.selections < most_selections
  few_of few = omega (arith, few, s.bridge.store.selections)

  pub begins_without_memory : old.bridge.store.slots.count < most_selections → Begins state.run state.saver no_memory_reply state.saver
  begins_without_memory few = lacks_memory saver_none (few_of few) refl saver_none

  -- what was pinned is the text of the chain's index
  module _ (indexed : IsIndexed old.bridge.store.index) (slices : Sliced) (pinned : IsPinnedBy old.mirror slices) where
    text_here : IsTextOfIndex old.bridge.store.index slices.text
    text_here = by old.mirror pinned (mirror_now (chain_of state.run) old.bridge.store.index old.mirror s.bridge.store.index s.mirror) where
      by : (mirror : Option Mirrored) → IsPinnedBy mirror slices → IsMirrorNow old.bridge.store.index mirror → IsTextOfIndex old.bridge.store.index slices.text
      by None pinned now = absurd pinned
      by (Some mirror) pinned now = pinned.is_text old.bridge.store.index indexed now

    chain_text : IsTextOf Two (chain_of state.run) slices.text
    chain_text = text_of old.bridge.store.index (chain_of state.run) s.bridge.store.index slices.text text_here

    pub begins_too_long : old.bridge.store.slots.count < most_selections → longest_image < length slices.text → Begins state.run state.saver (save_refusal_reply ImageLimit) state.saver
    begins_too_long few long = too_long saver_none (few_of few) (record { text = slices.text; is_text = chain_text; long = long }) refl saver_none

    -- the save is begun
    abbrev begun_saver : Saver
    begun_saver = record { commands = length (state.run.since ++ state.run.saved); text = slices.text; written = 0 }

    pub begins_here : old.bridge.store.slots.count < most_selections → length slices.text ≤ longest_image → Begins state.run state.saver begun_reply (Some begun_saver)
    begins_here few short = begins begun_saver saver_none (few_of few) (record { is_text = chain_text; short = short; commands_are = refl; none_yet = refl }) refl refl

    pub saver_begun : (drafting : Drafting) → drafting.from ≡ old.bridge.store.area → drafting.draft.written ≡ 0 → IsSaverOf state.run (record { draft = drafting; slices = slices }) begun_saver
    saver_begun drafting from_is none_yet = record {
      newer = [];
      older = state.run.since;
      split = record { since_is = refl; count_is = length-append state.run.since state.run.saved };
      draft = record { parts = refl; from_is = from_is ∙ s.bridge.store.area; index = old.bridge.store.index; stands = s.bridge.store.index; is_text = text_here };
      text_is = refl;
      written_is = none_yet;
    }

    pub no_long_text : length slices.text ≤ longest_image → ¬ (HasLongText longest_image (chain_of state.run))
    no_long_text short long = omega (arith, short, long.long, ap length (one_text Two (chain_of state.run) long.text slices.text long.is_text chain_text))

-- ---- the draft

module _ {D : Type 0} (tells : Bool) (seen : D → DiskSeen) (old : Listed) (before after : D) (none : old.saving ≡ None) (indexed : IsIndexed old.bridge.store.index) (slices : Sliced)
    (pinned : IsPinnedBy old.mirror slices) (size : ℕ) (size_is : size ≡ length slices.text) where
  -- the draft was begun
  module _ (bridge : Bridged) (drafting : Drafting) (has : HasBegun old.bridge.store size bridge.store drafting)
      (leaves : LeavesBegun tells old.bridge.store (seen before) (seen after) (drafts.Begun bridge.store drafting)) (answers : bridge.answers ≡ old.bridge.answers) where
    abbrev begun_lister : Listed
    begun_lister = listed bridge old.mirror old.held old.page (Some (record { draft = drafting; slices = slices }))

    few : old.bridge.store.slots.count < most_selections
    few = omega (arith, has.is_draft.few, ap (λ (x : Stored). x.slots.count) has.same)

    image_is : drafting.draft.image ≡ length slices.text
    image_is = ap (λ (d : Drafting). d.draft.image) has.drafting_is ∙ size_is

    short : length slices.text ≤ longest_image
    short = omega (arith, has.is_draft.short, image_is)

    bridge_stands : (run : RunState) → bridges.StandsFor old.bridge run → bridges.StandsFor bridge run
    bridge_stands run s = stands_still old.bridge bridge run run s (subst (λ (x : Stored). stores.StandsFor x run) (sym has.same) s.store) refl refl answers

    pub draft_begun : AnswersList tells seen old before Begin begun_reply (On begun_lister) after
    draft_begun = record {
      step = λ state s. record {
        new = record { run = state.run; sessions = state.sessions; saver = Some (begun_saver old none state s indexed slices pinned) };
        step = record { moves = (refl, begins_here old none state s indexed slices pinned few short); sessions = refl };
        stands = record {
          bridge = bridge_stands state.run s.bridge;
          mirror = s.mirror;
          sessions = s.sessions;
          saving = saver_begun old none state s indexed slices pinned drafting (ap (λ (d : Drafting). d.from) has.drafting_is) (ap (λ (d : Drafting). d.draft.written) has.drafting_is);
        };
        follow = λ told stood. files_beside old.bridge.store state.run s.bridge.store (seen before) (seen after) stood (leaves.others told)
            (leaves.kept told state.run s.bridge.store stood.read);
      };
      later = leaves.later;
      none = leaves.ends.1;
      works = λ zero. leaves.ends.0;
      drafts = leaves.others;
      ends = λ told. record { store = leaves.ends.2 told; saving = leaves.begun told slices.text image_is };
      untouched = λ undone. absurd (undone.0 refl);
      others = λ told. weaken _ (λ files same. spares old.bridge.store (seen before).moments.now files same) (leaves.others told);
      bridge = (answers, λ is. omega (arith, is));
      page = refl;
    }

  -- it was refused
  module _ (on : IsTrue tells → IsListOn old (seen before).moments.now) (bridge : Bridged) (answers : bridge.answers ≡ old.bridge.answers) (untouched : after ≡ before) where
    same_lister : bridge.store ≡ old.bridge.store → listed bridge old.mirror old.held old.page None ≡ old
    same_lister same = λ i. record { bridge = record { store = same i; answers = answers i }; mirror = old.mirror; held = old.held; page = old.page; saving = sym none i }

    pub draft_refused : (refusal : SaveRefusal) → old.bridge.store.slots.count < most_selections → BeginAnswer old.bridge.store size (drafts.Refused bridge.store refusal)
        → AnswersList tells seen old before Begin (save_refusal_reply (save_refusal_of refusal)) (On (listed bridge old.mirror old.held old.page None)) after
    draft_refused refusals.CheckpointLimit few answer = absurd (omega (arith, few, answer.1))
    draft_refused refusals.ImageLimit few answer =
        subst (λ (d : D). AnswersList tells seen old before Begin (save_refusal_reply ImageLimit) (On (listed bridge old.mirror old.held old.page None)) d) (sym untouched)
        (subst (λ (l : Listed). AnswersList tells seen old before Begin (save_refusal_reply ImageLimit) (On l) before) (sym (same_lister answer.0))
        (begin_aside tells seen old before on (save_refusal_reply ImageLimit) (λ is. omega (arith, is), λ is. omega (arith, is))
        (λ state s. begins_too_long old none state s indexed slices pinned few (omega (arith, answer.2, size_is)))))

  -- the disk failed
  pub draft_failed : old.bridge.store.slots.count < most_selections → size ≤ longest_image → LeavesBegun tells old.bridge.store (seen before) (seen after) drafts.Faulted
      → AnswersList tells seen old before Begin fault_reply Ended after
  draft_failed few short leaves = record {
    step = λ state s. record {
      valid = record {
        none_runs = saver_none old none state s;
        few = few_of old none state s few;
        short = no_long_text old none state s indexed slices pinned (omega (arith, short, size_is));
      };
      keeps = λ told stood. record {
        kept = state.run;
        is_kept = refl;
        any_moment = (files_beside old.bridge.store state.run s.bridge.store (seen before) (seen after) stood (leaves.others told) (leaves.kept told state.run s.bridge.store stood.read)).any_moment;
      };
    };
    later = leaves.later;
    none = tt;
    works = λ zero. absurd (omega (arith, zero));
    drafts = leaves.others;
    ends = (refl, leaves.ends);
    untouched = λ undone. absurd (undone.1 refl);
    others = λ told. weaken _ (λ files same. spares old.bridge.store (seen before).moments.now files same) (leaves.others told);
    bridge = tt;
    page = tt;
  }
