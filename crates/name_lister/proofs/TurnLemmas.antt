-- A turn of a lister by what came of the event in its bridge and in what is kept.
use Rattle.std.proofs.Common.{◌≡◌, ℕ, ◌≤◌, List, [], ◌∷◌, Option, Some, None, refl, sym, ap, subst, inl, inr}
use Rattle.std.specs.Prelude.{◌≢◌, ◌⊎◌, Bool, IsTrue}
use Rattle.std.proofs.lemmas.Bool.{cases_eq}
use Rattle.fault_counts.proofs.FaultLemmas.{NeverFell_refl}
use Rattle.disk_model.specs.DiskSeen.{DiskSeen}
use Rattle.disk_model.specs.Moments.{start}
use Rattle.feed_frames.specs.Replies.{Reply}
use Rattle.nmc_base.specs.declared.chain_ends.Base.{Base}
use Rattle.chain_names.specs.Coins.{Maps}
use Rattle.chain_names.specs.Sound.{IsSound}
use Rattle.chain_names.specs.Undo.{UndoRecord}
use Rattle.name_tables.specs.Tables.{maps_by}
use Rattle.chain_state.specs.Chain.{Indexed, IsIndexed}
use Rattle.nmc_base.specs.Heights.{highest}
use Rattle.nmc_base.specs.declared.chain_ends.Profile.{Profile}
use Rattle.chain_commands.specs.Chain.{Chain, with_block}
use Rattle.chain_commands.specs.Event.{Event, Connect, Disconnect, Do, Ask, Save}
use Rattle.chain_commands.specs.RunState.{RunState, chain_of, accepted}
use Rattle.index_commands.specs.Standing as chains
use Rattle.bridge_core.specs.Step as machine
use Rattle.bridge_core.proofs.MachineLemmas.{step_leaves}
use Rattle.bridge_core.specs.Bridge.{AnswersEvent, AreFilesOf}
use Rattle.bridge_core.specs.Bridged as bridges
use Rattle.bridge_core.specs.Reached.{bridge_machine}
use Rattle.bridge_core.specs.Runs as runs
use Rattle.bridge_core.specs.Runs.{KeepsFiles}
use Rattle.bridge_core.specs.declared.bridge.Turned.TheVariants as bridge
use Rattle.bridge_core.proofs.ReachedLemmas.{is_machine}
use Rattle.listing_sessions.specs.Pages.{Pinned}
use Rattle.listing_sessions.specs.Pinned.{AreTakenFrom, IsMirrorOn, MakesStep, StandFor}
use Rattle.listing_sessions.specs.Sessions.{Opens, Pages, Closes}
use Rattle.sliced_save.specs.Mirror.{Mirrored}
use Rattle.name_lister.specs.Answers.{AnswersList, AsksPlain}
use Rattle.name_lister.specs.Event.{Plain, Open, Page, Close}
use Rattle.name_lister.specs.Kept.{IsMirrorNow, IsMirrorBefore}
use Rattle.name_lister.specs.Lister.{Listed, listed, IsListOn}
use Rattle.name_lister.specs.Saver.{Saver}
use Rattle.name_lister.specs.Saving.{SavesFor, IsSavingOn}
use Rattle.name_lister.specs.Step.{PlainStep, IsAllowed}
use Rattle.name_lister.specs.declared.lister.ListTurned.TheVariants.{On, Ended}
use Rattle.name_lister.specs.declared.saving.Saving.{Saving}
use Rattle.name_lister.proofs.KeptLemmas.{mirror_on, mirror_now, mirror_before, mirror_without}
use Rattle.name_lister.proofs.SaverLemmas.{IsAsked, saver_follows}

-- ---- what is kept behind an event

-- of every step that the bridge's stores stand for: what was kept of the old chain becomes what is kept of the new one
abbrev pub FollowsMirror : Listed → Event → Reply → Listed → Type 0
FollowsMirror old event reply new =
    (run next : RunState) → machine.Step run event reply next → bridges.StandsFor old.bridge run → bridges.StandsFor new.bridge next
    → IsMirrorOn (chain_of run) old.mirror → IsMirrorOn (chain_of next) new.mirror

module _ (old new : Listed) (reply : Reply) where
  -- the chain stays, and so does what is kept of it
  pub stay_mirror : (event : Event) → ((run next : RunState) → machine.Step run event reply next → chain_of next ≡ chain_of run) → new.mirror ≡ old.mirror → FollowsMirror old event reply new
  stay_mirror event stays same = λ run next step s t are.
      subst (λ (mirror : Option Mirrored). IsMirrorOn (chain_of next) mirror) (sym same) (subst (λ (chain : Chain). IsMirrorOn chain old.mirror) (sym (stays run next step)) are)

  pub connected_mirror : (block : List ℕ)
      → (reply.code ≡ 0 → IsMirrorBefore new.bridge.store.index old.mirror → IsMirrorNow new.bridge.store.index new.mirror) → (reply.code ≢ 0 → new.mirror ≡ old.mirror)
      → FollowsMirror old (Do (Connect block)) reply new
  connected_mirror block done same = λ run next step s t are. by run next step t are (cases_eq reply.code 0) where
    by : (run next : RunState) → machine.Step run (Do (Connect block)) reply next → bridges.StandsFor new.bridge next
        → IsMirrorOn (chain_of run) old.mirror → (reply.code ≡ 0) ⊎ (reply.code ≢ 0) → IsMirrorOn (chain_of next) new.mirror
    by run next step t are (inl is_zero) =
        let is : next ≡ accepted run (Connect block) = (step_leaves run next (Do (Connect block)) reply step).done is_zero in
        let index = new.bridge.store.index in
        let stands : chains.StandsFor index (with_block (chain_of run) block) = subst (λ (r : RunState). chains.StandsFor index (chain_of r)) is t.store.index in
        mirror_on (chain_of next) index new.mirror t.store.index (done is_zero (mirror_before (chain_of run) block index old.mirror stands are))
    by run next step t are (inr other) =
        let is : next ≡ run = (step_leaves run next (Do (Connect block)) reply step).undone other in
        subst (λ (mirror : Option Mirrored). IsMirrorOn (chain_of next) mirror) (sym (same other)) (subst (λ (r : RunState). IsMirrorOn (chain_of r) old.mirror) (sym is) are)

  pub disconnected_mirror : (hash : List ℕ)
      → (reply.code ≡ 0 → IsMirrorNow old.bridge.store.index old.mirror → IsMirrorBefore old.bridge.store.index new.mirror) → (reply.code ≢ 0 → new.mirror ≡ old.mirror)
      → FollowsMirror old (Do (Disconnect hash)) reply new
  disconnected_mirror hash done same = λ run next step s t are. by run next step s are (cases_eq reply.code 0) where
    by : (run next : RunState) → machine.Step run (Do (Disconnect hash)) reply next → bridges.StandsFor old.bridge run
        → IsMirrorOn (chain_of run) old.mirror → (reply.code ≡ 0) ⊎ (reply.code ≢ 0) → IsMirrorOn (chain_of next) new.mirror
    by run next step s are (inl is_zero) =
        let is : next ≡ accepted run (Disconnect hash) = (step_leaves run next (Do (Disconnect hash)) reply step).done is_zero in
        let index = old.bridge.store.index in
        subst (λ (r : RunState). IsMirrorOn (chain_of r) new.mirror) (sym is)
        (mirror_without (chain_of run) index new.mirror s.store.index (done is_zero (mirror_now (chain_of run) index old.mirror s.store.index are)))
    by run next step s are (inr other) =
        let is : next ≡ run = (step_leaves run next (Do (Disconnect hash)) reply step).undone other in
        subst (λ (mirror : Option Mirrored). IsMirrorOn (chain_of next) mirror) (sym (same other)) (subst (λ (r : RunState). IsMirrorOn (chain_of r) old.mirror) (sym is) are)

-- ---- what any run may be asked

-- so it is in the machine
plain_step : (saving : Option Saving) (saver : Option Saver) (event : Event) (reply : Reply) (run next : RunState) → IsAsked saving event → SavesFor run saving saver
    → machine.Step run event reply next → PlainStep saver run event reply next
plain_step None None event reply run next is s step = step
plain_step None (Some saver) event reply run next is s step = absurd s
plain_step (Some saving) None event reply run next is s step = absurd s
plain_step (Some saving) (Some saver) (Do command) reply run next is s step = step
plain_step (Some saving) (Some saver) (Ask carrier message) reply run next is s step = step
plain_step (Some saving) (Some saver) Save reply run next is s step = absurd is

plain_allowed : (saving : Option Saving) (saver : Option Saver) (event : Event) (run : RunState) → IsAsked saving event → SavesFor run saving saver → IsAllowed saver event
plain_allowed None None event run is s = tt
plain_allowed None (Some saver) event run is s = absurd s
plain_allowed (Some saving) None event run is s = absurd s
plain_allowed (Some saving) (Some saver) (Do command) run is s = tt
plain_allowed (Some saving) (Some saver) (Ask carrier message) run is s = tt
plain_allowed (Some saving) (Some saver) Save run is s = absurd is

module _ {D : Type 0} (tells : Bool) (seen : D → DiskSeen) (old : Listed) (before after : D) (event : Event) (reply : Reply) where
  plain_asked_on : (new : Listed) (saving : Option Saving) (e : Event) → IsAsked saving e → AnswersEvent tells seen old.bridge before e reply (bridge.On new.bridge) after
      → AsksPlain tells seen old saving before e reply (On new) after
  plain_asked_on new None e is by = by
  plain_asked_on new (Some saving) (Do command) is by = by
  plain_asked_on new (Some saving) (Ask carrier message) is by = by
  plain_asked_on new (Some saving) Save is by = absurd is

  plain_asked_ended : (saving : Option Saving) (e : Event) → IsAsked saving e → AnswersEvent tells seen old.bridge before e reply bridge.Ended after
      → AsksPlain tells seen old saving before e reply Ended after
  plain_asked_ended None e is by = by
  plain_asked_ended (Some saving) (Do command) is by = by
  plain_asked_ended (Some saving) (Ask carrier message) is by = by
  plain_asked_ended (Some saving) Save is by = absurd is

  -- the rest of a lister stays
  pub record IsBeside (new : Listed) : Type 0 where
    pub held : new.held ≡ old.held
    pub page : new.page ≡ old.page
    pub saving : new.saving ≡ old.saving
    -- the draft of the save that runs is on the disk still
    pub still : IsTrue tells → IsSavingOn new.bridge.store new.saving (seen after).moments.now

  -- the bridge went on, what is kept followed, and the rest stays
  pub plain_on : (new : Listed) → IsAsked old.saving event → AnswersEvent tells seen old.bridge before event reply (bridge.On new.bridge) after → FollowsMirror old event reply new → IsBeside new
      → AnswersList tells seen old before (Plain event) reply (On new) after
  plain_on new is by follow beside =
      let turn : runs.Turns (bridge_machine tells seen) old.bridge before event reply new.bridge after = (is_machine tells seen).turns old.bridge before event reply new.bridge after by in
      record {
        step = λ state s.
            let made : runs.Moves (bridge_machine tells seen) state.run before event reply new.bridge after = turn.moves state.run s.bridge in
            record {
              new = record { run = made.new; sessions = state.sessions; saver = state.saver };
              step = record { moves = (plain_step old.saving state.saver event reply state.run made.new is s.saving made.step, refl); sessions = refl };
              stands = record {
                bridge = made.stands;
                mirror = follow state.run made.new made.step s.bridge made.stands s.mirror;
                sessions = subst (λ (h : List (Option Pinned)). StandFor h state.sessions) (sym beside.held) s.sessions;
                saving = subst (λ (saving : Option Saving). SavesFor made.new saving state.saver) (sym beside.saving)
                    (saver_follows old.saving state.saver event reply state.run made.new is s.saving made.step);
              };
              follow = made.keeps;
            };
        later = turn.later;
        none = by.leaves.none;
        works = tt;
        drafts = λ told. tt;
        ends = λ told. record { store = by.leaves.still_on told; saving = beside.still told };
        untouched = by.untouched;
        others = by.leaves.others;
        bridge = plain_asked_on new old.saving event is by;
        page = beside.page;
      }

  -- a fault of the disk ended it
  pub plain_ended : IsAsked old.saving event → AnswersEvent tells seen old.bridge before event reply bridge.Ended after → AnswersList tells seen old before (Plain event) reply Ended after
  plain_ended is by =
      let failure : runs.Fails (bridge_machine tells seen) old.bridge before event after =
      (is_machine tells seen).fails old.bridge before event after (subst (λ (r : Reply). AnswersEvent tells seen old.bridge before event r bridge.Ended after) by.told by) in
      record {
        step = λ state s.
            let cut : runs.CutsShort (bridge_machine tells seen) state.run before event after = failure.cuts state.run s.bridge in
            record {
              valid = (plain_allowed old.saving state.saver event state.run is s.saving, cut.valid);
              keeps = cut.keeps;
            };
        later = failure.later;
        none = tt;
        works = tt;
        drafts = λ told. tt;
        ends = (by.told, failure.failed);
        untouched = by.untouched;
        others = by.leaves.others;
        bridge = plain_asked_ended old.saving event is by;
        page = tt;
      }

-- ---- what is asked of sessions

-- what is kept of the chain is taken from it
taken_from : (chain : Chain) (mirror : Option Mirrored) (c : Indexed) → chains.StandsFor c chain → IsMirrorOn chain mirror → AreTakenFrom chain mirror c.base.profile c.tip.height
taken_from chain mirror c s is = record { mirror_is = is; profile_is = ap (λ (b : Base). b.profile) s.base_is; height_is = s.height }

-- the run state stays, and so do the files
pub files_stay : {D : Type 0} (seen : D → DiskSeen) (disk : D) (run : RunState) → AreFilesOf run (seen disk).moments.now → KeepsFiles run run (seen disk) (seen disk)
files_stay seen disk run stood = record { files = stood; any_moment = start (λ image_is is. inl (stood.each image_is is)) }

-- it leaves the bridge, what is kept, the save that runs, and the disk
module _ {D : Type 0} (tells : Bool) (seen : D → DiskSeen) (old : Listed) (disk : D) (on : IsTrue tells → IsListOn old (seen disk).moments.now) (reply : Reply) (held : List (Option Pinned)) where
  abbrev pub behind : Listed
  behind = listed old.bridge old.mirror held old.page old.saving

  pub opened : ((chain : Chain) → AreTakenFrom chain old.mirror old.bridge.store.index.base.profile old.bridge.store.index.tip.height → MakesStep (Opens chain) old.held reply held)
      → AnswersList tells seen old disk Open reply (On behind) disk
  opened opens = record {
    step = λ state s.
        let chain = chain_of state.run in
        let index = s.bridge.store.index in
        let moved = opens chain (taken_from chain old.mirror old.bridge.store.index index s.mirror) state.sessions s.sessions in
        record {
          new = record { run = state.run; sessions = moved.new; saver = state.saver };
          step = record { moves = (refl, refl); sessions = moved.step };
          stands = record { bridge = s.bridge; mirror = s.mirror; sessions = moved.stands; saving = s.saving };
          follow = λ told stood. files_stay seen disk state.run stood;
        };
    later = NeverFell_refl (seen disk).faults;
    none = refl;
    works = tt;
    drafts = λ told. tt;
    ends = λ told. record { store = (on told).store; saving = (on told).saving };
    untouched = λ asks. refl;
    others = λ told. start refl;
    bridge = refl;
    page = refl;
  }

  pub paged : (number : ℕ) → MakesStep (Pages old.page number) old.held reply held → AnswersList tells seen old disk (Page number) reply (On behind) disk
  paged number pages = record {
    step = λ state s. let moved = pages state.sessions s.sessions in record {
      new = record { run = state.run; sessions = moved.new; saver = state.saver };
      step = record { moves = (refl, refl); sessions = moved.step };
      stands = record { bridge = s.bridge; mirror = s.mirror; sessions = moved.stands; saving = s.saving };
      follow = λ told stood. files_stay seen disk state.run stood;
    };
    later = NeverFell_refl (seen disk).faults;
    none = refl;
    works = tt;
    drafts = λ told. tt;
    ends = λ told. record { store = (on told).store; saving = (on told).saving };
    untouched = λ asks. refl;
    others = λ told. start refl;
    bridge = refl;
    page = refl;
  }

  pub closed : (number : ℕ) → MakesStep (Closes number) old.held reply held → AnswersList tells seen old disk (Close number) reply (On behind) disk
  closed number closes = record {
    step = λ state s. let moved = closes state.sessions s.sessions in record {
      new = record { run = state.run; sessions = moved.new; saver = state.saver };
      step = record { moves = (refl, refl); sessions = moved.step };
      stands = record { bridge = s.bridge; mirror = s.mirror; sessions = moved.stands; saving = s.saving };
      follow = λ told stood. files_stay seen disk state.run stood;
    };
    later = NeverFell_refl (seen disk).faults;
    none = refl;
    works = tt;
    drafts = λ told. tt;
    ends = λ told. record { store = (on told).store; saving = (on told).saving };
    untouched = λ asks. refl;
    others = λ told. start refl;
    bridge = refl;
    page = refl;
  }

-- ---- the height of a tip

sound_low : (profile : Profile) (base tip : ℕ) (maps : Maps) (undos : List UndoRecord) → IsSound profile base tip maps undos → tip ≤ highest
sound_low profile base tip maps [] s = s.state.tip_height
sound_low profile base tip maps (undo ∷ undos) s = s.1.state.tip_height

pub tip_low : (c : Indexed) → IsIndexed c → c.tip.height ≤ highest
tip_low c s = sound_low c.base.profile c.base.height c.tip.height (maps_by c.tables) c.undos s.sound
