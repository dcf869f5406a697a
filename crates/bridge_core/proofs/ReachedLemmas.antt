-- A bridge as a machine: what its turns do, and so where its runs lead.
use Rattle.std.proofs.Common.{◌≡◌, inl, inr, Bool, List, [], ◌∷◌, ◌++◌, refl, sym, ap, subst}
use Rattle.std.specs.Prelude.{IsTrue}
use Rattle.std.proofs.lemmas.Bool.{cases_eq}
use Rattle.disk_model.specs.DiskSeen.{DiskSeen}
use Rattle.feed_frames.specs.Frames.{Frame}
use Rattle.feed_frames.specs.Replies.{Reply}
use Rattle.chain_commands.specs.Event.{Event, Do, Ask, Save, event_frame}
use Rattle.chain_commands.specs.RunState.{RunState}
use Rattle.bridge_core.specs.Leaving.{IsDoneBy}
use Rattle.bridge_core.specs.Step.{Step}
use Rattle.bridge_core.proofs.MachineLemmas.{run_push, step_leaves}
use Rattle.name_store.specs.Stored as stores
use Rattle.bridge_core.specs.Bridge.{fault_code, fault_reply, IsUndone, AsksNothing, AnswersEvent, AreFilesOf, OutlivesCrashes}
use Rattle.bridge_core.specs.Bridged.{Bridged}
use Rattle.bridge_core.specs.Reached.{bridge_machine, start_of, Beginning, Begins, LeadsTo, IsReached, IsBroken}
use Rattle.bridge_core.specs.Runs.{one_more, KeepsFiles, Turns, KeepsEither, Fails, IsMachine}
use Rattle.bridge_core.specs.declared.bridge.Turned.TheVariants.{On, Ended}
use Rattle.bridge_core.proofs.DoneLemmas.{done_once}
use Rattle.bridge_core.proofs.RunLemmas as runs
use Rattle.bridge_core.proofs.RunLemmas.{keeps_aside}
use Rattle.bridge_core.proofs.TurnLemmas.{Turn}

-- ---- what one event does

-- it is done, and its reply has code 0; or the state stays, and the disk wasn't asked
pub data Comes (old new : RunState) (reply : Reply) (Same : Type 0) : Type 0 where
  does : reply.code ≡ 0 → Comes old new reply Same
  remains : new ≡ old → Same → Comes old new reply Same

comes_by : (old new : RunState) (event : Event) (reply : Reply) (Same : Type 0) → Step old event reply new → (AsksNothing event reply → Same) → (IsUndone reply → AsksNothing event reply)
    → ¬ (reply.code ≡ fault_code) → Comes old new reply Same
comes_by old new event reply Same step untouched asks no_fault = elim (cases_eq reply.code 0) [
  | inl is_zero ↦ does is_zero
  | inr undone ↦ remains ((step_leaves old new event reply step).undone undone) (untouched (asks (undone, no_fault)))
]

-- a message, a command and a save that weren't done ask nothing
asks_nothing : (event : Event) (reply : Reply) → IsUndone reply → AsksNothing event reply
asks_nothing (Do command) reply undone = undone
asks_nothing (Ask carrier message) reply undone = tt
asks_nothing Save reply undone = undone

-- ---- a turn

-- what a turn does to the files, of each step of the machine that gives its reply
module _ {D : Type 0} (t : Turn D) (event : Event) (new : Bridged) (a : AnswersEvent t.tells t.seen t.old t.before event t.reply (On new) t.after) where
  module _ (run next : RunState) (step : Step run event t.reply next) (crashes : OutlivesCrashes run event (t.seen t.before) (t.seen t.after) t.reply) where
    -- what was kept is what the machine did
    kept_is : t.reply.code ≡ 0 → crashes.next ≡ next
    kept_is is_zero = sym (done_once run event t.reply next crashes.next step is_zero (crashes.is_next.made (inl is_zero)))

    keeps_so : AreFilesOf run (t.seen t.before).moments.now → Comes run next t.reply (t.after ≡ t.before) → KeepsFiles run next (t.seen t.before) (t.seen t.after)
    keeps_so stood (does is_zero) =
        subst (λ (x : RunState). KeepsFiles run x (t.seen t.before) (t.seen t.after)) (kept_is is_zero) (record { files = crashes.done is_zero; any_moment = crashes.any_moment })
    keeps_so stood (remains new_is same) = keeps_aside t.seen run next t.before t.after new_is same stood

  pub keeps_behind : (run next : RunState) → stores.StandsFor t.old.store run → Step run event t.reply next → IsTrue t.tells → AreFilesOf run (t.seen t.before).moments.now
      → KeepsFiles run next (t.seen t.before) (t.seen t.after)
  keeps_behind run next s step told stood =
      keeps_so run next step (a.kept told run s stood.read) stood (comes_by run next event t.reply (t.after ≡ t.before) step a.untouched (asks_nothing event t.reply) a.told)

-- a fault of the disk ended the bridge
pub keeps_cut : {D : Type 0} (t : Turn D) (event : Event) → AnswersEvent t.tells t.seen t.old t.before event t.reply Ended t.after → (run : RunState) → stores.StandsFor t.old.store run
    → IsTrue t.tells → AreFilesOf run (t.seen t.before).moments.now → KeepsEither (IsDoneBy run event) run (t.seen t.before) (t.seen t.after)
keeps_cut t event a run s told stood =
    let crashes = a.kept told run s stood.read in
    record { kept = crashes.next; is_kept = crashes.is_next.made (inr (ap (λ (x : Reply). x.code) a.told)); any_moment = crashes.any_moment }

-- ---- the bridge's machine

module _ {D : Type 0} (tells : Bool) (seen : D → DiskSeen) (old : Bridged) (before : D) (event : Event) where
  abbrev turn_to : Reply → D → Turn D
  turn_to reply after = record { tells = tells; seen = seen; old = old; before = before; after = after; reply = reply }

  turns_by : (reply : Reply) (new : Bridged) (after : D) → AnswersEvent tells seen old before event reply (On new) after → Turns (bridge_machine tells seen) old before event reply new after
  turns_by reply new after a = record {
    later = a.leaves.later;
    moves = λ run s.
        let made = a.step run s in
        record { new = made.new; step = made.step; stands = made.stands; keeps = keeps_behind (turn_to reply after) event new a run made.new s.store made.step };
  }

  fails_by : (after : D) → AnswersEvent tells seen old before event fault_reply Ended after → Fails (bridge_machine tells seen) old before event after
  fails_by after a = record {
    later = a.leaves.later;
    failed = a.leaves.ends;
    cuts = λ run s. record { valid = a.step run s; keeps = keeps_cut (turn_to fault_reply after) event a run s.store };
  }

pub is_machine : {D : Type 0} (tells : Bool) (seen : D → DiskSeen) → IsMachine (bridge_machine tells seen)
is_machine tells seen = record {
  begins_at = λ run. refl;
  no_step = λ run. refl;
  next_step = λ old events replies mid event reply new led step. run_push old events replies mid (record { event = event; reply = reply; next = new; step = step }) led;
  turns = λ old before event reply new after a. turns_by tells seen old before event reply new after a;
  fails = λ old before event after a. fails_by tells seen old before event after a;
}

-- ---- a run

module _ {D : Type 0} (tells : Bool) (seen : D → DiskSeen) (begun : Beginning D) {frames : List Frame} {replies : List Reply} {old : Bridged} {before : D}
    (r : IsReached tells seen begun frames replies old before) (event : Event) (reply : Reply) (after : D) where
  pub leads_next : (new : Bridged) (a : AnswersEvent tells seen old before event reply (On new) after) (run : RunState) → Begins tells begun run
      → LeadsTo tells seen begun (one_more event reply new after r.passes a) run
  leads_next new a run b = runs.leads_next (bridge_machine tells seen) (is_machine tells seen) (start_of begun) r event reply after new a run b

  -- the event was answered
  pub reached_by : (new : Bridged) → AnswersEvent tells seen old before event reply (On new) after
      → IsReached tells seen begun (frames ++ event_frame event ∷ []) (replies ++ reply ∷ []) new after
  reached_by new a = runs.reached_by (bridge_machine tells seen) (is_machine tells seen) (start_of begun) r event reply after new a

  -- a fault ended the bridge
  pub broken_by : AnswersEvent tells seen old before event reply Ended after → IsBroken tells seen begun (frames ++ event_frame event ∷ []) (replies ++ reply ∷ []) after
  broken_by a =
      subst (λ (x : Reply). IsBroken tells seen begun (frames ++ event_frame event ∷ []) (replies ++ x ∷ []) after) (sym a.told)
      (runs.broken_by (bridge_machine tells seen) (is_machine tells seen) (start_of begun) r event after (subst (λ (x : Reply). AnswersEvent tells seen old before event x Ended after) a.told a))
