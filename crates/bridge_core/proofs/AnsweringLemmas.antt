-- A turn of a bridge as the loop sees it.
use Rattle.std.proofs.Common.{Bool, List, ℕ, refl, sym, subst}
use Rattle.std.specs.Prelude.{IsTrue}
use Rattle.fault_counts.proofs.FaultLemmas.{NeverFell_refl}
use Rattle.disk_model.specs.DiskSeen.{DiskSeen}
use Rattle.disk_model.specs.Moments.{start}
use Rattle.feed_frames.specs.Replies.{Reply}
use Rattle.frame_loop.specs.Turns.{GoesOn, GoesOut}
use Rattle.chain_commands.specs.Event.{Carrier, Event, Ask, event_frame}
use Rattle.name_store.specs.Stored.{Stored, IsOn}
use Rattle.bridge_core.specs.Bridge.{AnswersEvent, AnswersQuery}
use Rattle.bridge_core.specs.Bridged.{Bridged}
use Rattle.bridge_core.specs.Reached.{IsReady, Ready, Reached, Broken}
use Rattle.bridge_core.specs.declared.bridge.Turned.TheVariants.{On, Ended}
use Rattle.bridge_core.proofs.FileLemmas.{moments_of, files_of}
use Rattle.bridge_core.proofs.ReachedLemmas.{reached_by, broken_by}

module _ {D : Type 0} (tells : Bool) (seen : D → DiskSeen) (before after : D) (old : Bridged) (reply : Reply) (event : Event) where
  pub goes_on_by : (new : Bridged) → AnswersEvent tells seen old before event reply (On new) after
      → GoesOn (Ready tells seen) (Reached tells seen) (On old, before) (event_frame event) reply (On new, after)
  goes_on_by new by = record {
    goes_on = λ start frames replies r. reached_by tells seen start r event reply after new by;
    ready = by.leaves.still_on;
  }

  pub goes_out_by : AnswersEvent tells seen old before event reply Ended after → GoesOut (Reached tells seen) (Broken tells seen) (On old, before) (event_frame event) reply (Ended, after)
  goes_out_by by = record { goes_out = λ start frames replies r. broken_by tells seen start r event reply after by }

-- a query leaves the store and the disk alone
pub asked_answers : {D : Type 0} (tells : Bool) (seen : D → DiskSeen) (disk : D) (old new : Bridged) (reply : Reply) (carrier : Carrier) (message : List ℕ) → IsReady tells (On old) (seen disk)
    → AnswersQuery old carrier message reply new → AnswersEvent tells seen old disk (Ask carrier message) reply (On new) disk
asked_answers tells seen disk old new reply carrier message ready by = record {
  step = by.step;
  told = by.no_fault;
  untouched = λ asks. refl;
  leaves = record {
    later = NeverFell_refl (seen disk).faults;
    none = refl;
    ends = tt;
    others = λ tell. start refl;
    still_on = subst (λ (store : Stored). IsTrue tells → IsOn store (seen disk).moments.now) (sym by.same_store) ready;
  };
  kept = λ tell run s stands. record {
    next = run;
    is_next = record { made = λ either. refl; same = λ undone. refl };
    any_moment = moments_of old.store (seen disk) (ready tell) run s stands;
    done = λ is_zero. files_of old.store (seen disk) (ready tell) run s stands;
    undone = λ undone. files_of old.store (seen disk) (ready tell) run s stands;
  };
  answers = by.answers;
}
