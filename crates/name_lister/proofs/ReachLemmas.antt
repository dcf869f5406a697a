-- A lister as a machine: what its turns do, and so where its runs lead.
use Rattle.std.proofs.Common.{ℕ, Bool, List, [], ◌∷◌, ◌++◌, refl, sym, subst, ◌∙◌}
use Rattle.disk_model.specs.DiskSeen.{DiskSeen}
use Rattle.feed_frames.specs.Frames.{Frame}
use Rattle.feed_frames.specs.Replies.{Reply}
use Rattle.frame_loop.specs.Turns.{GoesOn, GoesOut}
use Rattle.bridge_core.specs.Bridge.{fault_reply}
use Rattle.bridge_core.specs.Runs.{Moves, Turns, CutsShort, Fails, IsMachine, IsBroken}
use Rattle.bridge_core.proofs.RunLemmas as runs
use Rattle.name_lister.specs.Answers as answers
use Rattle.name_lister.specs.Answers.{AnswersList}
use Rattle.name_lister.specs.Event.{ListEvent, list_frame}
use Rattle.name_lister.specs.Lister.{Listed}
use Rattle.name_lister.specs.Reached.{StandsWith, list_machine, ListBeginning, start_at, IsListReached, IsListBroken, Ready, Reached, Broken}
use Rattle.name_lister.specs.Step.{ListState, ListStep}
use Rattle.name_lister.specs.declared.lister.ListTurned.TheVariants.{On, Ended}
use Rattle.name_lister.proofs.RunLemmas.{list_run_push}

module _ {D : Type 0} (size : ℕ) (tells : Bool) (seen : D → DiskSeen) where
  -- the event was answered
  module _ (old : Listed) (before : D) (event : ListEvent) (reply : Reply) (new : Listed) (after : D) (a : AnswersList tells seen old before event reply (On new) after) where
    moves_by : (state : ListState) → StandsWith size old state → Moves (list_machine size tells seen) state before event reply new after
    moves_by state s =
        let made : answers.Moves tells old.page state (seen before) event reply new (seen after) = a.step state s.stands in
        record {
          new = made.new;
          step = subst (λ (n : ℕ). ListStep n state event reply made.new) s.page made.step;
          stands = record { page = a.page ∙ s.page; stands = made.stands };
          keeps = made.follow;
        }

    turns_by : Turns (list_machine size tells seen) old before event reply new after
    turns_by = record { later = a.later; moves = moves_by }

  -- a fault of the disk cut it short
  module _ (old : Listed) (before : D) (event : ListEvent) (after : D) (a : AnswersList tells seen old before event fault_reply Ended after) where
    cuts_by : (state : ListState) → StandsWith size old state → CutsShort (list_machine size tells seen) state before event after
    cuts_by state s =
        let cut : answers.CutsShort tells state (seen before) event (seen after) = a.step state s.stands in
        record { valid = cut.valid; keeps = cut.keeps }

    fails_by : Fails (list_machine size tells seen) old before event after
    fails_by = record { later = a.later; failed = a.ends.1; cuts = cuts_by }

  pub is_list_machine : IsMachine (list_machine size tells seen)
  is_list_machine = record {
    begins_at = λ run. refl;
    no_step = λ state. refl;
    next_step = λ old events replies mid event reply new led step. list_run_push size old events replies mid (record { event = event; reply = reply; next = new; step = step }) led;
    turns = turns_by;
    fails = fails_by;
  }

-- ---- a turn as the loop sees it

module _ {D : Type 0} (tells : Bool) (seen : D → DiskSeen) (old : Listed) (before after : D) (reply : Reply) (event : ListEvent) where
  module _ (new : Listed) (a : AnswersList tells seen old before event reply (On new) after) where
    list_reached : (start : ListBeginning D) (frames : List Frame) (replies : List Reply) → IsListReached tells seen start frames replies old before
        → IsListReached tells seen start (frames ++ list_frame event ∷ []) (replies ++ reply ∷ []) new after
    list_reached start frames replies r = record {
      first = r.first;
      is_first = r.is_first;
      reached = runs.reached_by (list_machine start.size tells seen) (is_list_machine start.size tells seen) (start_at start r.first) r.reached event reply after new a;
    }

    pub list_goes_on : GoesOn (Ready tells seen) (Reached tells seen) (On old, before) (list_frame event) reply (On new, after)
    list_goes_on = record { goes_on = list_reached; ready = a.ends }

  module _ (a : AnswersList tells seen old before event reply Ended after) where
    list_broken : (start : ListBeginning D) (frames : List Frame) (replies : List Reply) → IsListReached tells seen start frames replies old before
        → IsListBroken tells seen start (frames ++ list_frame event ∷ []) (replies ++ reply ∷ []) after
    list_broken start frames replies r = record {
      first = r.first;
      is_first = r.is_first;
      broken =
          subst (λ (x : Reply). IsBroken (list_machine start.size tells seen) (start_at start r.first) (frames ++ list_frame event ∷ []) (replies ++ x ∷ []) after) (sym a.ends.0)
          (runs.broken_by (list_machine start.size tells seen) (is_list_machine start.size tells seen) (start_at start r.first) r.reached event after
          (subst (λ (x : Reply). AnswersList tells seen old before event x Ended after) a.ends.0 a));
    }

    pub list_goes_out : GoesOut (Reached tells seen) (Broken tells seen) (On old, before) (list_frame event) reply (Ended, after)
    list_goes_out = record { goes_out = list_broken }
