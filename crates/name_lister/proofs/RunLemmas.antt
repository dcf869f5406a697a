-- Runs of the machine with sessions.
use Rattle.std.proofs.Common.{◌≡◌, ℕ, List, [], ◌∷◌, ◌++◌, map, refl, ap, subst}
use Rattle.feed_frames.specs.Frames.{Frame}
use Rattle.feed_frames.specs.Replies.{Reply}
use Rattle.name_lister.specs.Event.{ListEvent, list_frame}
use Rattle.name_lister.specs.Step.{ListState, ListStep, ListRun}

pub list_frames_push : (events : List ListEvent) (event : ListEvent) → map list_frame events ++ list_frame event ∷ [] ≡ map list_frame (events ++ event ∷ [])
list_frames_push [] event = refl
list_frames_push (e ∷ events) event = ap (λ (fs : List Frame). list_frame e ∷ fs) (list_frames_push events event)

-- one step more
pub record NextStep (size : ℕ) (mid : ListState) : Type 0 where
  pub event : ListEvent
  pub reply : Reply
  pub next : ListState
  pub step : ListStep size mid event reply next

module _ (size : ℕ) where
  pub list_run_push : (old : ListState) (events : List ListEvent) (replies : List Reply) (mid : ListState) (s : NextStep size mid) → ListRun size old events replies mid
      → ListRun size old (events ++ s.event ∷ []) (replies ++ s.reply ∷ []) s.next
  list_run_push old [] [] mid s run = (s.next, subst (λ (state : ListState). ListStep size state s.event s.reply s.next) run s.step, refl)
  list_run_push old [] (reply ∷ replies) mid s run = absurd run
  list_run_push old (event ∷ events) [] mid s run = absurd run
  list_run_push old (event ∷ events) (reply ∷ replies) mid s run = (run.0, run.1, list_run_push run.0 events replies mid s run.2)
