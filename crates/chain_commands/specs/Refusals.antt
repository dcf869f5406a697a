-- Refusals of a command or a save, which are looked for one after the other, and what it is answered.
use Rattle.std.specs.Prelude.{◌≡◌, ℕ, ◌<◌}
use Rattle.chain_commands.specs.Event.{Command}
use Rattle.chain_commands.specs.RunState.{RunState, chain_of, accepted}
use Rattle.feed_frames.specs.Replies.{Reply}
use Rattle.chain_commands.specs.Reply.{accepted_reply, no_memory_reply}

-- the refusals of one command, or of a save
pub record Refusals (R : Type 0) : Type 0 where
  -- the place of each in the order in which they are looked for
  pub order : R → ℕ
  -- how many places there are, and how many of them are looked at before any memory is taken
  pub places : ℕ
  pub before_memory : ℕ
  pub reply_of : R → Reply

-- the refusal's condition holds, and none before it does
pub record IsFirst {R : Type 0} (Holds : R → Type 0) (order : R → ℕ) (refusal : R) : Type 0 where
  pub holds : Holds refusal
  pub first : (other : R) → order other < order refusal → ¬ (Holds other)

-- no condition below the place holds
pub record HasNoneBelow {R : Type 0} (Holds : R → Type 0) (order : R → ℕ) (n : ℕ) : Type 0 where
  pub none : (refusal : R) → order refusal < n → ¬ (Holds refusal)

-- What is asked is done where it has no refusal: how, its own relation says. Where it has a refusal, it gets that. Want of memory may
-- stand in the place of all but the refusals that are found before memory is taken. Both leave the state.
pub data Answers {R : Type 0} (refusals : Refusals R) (Holds : R → Type 0) (Does : Reply → RunState → Type 0) (old : RunState) (reply : Reply) (new : RunState) : Type 0 where
  accepts : HasNoneBelow Holds refusals.order refusals.places → Does reply new → Answers refusals Holds Does old reply new
  declines : (refusal : R) → IsFirst Holds refusals.order refusal → new ≡ old → reply ≡ refusals.reply_of refusal
      → Answers refusals Holds Does old reply new
  lacks_memory : HasNoneBelow Holds refusals.order refusals.before_memory → new ≡ old → reply ≡ no_memory_reply
      → Answers refusals Holds Does old reply new

-- the command was accepted, and the new tip is told
pub record LeavesDone (old : RunState) (command : Command) (reply : Reply) (new : RunState) : Type 0 where
  pub state_is : new ≡ accepted old command
  pub told : reply ≡ accepted_reply (chain_of (accepted old command))
