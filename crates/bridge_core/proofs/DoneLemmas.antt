-- What an event leaves that is done: one run state.
use Rattle.std.proofs.Common.{◌≡◌, sym, ap, ◌∙◌}
use Rattle.undo_records.specs.declared.version.Version.TheVariants.{Two}
use Rattle.feed_frames.specs.Replies.{Reply}
use Rattle.chain_commands.specs.Event.{Event, Do, Ask, Save}
use Rattle.chain_commands.specs.RunState.{RunState, chain_of}
use Rattle.chain_commands.specs.Saving.{saved_by}
use Rattle.chain_commands.proofs.SavingLemmas.{one_text}
use Rattle.bridge_core.specs.Step.{Step}
use Rattle.bridge_core.specs.Leaving.{IsDoneBy}
use Rattle.bridge_core.proofs.MachineLemmas.{step_leaves}

pub one_done : (run : RunState) (event : Event) (new other : RunState) → IsDoneBy run event new → IsDoneBy run event other → new ≡ other
one_done run (Do command) new other one two = one ∙ sym two
one_done run (Ask carrier message) new other one two = one ∙ sym two
one_done run Save new other one two = one.state_is ∙ ap (saved_by run) (one_text Two (chain_of run) one.text two.text one.is_text two.is_text) ∙ sym two.state_is

-- a step whose reply has code 0 leads there
pub done_once : (run : RunState) (event : Event) (reply : Reply) (new other : RunState) → Step run event reply new → reply.code ≡ 0 → IsDoneBy run event other → new ≡ other
done_once run event reply new other step is_zero done = one_done run event new other ((step_leaves run new event reply step).done is_zero) done
