use Rattle.bridge_core.proofs.MachineLemmas.{step_leaves}
use Rattle.bridge_core.proofs.laws.done_or_left.Goals as goal

pub returns : goal.returns
returns c = step_leaves
