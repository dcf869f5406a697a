use Rattle.bridge_core.proofs.MachineLemmas as laws
use Rattle.bridge_core.proofs.laws.decided_step.Goals as goal

pub returns : goal.returns
returns c = λ old new other event reply answer first second e. laws.decided_step old event (reply, new, first) (answer, other, second) e
