use Rattle.bridge_core.proofs.MachineLemmas as laws
use Rattle.bridge_core.proofs.laws.one_surviving.Goals as goal

pub returns : goal.returns
returns c = laws.one_surviving
