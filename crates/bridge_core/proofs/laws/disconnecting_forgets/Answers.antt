use Rattle.bridge_core.proofs.MachineLemmas.{forgets}
use Rattle.bridge_core.proofs.laws.disconnecting_forgets.Goals as goal

pub returns : goal.returns
returns c = forgets
