use Rattle.chain_state.proofs.StandingLemmas.{same_stands}
use Rattle.chain_state.proofs.laws.same_stands.Goals as goal

pub returns : goal.returns
returns c = same_stands
