use Rattle.chain_state.proofs.ChainLemmas.{sound_limits}
use Rattle.chain_state.proofs.chain.Chain.parts.Goals as goal

pub returns-clause-limits : goal.returns-clause-limits
returns-clause-limits c = sound_limits _ _ _ _ _ c.self.invariant.sound
