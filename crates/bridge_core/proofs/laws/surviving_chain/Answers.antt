use Rattle.bridge_core.proofs.MachineLemmas.{run_state, run_survives, run_keeps}
use Rattle.bridge_core.proofs.laws.surviving_chain.Goals as goal

pub returns-clause-state : goal.returns-clause-state
returns-clause-state c = run_state

pub returns-clause-chain : goal.returns-clause-chain
returns-clause-chain c = run_survives

pub returns-clause-saved : goal.returns-clause-saved
returns-clause-saved c = run_keeps
