use Rattle.chain_state.proofs.RefusalLemmas.{back_by_chain, back_by_index, back_unrefused, may_disconnect}
use Rattle.chain_state.proofs.laws.disconnects_follow.Goals as goal

pub returns-clause-allowed : goal.returns-clause-allowed
returns-clause-allowed c = λ base start blocks index staged hash s. may_disconnect base start blocks index s hash staged

pub returns-clause-unrefused : goal.returns-clause-unrefused
returns-clause-unrefused c = back_unrefused

pub returns-clause-by_chain : goal.returns-clause-by_chain
returns-clause-by_chain c = λ base start blocks index hash refusal s. back_by_chain base start blocks index s hash refusal

pub returns-clause-by_index : goal.returns-clause-by_index
returns-clause-by_index c = λ base start blocks index hash refusal s. back_by_index base start blocks index s hash refusal
