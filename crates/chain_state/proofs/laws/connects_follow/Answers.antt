use Rattle.chain_state.proofs.StandingLemmas.{valid_next}
use Rattle.chain_state.proofs.RefusalLemmas.{refuses_by_chain, refuses_by_index, valid_unrefused}
use Rattle.chain_state.proofs.laws.connects_follow.Goals as goal

pub returns-clause-valid : goal.returns-clause-valid
returns-clause-valid c = λ base start blocks index bytes block staged s is short on. valid_next base start blocks bytes index staged (record { stands = s; block = block; is_block = is; short = short; on = on })

pub returns-clause-unrefused : goal.returns-clause-unrefused
returns-clause-unrefused c = λ base start blocks bytes block refusal is valid refuses. valid_unrefused base start blocks bytes block is valid refusal refuses

pub returns-clause-by_chain : goal.returns-clause-by_chain
returns-clause-by_chain c = λ base start blocks index bytes block refusal s is. refuses_by_chain base start blocks index s bytes block is refusal

pub returns-clause-by_index : goal.returns-clause-by_index
returns-clause-by_index c = λ base start blocks index bytes block refusal s is. refuses_by_index base start blocks index s bytes block is refusal
