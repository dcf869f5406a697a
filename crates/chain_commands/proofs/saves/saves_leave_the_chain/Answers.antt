use Rattle.std.proofs.Common.{sym}
use Rattle.chain_commands.proofs.SavingLemmas.{chain_of_all, saved_leaves, save_leaves_chain}
use Rattle.chain_commands.proofs.saves.saves_leave_the_chain.Goals as goal

pub returns-clause-all : goal.returns-clause-all
returns-clause-all c = chain_of_all

pub returns-clause-left : goal.returns-clause-left
returns-clause-left c = saved_leaves

pub returns-clause-held : goal.returns-clause-held
returns-clause-held c = λ run text. sym (chain_of_all run)

pub returns-clause-answered : goal.returns-clause-answered
returns-clause-answered c = save_leaves_chain
