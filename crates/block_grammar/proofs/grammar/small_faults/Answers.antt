use Rattle.block_grammar.proofs.SmallFaults.{longer_fault, none_fault, cut_fault, block_fault}
use Rattle.block_grammar.proofs.grammar.small_faults.Goals as goal

pub returns-clause-longer_form : goal.returns-clause-longer_form
returns-clause-longer_form c = longer_fault

pub returns-clause-no_input : goal.returns-clause-no_input
returns-clause-no_input c = none_fault

pub returns-clause-cut : goal.returns-clause-cut
returns-clause-cut c = cut_fault

pub returns-clause-no_transaction : goal.returns-clause-no_transaction
returns-clause-no_transaction c = block_fault
