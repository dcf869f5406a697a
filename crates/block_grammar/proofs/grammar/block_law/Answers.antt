use Rattle.block_grammar.proofs.BlockLaws.{block_cut}
use Rattle.block_grammar.proofs.Statements.{block_read, fault_place}
use Rattle.block_grammar.proofs.grammar.block_law.Goals as goal

pub returns-clause-read : goal.returns-clause-read
returns-clause-read c = block_read

pub returns-clause-place : goal.returns-clause-place
returns-clause-place c = fault_place

pub returns-clause-cut : goal.returns-clause-cut
returns-clause-cut c = λ bytes kind rest fits e. block_cut bytes (kind, rest) fits e
