use Rattle.block_grammar.specs.Kinds.{is_cut}
use Rattle.block_grammar.specs.Transaction.{transaction_text, FitsTransaction}
use Rattle.block_grammar.specs.Reading.{transaction_from}
use Rattle.block_grammar.proofs.PlaceLaws.{cut_place}
use Rattle.block_grammar.proofs.BodyLaws.{transaction_laws}
use Rattle.block_grammar.proofs.Statements.{transaction_again, front_place}
use Rattle.block_grammar.proofs.grammar.transaction_law.Goals as goal

pub returns-clause-again : goal.returns-clause-again
returns-clause-again c = transaction_again

pub returns-clause-place : goal.returns-clause-place
returns-clause-place c = front_place transaction_text FitsTransaction transaction_from transaction_laws

pub returns-clause-cut : goal.returns-clause-cut
returns-clause-cut c = λ bytes kind rest fits e. cut_place is_cut transaction_text FitsTransaction transaction_from transaction_laws bytes (kind, rest) fits e
