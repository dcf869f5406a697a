use Rattle.block_grammar.specs.Kinds.{is_cut}
use Rattle.block_grammar.specs.Header.{header_text, FitsHeader}
use Rattle.block_grammar.specs.Reading.{header_from}
use Rattle.block_grammar.proofs.PlaceLaws.{cut_place}
use Rattle.block_grammar.proofs.HeaderLaws.{header_laws}
use Rattle.block_grammar.proofs.Statements.{header_again, front_place}
use Rattle.block_grammar.proofs.grammar.header_law.Goals as goal

pub returns-clause-again : goal.returns-clause-again
returns-clause-again c = header_again

pub returns-clause-place : goal.returns-clause-place
returns-clause-place c = front_place header_text FitsHeader header_from header_laws

pub returns-clause-cut : goal.returns-clause-cut
returns-clause-cut c = λ bytes kind rest fits e. cut_place is_cut header_text FitsHeader header_from header_laws bytes (kind, rest) fits e
