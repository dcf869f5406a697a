use Rattle.block_grammar.proofs.Statements.{one_front}
use Rattle.block_grammar.proofs.grammar.one_transaction.Goals as goal

pub returns : goal.returns
returns c = one_front
