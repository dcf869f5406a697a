use Rattle.block_grammar.proofs.Statements.{plain_stripped}
use Rattle.block_grammar.proofs.grammar.txid_law.Goals as goal

pub returns : goal.returns
returns c = plain_stripped
