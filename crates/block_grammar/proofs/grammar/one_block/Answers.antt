use Rattle.block_grammar.proofs.Statements.{same_block}
use Rattle.block_grammar.proofs.grammar.one_block.Goals as goal

pub returns : goal.returns
returns c = same_block
