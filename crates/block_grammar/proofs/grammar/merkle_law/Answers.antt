use Rattle.block_grammar.proofs.MerkleLaws.{one_root, next_root}
use Rattle.block_grammar.proofs.grammar.merkle_law.Goals as goal

pub returns-clause-one : goal.returns-clause-one
returns-clause-one c = one_root

pub returns-clause-more : goal.returns-clause-more
returns-clause-more c = next_root
