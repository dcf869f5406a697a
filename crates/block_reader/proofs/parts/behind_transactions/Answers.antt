use Rattle.block_grammar.specs.Combinators.{within}
use Rattle.block_grammar.specs.Reading.{transaction_from}
use Rattle.block_grammar.specs.declared.kinds.BlockKind.TheVariants.{Transaction}
use Rattle.block_reader.proofs.Loops.{one_behind}
use Rattle.block_reader.proofs.parts.behind_transactions.Goals as goal

pub loop-preserved : goal.loop-preserved
loop-preserved c = one_behind (within Transaction transaction_from) c.args.count c.loop.counter c.loop.rest.now c.in_ok-rest.rest.now _ c.loop-test.true c.in_ok-rest.ensures c.loop.invariant
