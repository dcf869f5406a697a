use Rattle.image_writer.proofs.CountLemmas.{CountsCoins}
use Rattle.image_writer.proofs.length.add_coins.Given as goal

abbrev pub invariant-loop-i : goal.invariant-loop-i
invariant-loop-i g l = CountsCoins l.coins l.total l.sum l.i
