use Rattle.std.proofs.Common.{arith, refl}
use Rattle.std.proofs.lemmas.Option.{slice_get_past}
use Rattle.image_writer.proofs.CountLemmas.{coins_counted, coins_past, coins_many}
use Rattle.image_writer.proofs.length.add_coins.Goals as goal

pub loop-i-init : goal.loop-i-init
loop-i-init g c = record { fits = omega arith; sum_is = omega arith; count = refl; distinct = λ some. absurd (omega (arith, some)) }

pub loop-i-preserved : goal.loop-i-preserved
loop-i-preserved g c =
    coins_counted c.args.coins.now c.args.total c.loop-i.sum c.add_held-sum.result c.loop-i.i (record { at = c.in-Some.at.now; coin = c.in-Some.coin.now }) c.loop-i.invariant c.in-Some.ensures.item c.add_held-sum.ensures
    c.in-Some.ensures.distinct

pub returns-in-None : goal.returns-in-None
returns-in-None g c = record {
  length = coins_past c.args.coins.now c.args.total c.loop-i.sum c.loop-i.i c.loop-i.invariant (slice_get_past c.args.coins.now c.loop-i.i c.in-None.ensures.item);
  distinct = c.in-None.ensures.distinct;
}

pub returns : goal.returns
returns g c = record {
  length = coins_many c.args.coins.now c.args.total c.loop-i.sum c.loop-i.i c.loop-i.invariant (omega arith);
  distinct = c.loop-i.invariant.distinct (omega arith);
}
