use Rattle.std.proofs.lemmas.Option.{slice_get_past}
use Rattle.image_writer.proofs.OrderLemmas.{coins_more, coins_end}
use Rattle.image_writer.proofs.order.collect_coins.Goals as goal

pub loop-place-preserved : goal.loop-place-preserved
loop-place-preserved c =
    coins_more c.args.coins.now c.loop-place.place c.loop-place.listed.items c.push.new.self.items c.front_of.result c.loop-place.invariant c.in-Some.ensures.item c.front_of.ensures
    c.in_ok-push-in-Some.ensures.items

pub returns-in-None : goal.returns-in-None
returns-in-None c = record {
  coins = coins_end c.args.coins.now c.loop-place.place c.loop-place.listed.items c.loop-place.invariant (slice_get_past c.args.coins.now c.loop-place.place c.in-None.ensures.item);
  there = c.loop-place.invariant.there;
  distinct = c.in-None.ensures.distinct;
}
