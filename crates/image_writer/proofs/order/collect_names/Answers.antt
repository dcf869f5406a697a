use Rattle.std.proofs.Common.{sym}
use Rattle.image_writer.proofs.OrderLemmas.{names_more, names_end}
use Rattle.image_writer.proofs.order.collect_names.Goals as goal

pub loop-place-preserved : goal.loop-place-preserved
loop-place-preserved c =
    names_more c.args.names.now c.loop-place.place c.loop-place.listed.items c.push.new.self.items c.front_of.result c.in-Some.name.now c.loop-place.invariant (sym c.in-Some.ensures.name) c.front_of.ensures
    c.in_ok-push-in-Some.ensures.items

pub returns-in-None : goal.returns-in-None
returns-in-None c = record {
  names = names_end c.args.names.now c.loop-place.place c.loop-place.listed.items c.loop-place.invariant (sym c.in-None.ensures.name);
  there = c.loop-place.invariant.there;
  distinct = c.in-None.ensures.distinct;
}
