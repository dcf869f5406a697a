use Rattle.std.proofs.Common.{arith, refl}
use Rattle.image_writer.proofs.CountLemmas.{names_counted, names_past, names_many}
use Rattle.image_writer.proofs.length.add_names.Goals as goal

pub loop-i-init : goal.loop-i-init
loop-i-init g c = record { fits = omega arith; sum_is = omega arith; count = refl; distinct = λ some. absurd (omega (arith, some)) }

pub loop-i-preserved : goal.loop-i-preserved
loop-i-preserved g c =
    names_counted c.args.names.now c.args.total c.loop-i.sum c.add_history-sum.result c.loop-i.i (record { name = c.in-Some.name.now; items = c.in-Some.items.now }) c.loop-i.invariant c.in-Some.ensures.name
    c.in-Some.ensures.items c.add_history-sum.ensures c.in-Some.ensures.distinct

pub returns-in-None : goal.returns-in-None
returns-in-None g c = record {
  length = names_past c.args.names.now c.args.total c.loop-i.sum c.loop-i.i c.loop-i.invariant c.in-None.ensures.name;
  distinct = c.in-None.ensures.distinct;
}

pub returns : goal.returns
returns g c = record {
  length = names_many c.args.names.now c.args.total c.loop-i.sum c.loop-i.i c.loop-i.invariant (omega arith);
  distinct = c.loop-i.invariant.distinct (omega arith);
}
