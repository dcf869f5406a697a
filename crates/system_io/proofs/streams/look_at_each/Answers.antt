use Rattle.std.proofs.Common.{◌∙◌, arith}
use Rattle.system_io.proofs.StreamsLemmas.{clients-set}
use Rattle.system_io.proofs.WaitsLemmas.{LooksAtFirst-more}
use Rattle.system_io.proofs.streams.look_at_each.Goals as goal

pub loop-at-preserved : goal.loop-at-preserved
loop-at-preserved c = record {
  clients = clients-set c.loop-at.streams.items c.loop-at.at c.index_mut.result.now c.look.new.self c.index_mut.ensures.value c.look.ensures.client ∙ c.loop-at.invariant.clients;
  looked = LooksAtFirst-more c.args.streams.now.items c.loop-at.streams.items c.args.places.now c.args.now c.loop-at.at c.index_mut.result.now c.look.new.self _ (omega (arith, c.loop-at.invariant.looked.size)) (omega arith) c.index_mut.ensures.value c.look.ensures c.loop-at.invariant.looked;
}
