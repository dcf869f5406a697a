use Rattle.std.proofs.Common.{arith}
use Rattle.std.proofs.lemmas.Grind.{common_steps}
use Rattle.std.proofs.lemmas.List.Elements.{filter_map-append}
use Rattle.ifa_value.specs.Elements.{element_in}
use Rattle.ifa_value.proofs.ListLemmas.{each-items_view}
use Rattle.ifa_value.proofs.elements.each.Goals as goal

pub loop-value-preserved : goal.loop-value-preserved
loop-value-preserved c = grind (arith, common_steps, filter_map-append)

pub returns : goal.returns
returns c = rw (each-items_view (element_in c.args.key) c.args.values.now) (grind (arith, common_steps))
