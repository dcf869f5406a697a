use Rattle.std.proofs.Common.{arith}
use Rattle.ifa_value.specs.declared.item.Key.TheVariants.{Ip}
use Rattle.bit_resolver.proofs.AnswerForms.{matching_step}
use Rattle.bit_resolver.proofs.cases.matching.Goals as goal

pub loop-key-preserved : goal.loop-key-preserved
loop-key-preserved c n shows =
    matching_step n c.args.kind c.args.keys.now c.loop-key.key-index Ip c.loop-key.found.items _ (omega arith) (c.loop-key.invariant n shows) (c.in_ok-add_asked.ensures n shows)
