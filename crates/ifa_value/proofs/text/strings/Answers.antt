use Rattle.std.proofs.Common.{◌∙◌}
use Rattle.ifa_value.proofs.ListLemmas.{strings_step}
use Rattle.ifa_value.proofs.text.strings.Goals as goal

pub loop-rest-preserved : goal.loop-rest-preserved
loop-rest-preserved c =
    let s = strings_step c.loop-rest.out c.loop-rest.rest.now c.split_at.result.0.now c.split_at.result.1.now c.loop-rest-test.true c.split_at.ensures.front c.split_at.ensures.back in
    rw (c.in_ok-extend-2.ensures.ok, c.in_ok-extend.ensures.ok) (s ∙ c.loop-rest.invariant)
