use Rattle.std.proofs.Common.{refl, ◌∙◌}
use Rattle.system_io.proofs.NetLemmas.{Moves_append, Moves_nothing}
use Rattle.system_io.proofs.unsent.Unsent.send_on.Goals as goal

pub loop-init : goal.loop-init
loop-init g c = (refl, Moves_nothing _ _ _)

pub loop-preserved : goal.loop-preserved
loop-preserved g c = (
  c.in_ok-send_some.ensures.peer ∙ c.loop.invariant.0,
  Moves_append _ _ _ _ _ _ _ _ c.loop.invariant.1 c.in_ok-send_some.ensures.moved c.loop.invariant.0,
)

pub returns-in_err-send_some-clause-moved : goal.returns-in_err-send_some-clause-moved
returns-in_err-send_some-clause-moved g c = Moves_append _ _ _ _ _ _ _ _ c.loop.invariant.1 c.in_err-send_some.ensures.moved c.loop.invariant.0

pub returns-then-not-branch-clause-moved : goal.returns-then-not-branch-clause-moved
returns-then-not-branch-clause-moved g c = Moves_append _ _ _ _ _ _ _ _ c.loop.invariant.1 c.in_ok-send_some.ensures.moved c.loop.invariant.0
