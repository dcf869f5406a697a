use Rattle.hash160.specs.Ripemd160.{left}
use Rattle.hash160.proofs.Lines.{steps_four}
use Rattle.hash160.proofs.compress.four_left_steps.Goals as goal

pub returns : goal.returns
returns c =
    steps_four left c.args.block.now c.args.v c.args.j _ _ _ _ c.left_step-v.ensures c.left_step-v-2.ensures c.left_step-v-3.ensures c.left_step.ensures
