use Rattle.hash160.specs.Ripemd160.{right}
use Rattle.hash160.proofs.Lines.{steps_four}
use Rattle.hash160.proofs.compress.four_right_steps.Goals as goal

pub returns : goal.returns
returns c =
    steps_four right c.args.block.now c.args.v c.args.j _ _ _ _ c.right_step-v.ensures c.right_step-v-2.ensures c.right_step-v-3.ensures c.right_step.ensures
