use Rattle.block_maker.proofs.Whole.{generated_root}
use Rattle.block_maker.proofs.law.root_law.Goals as goal

pub returns : goal.returns
returns c = generated_root
