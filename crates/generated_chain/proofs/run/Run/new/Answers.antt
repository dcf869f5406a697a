use Rattle.generated_chain.proofs.Behind.{fresh}
use Rattle.generated_chain.proofs.run.Run.new.Goals as goal

pub invariant_of-result : goal.invariant_of-result
invariant_of-result c = fresh c.args.seed c.base-height.result c.base-height.ensures
