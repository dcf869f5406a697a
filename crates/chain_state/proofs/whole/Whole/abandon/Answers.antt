use Rattle.chain_state.proofs.WholeLemmas.{returned_work}
use Rattle.chain_state.proofs.whole.Whole.abandon.Goals as goal

pub abandon-requires : goal.abandon-requires
abandon-requires g c = returned_work c.args.self c.restore.new.self c.requires c.restore.ensures.back
