use Rattle.std.proofs.Common.{length, ap, arith}
use Rattle.chain_state.proofs.ClearLemmas.{cleared, whole_filled, committed}
use Rattle.chain_state.proofs.whole.Whole.commit.Goals as goal

pub returns-clause-commits : goal.returns-clause-commits
returns-clause-commits g c =
    let w = c.args.self in
    committed w c.clear.new.self c.requires c.clear.ensures.same
    (cleared w.work.tables c.clear.new.self w.work.ops.items c.as_slice.result.now w.expired.items c.as_slice-2.result.now c.as_slice.ensures c.as_slice-2.ensures
    c.clear.ensures.filled (whole_filled w c.requires))

pub returns-clause-cost : goal.returns-clause-cost
returns-clause-cost g c = omega (arith, c.clear.ensures.cost, ap length c.as_slice.ensures, ap length c.as_slice-2.ensures)
