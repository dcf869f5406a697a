use Rattle.std.proofs.Common.{◌≡◌, arith}
use Rattle.std.specs.Cmp.Lexicographic.{slice_cmp}
use Rattle.std.specs.Ordering.{nat_cmp}
use Rattle.shared_chunks.specs.Pairs.{with_pair}
use Rattle.pin_views.specs.Rows.{row_of}
use Rattle.pin_views.proofs.Filling.{past_end, rows_all, rows_next, within_table}
use Rattle.pin_views.proofs.rows.rows_of.Goals as goal

pub returns-in-None-clause-rows : goal.returns-in-None-clause-rows
returns-in-None-clause-rows g c =
    rows_all c.args.table.now c.loop-i.i c.loop-i.rows c.requires c.loop-i.invariant.has (past_end _ _ c.in-None.ensures.name)

pub returns-in_err-copy_of-in-Some-last-clause-cost : goal.returns-in_err-copy_of-in-Some-last-clause-cost
returns-in_err-copy_of-in-Some-last-clause-cost g c = omega (arith, within_table c.args.table.now c.loop-i.i c.in-Some.name.now c.in-Some.ensures.name)

pub returns-in_err-copy_of-in-Some-last-2-clause-cost : goal.returns-in_err-copy_of-in-Some-last-2-clause-cost
returns-in_err-copy_of-in-Some-last-2-clause-cost g c = omega (arith, within_table c.args.table.now c.loop-i.i c.in-Some.name.now c.in-Some.ensures.name)

pub returns-in_err-set-in-Some-last-clause-cost : goal.returns-in_err-set-in-Some-last-clause-cost
returns-in_err-set-in-Some-last-clause-cost g c = omega (arith, within_table c.args.table.now c.loop-i.i c.in-Some.name.now c.in-Some.ensures.name)

pub loop-i-preserved : goal.loop-i-preserved
loop-i-preserved g c =
    let is : c.set.new.self ≡ with_pair (slice_cmp nat_cmp) c.loop-i.rows c.in-Some.name.now (row_of c.in-Some-last.item.now) =
    cc (c.in_ok-set-in-Some-last.ensures.ok, c.in_ok-copy_of-in-Some-last.ensures, c.as_slice.ensures, c.in_ok-copy_of-in-Some-last-2.ensures.bytes) in
    record {
      has = rows_next c.args.table.now c.loop-i.i c.loop-i.rows c.set.new.self c.in-Some.name.now c.in-Some-last.item.now c.loop-i.invariant.has c.in-Some.ensures.name c.in-Some-last.ensures.value is;
      order = c.in_ok-set-in-Some-last.ensures.order;
      within = omega (arith, within_table c.args.table.now c.loop-i.i c.in-Some.name.now c.in-Some.ensures.name);
      cost = omega arith;
    }
