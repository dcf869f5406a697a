use Rattle.std.proofs.Common.{◌<◌, length, arith, ◌∙◌}
use Rattle.block_reader.proofs.RowsAbove.{row_above_root, one_left, root_left}
use Rattle.block_reader.proofs.root.root_of.Goals as goal

pub returns-then-ids-lt2 : goal.returns-then-ids-lt2
returns-then-ids-lt2 c = one_left c.args.ids.now _ c.requires c.if-ids-lt2.true

pub loop-row-init : goal.loop-row-init
loop-row-init c =
    let more : 1 < length c.args.ids.now = omega (arith, c.if-ids-lt2.false) in
    let above = row_above_root c.args.ids.now c.in_ok-row.row.items more c.in_ok-row.ensures in
    (above.some, above.root)

pub loop-row-smaller : goal.loop-row-smaller
loop-row-smaller c =
    let more : 1 < length c.loop-row.row.items = omega (arith, c.loop-row-test.true, c.len.ensures) in
    (row_above_root c.loop-row.row.items c.climb.new.row.items more c.climb.ensures).shorter

pub loop-row-preserved : goal.loop-row-preserved
loop-row-preserved c =
    let more : 1 < length c.loop-row.row.items = omega (arith, c.loop-row-test.true, c.len.ensures) in
    let above = row_above_root c.loop-row.row.items c.climb.new.row.items more c.climb.ensures in
    (above.some, above.root ∙ c.loop-row.invariant.1)

pub returns : goal.returns
returns c =
    root_left c.loop-row.row.items c.in-Some.root.now _ c.loop-row.invariant.0 (omega (arith, c.loop-row-test.false, c.len.ensures)) (rw c.deref.ensures.value at c.in-Some.ensures.item.1) c.loop-row.invariant.1
