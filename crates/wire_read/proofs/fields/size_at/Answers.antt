use Rattle.std.proofs.Common.{arith, drop, ap, ◌∙◌}
use Rattle.wire_read.proofs.Sizes.{cursor_ok, cursor_cut, cursor_long}
use Rattle.wire_read.proofs.fields.size_at.Goals as goal

pub returns-in-Ok : goal.returns-in-Ok
returns-in-Ok c =
    cursor_ok c.args.bytes.now c.size.new.self c.in-Ok.number c.at.result c.split_at.result.1.now (λ i. omega (arith, c.type_inv.bytes i))
    (rw c.new-cursor.ensures at c.in-Ok.ensures.exact) c.at.ensures.value c.split_at.ensures.back

pub returns-in-Err-Cut : goal.returns-in-Err-Cut
returns-in-Err-Cut c =
    cursor_cut c.args.bytes.now c.new-cursor.result c.size.new.self c.in-Err-Cut.field-0 c.in-Err-Cut.field-0-0 c.cut.result.kind c.cut.result.rest.now c.new-cursor.ensures c.in-Err-Cut.ensures.exact c.in-Err-Cut.field-0-is
    c.cut.ensures.kind c.cut.ensures.rest

pub returns-in-Err-LongForm : goal.returns-in-Err-LongForm
returns-in-Err-LongForm c =
    cursor_long c.args.bytes.now c.new-cursor.result c.size.new.self c.in-Err-LongForm.field-0 c.in-Err-LongForm.at c.split_at-in-Err-LongForm.result.1.now (λ i. omega (arith, c.type_inv.bytes i)) c.new-cursor.ensures c.in-Err-LongForm.ensures.exact c.in-Err-LongForm.field-0-is
    (c.split_at-in-Err-LongForm.ensures.back ∙ ap (λ k. drop k c.args.bytes.now) c.in-Err-LongForm.at-is)
