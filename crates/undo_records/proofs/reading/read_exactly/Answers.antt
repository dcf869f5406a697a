use Rattle.std.proofs.Common.{arith, sym}
use Rattle.chain_names.specs.Seen.{seen_undo}
use Rattle.undo_records.proofs.ReadAnswers.{found, found_place, fault_place, placed}
use Rattle.undo_records.proofs.reading.read_exactly.Goals as goal

pub overflow_sub-result : goal.overflow_sub-result
overflow_sub-result c = (found_place seen_undo c.args.version c.args.bytes.now (λ i. omega (arith, c.type_inv.bytes i)) (seen_undo c.in-Ok.undo) c.in-Ok.rest.now (sym c.in-Ok.ensures)).0

pub overflow_sub-bytes : goal.overflow_sub-bytes
overflow_sub-bytes c = (fault_place seen_undo c.args.version c.args.bytes.now (λ i. omega (arith, c.type_inv.bytes i)) c.in-Err-At.fault.kind c.in-Err-At.fault.rest.now (sym (rw c.in-Err-At.field-0-is at c.in-Err-At.ensures))).0

pub returns-in-Ok : goal.returns-in-Ok
returns-in-Ok c = found seen_undo c.args.version c.args.bytes.now (λ i. omega (arith, c.type_inv.bytes i)) c.in-Ok.undo c.in-Ok.rest.now (sym c.in-Ok.ensures)

pub returns-in-Err-At : goal.returns-in-Err-At
returns-in-Err-At c =
    rw c.placed_fault.ensures (placed seen_undo c.args.version c.args.bytes.now (λ i. omega (arith, c.type_inv.bytes i)) c.in-Err-At.fault.kind c.in-Err-At.fault.rest.now (sym (rw c.in-Err-At.field-0-is at c.in-Err-At.ensures)))
