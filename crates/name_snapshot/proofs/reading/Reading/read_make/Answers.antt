use Rattle.std.proofs.Common.{refl, sym, arith}
use Rattle.chain_names.specs.Tables.{names_in}
use Rattle.name_snapshot.proofs.TurnLemmas.{make_goes, make_stops}
use Rattle.name_snapshot.proofs.WholeLaws.{next_shorter}
use Rattle.name_snapshot.proofs.reading.Reading.read_make.Goals as goal

pub returns-in_ok-put_make-in-Ok-clause-steps : goal.returns-in_ok-put_make-in-Ok-clause-steps
returns-in_ok-put_make-in-Ok-clause-steps c = λ below is.
    make_goes c.args.self.now c.args.left c.requires.next c.args.bytes.now below is (λ i. omega (arith, c.type_inv.bytes i)) _ c.in-Ok.rest.now c.in-Ok.ensures _ refl refl refl c.in_ok-put_make-in-Ok.ensures

pub returns-in-Err-clause-steps : goal.returns-in-Err-clause-steps
returns-in-Err-clause-steps c = λ below is.
    make_stops c.args.self.now c.args.left c.requires.next c.args.bytes.now below is c.in-Err.fault.kind c.in-Err.fault.rest.now _ c.fault_of.result refl c.in-Err.ensures c.fault_of.ensures

pub returns-in_ok-put_make-in-Ok-clause-ends : goal.returns-in_ok-put_make-in-Ok-clause-ends
returns-in_ok-put_make-in-Ok-clause-ends c = next_shorter c.args.self.now.base c.args.self.now.last (names_in c.args.self.now.tables.names) c.args.bytes.now _ (λ i. omega (arith, c.type_inv.bytes i)) (sym c.in-Ok.ensures)
