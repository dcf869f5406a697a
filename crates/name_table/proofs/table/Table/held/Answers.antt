use Rattle.std.proofs.Common.{refl, sym}
use Rattle.name_table.proofs.ByBytesLemmas.{found}
use Rattle.name_table.proofs.MeasureLemmas.{measured_entry}
use Rattle.name_table.proofs.table.Table.held.Goals as goal

pub returns-in-Some-clause-items : goal.returns-in-Some-clause-items
returns-in-Some-clause-items c = rw (← c.self.view_is, found c.args.name.now c.self.inside.places.entries _ (sym c.in-Some.ensures.value)) c.as_slice.ensures

pub returns-in-None-clause-items : goal.returns-in-None-clause-items
returns-in-None-clause-items c = rw (← c.self.view_is, found c.args.name.now c.self.inside.places.entries _ (sym c.in-None.ensures.value)) refl

pub returns-in-Some-clause-measured : goal.returns-in-Some-clause-measured
returns-in-Some-clause-measured c = rw c.as_slice.ensures (measured_entry c.self.inside.places.entries c.args.name.now _ (sym c.in-Some.ensures.value) c.self.invariant.0)
