use Rattle.std.proofs.Common.{Some, sym, ap}
use Rattle.name_table.proofs.ByBytesLemmas.{found, slice_get-by_bytes}
use Rattle.name_table.proofs.MeasureLemmas.{measured_entry}
use Rattle.name_table.proofs.table.Table.entry_at.Goals as goal

pub returns-clause-name : goal.returns-clause-name
returns-clause-name g c = rw (← c.self.view_is, slice_get-by_bytes c.self.inside.places.entries c.args.i, ← c.in_ok-name.ensures.entry) (sym (ap Some c.as_slice.ensures.value))

pub returns-clause-items : goal.returns-clause-items
returns-clause-items g c =
    rw (← c.self.view_is, c.as_slice.ensures.value, found c.in_ok-name.name.now.items c.self.inside.places.entries _ c.in_ok-name.ensures.value) c.as_slice-2.ensures

pub returns-clause-measured : goal.returns-clause-measured
returns-clause-measured g c =
    rw c.as_slice-2.ensures (measured_entry c.self.inside.places.entries c.in_ok-name.name.now.items _ c.in_ok-name.ensures.value c.self.invariant.0)
