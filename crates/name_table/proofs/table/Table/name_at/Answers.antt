use Rattle.std.proofs.Common.{Some, refl, ap}
use Rattle.name_table.proofs.ByBytesLemmas.{found, slice_get-by_bytes}
use Rattle.name_table.proofs.table.Table.name_at.Goals as goal

pub returns-clause-name : goal.returns-clause-name
returns-clause-name g c = rw (← c.self.view_is, slice_get-by_bytes c.self.inside.places.entries c.args.i, ← c.in_ok-name.ensures.entry) (ap Some c.as_slice.ensures.value)

pub returns-clause-placed : goal.returns-clause-placed
returns-clause-placed g c =
    rw (← c.self.view_is, c.as_slice.ensures.value, found c.in_ok-name.name.now.items c.self.inside.places.entries _ c.in_ok-name.ensures.value) refl
