use Rattle.std.proofs.Common.{sym, subst}
use Rattle.std.specs.List.{AllByRecursion}
use Rattle.sliced_save.specs.Kept.{IsKeptItem}
use Rattle.sliced_save.proofs.NameLemmas.{kept_found}
use Rattle.sliced_save.proofs.names.MirrorNames.items_of.Goals as goal

pub returns-in_ok-pin-in-Some-clause-kept : goal.returns-in_ok-pin-in-Some-clause-kept
returns-in_ok-pin-in-Some-clause-kept g c =
    subst (AllByRecursion IsKeptItem) (sym c.in_ok-pin-in-Some.ensures)
    (kept_found c.self.inside.map c.args.name.now c.in-Some.items.now c.self.invariant.0 c.in-Some.ensures.value).items
