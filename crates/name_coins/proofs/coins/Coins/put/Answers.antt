use Rattle.std.proofs.Common.{◌≡◌, Some, true, is_some, refl, sym, subst, ◌∙◌}
use Rattle.std.specs.List.{list_any}
use Rattle.std.specs.Map.{keys_of}
use Rattle.std.proofs.lemmas.Map.Made.{is_some-lookup}
use Rattle.indexmap.proofs.SetLemmas.{keys_insert_entry}
use Rattle.chain_names.specs.Points.{same_point}
use Rattle.chain_names.specs.Tables.{filled_by}
use Rattle.chain_names.proofs.Changed.{read_at-changed, read_at-kept}
use Rattle.chain_names.proofs.Points.{same_point-true}
use Rattle.chain_names.specs.Measured.{AreCoinsMeasured}
use Rattle.name_coins.proofs.MeasureLemmas.{coin_there}
use Rattle.name_coins.proofs.coins.Coins.put.Goals as goal

pub returns-clause-coins : goal.returns-clause-coins
returns-clause-coins g c = rw (← c.self.view_is) (read_at-changed same_point filled_by _ _ _ _ c.in-Ok.ensures.updates.0)

pub returns-clause-places : goal.returns-clause-places
returns-clause-places g c =
    rw (← c.self.view_is) (read_at-kept same_point is_some same_point-true _ _ _ _ c.in-Ok.ensures.updates.0 (rw c.self.view_is c.requires.placed))

pub returns-clause-list : goal.returns-clause-list
returns-clause-list g c =
    let here : list_any (same_point c.args.at.now) (keys_of c.args.self.now) ≡ true = sym (is_some-lookup (same_point c.args.at.now) c.args.self.now) ∙ c.requires.placed in
    rw (c.in-Ok.ensures.entries, keys_insert_entry same_point c.self.inside.places.entries c.args.at.now (Some c.args.coin), c.self.view_is, here) refl

pub invariant_of-self : goal.invariant_of-self
invariant_of-self g c =
    let after = read_at-changed same_point filled_by c.self.inside.places.entries _ _ _ c.in-Ok.ensures.updates.0 in
    (subst AreCoinsMeasured (sym after) (coin_there _ c.args.at.now c.args.coin c.self.invariant.0 c.read_widths.ensures), c.in-Ok.ensures.unique)
