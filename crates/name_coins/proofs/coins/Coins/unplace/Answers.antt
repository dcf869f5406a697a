use Rattle.std.proofs.Common.{is_some, refl, sym, subst}
use Rattle.chain_names.specs.Points.{same_point}
use Rattle.chain_names.specs.Tables.{filled_by}
use Rattle.chain_names.proofs.Changed.{read_at-changed, read_at-kept}
use Rattle.chain_names.proofs.Points.{same_point-true}
use Rattle.chain_names.specs.Measured.{AreCoinsMeasured}
use Rattle.name_coins.proofs.coins.Coins.unplace.Goals as goal

pub returns-then-has_empty-clause-coins : goal.returns-then-has_empty-clause-coins
returns-then-has_empty-clause-coins g c =
    let empty = c.has_empty.ensures.empty c.if-has_empty.true in
    rw (← c.self.view_is) (read_at-kept same_point filled_by same_point-true _ _ _ _ c.swap_remove.ensures.updates.0 (rw (c.self.view_is, empty) refl))

pub returns-then-has_empty-clause-places : goal.returns-then-has_empty-clause-places
returns-then-has_empty-clause-places g c =
    let empty = c.has_empty.ensures.empty c.if-has_empty.true in
    rw (empty, ← c.self.view_is) (read_at-changed same_point is_some _ _ _ _ c.swap_remove.ensures.updates.0)

pub invariant_of-self : goal.invariant_of-self
invariant_of-self g c =
    let empty = c.has_empty.ensures.empty c.if-has_empty.true in
    let kept = read_at-kept same_point filled_by same_point-true _ _ _ _ c.swap_remove.ensures.updates.0 (rw (c.self.view_is, empty) refl) in
    (subst AreCoinsMeasured (sym kept) c.self.invariant.0, c.swap_remove.ensures.unique)
