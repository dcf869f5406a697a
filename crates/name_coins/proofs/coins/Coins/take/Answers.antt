use Rattle.std.proofs.Common.{None, is_some, sym, ap, subst}
use Rattle.chain_names.specs.Points.{same_point}
use Rattle.chain_names.specs.Tables.{filled_by}
use Rattle.chain_names.proofs.Changed.{read_at-changed, read_at-kept}
use Rattle.chain_names.proofs.Points.{same_point-true}
use Rattle.chain_names.specs.Measured.{AreCoinsMeasured}
use Rattle.name_coins.proofs.MeasureLemmas.{coin_gone}
use Rattle.name_coins.proofs.coins.Coins.take.Goals as goal

pub returns-clause-coins : goal.returns-clause-coins
returns-clause-coins g c =
    let here = sym (ap is_some c.in_ok-place.ensures.value) in
    rw (c.take.ensures.after, ← c.self.view_is) (read_at-changed same_point filled_by _ _ _ _ ((c.get_mut.follows.holds None).3 here).0)

pub returns-clause-places : goal.returns-clause-places
returns-clause-places g c =
    let here = sym (ap is_some c.in_ok-place.ensures.value) in
    rw (c.take.ensures.after, ← c.self.view_is) (read_at-kept same_point is_some same_point-true _ _ _ _ ((c.get_mut.follows.holds None).3 here).0 here)

pub invariant_of-self-2 : goal.invariant_of-self-2
invariant_of-self-2 g c =
    let here = sym (ap is_some c.in_ok-place.ensures.value) in
    let after = read_at-changed same_point filled_by c.self.inside.places.entries _ _ _ ((c.get_mut.follows.holds None).3 here).0 in
    (rw c.take.ensures.after (subst AreCoinsMeasured (sym after) (coin_gone _ c.args.at.now c.self.invariant.0)), rw (c.get_mut.follows.holds c.take.new.self).1 c.self.invariant.1)
