use Rattle.std.proofs.Common.{◌≡◌, Option, Some, None, is_some, refl, sym, subst, ◌∙◌, true, false, true≢false}
use Rattle.std.specs.List.{list_any}
use Rattle.std.specs.Map.{keys_of}
use Rattle.std.proofs.lemmas.Map.Made.{is_some-lookup}
use Rattle.indexmap.proofs.SetLemmas.{keys_insert_entry}
use Rattle.chain_names.specs.declared.coin.Coin.{Coin}
use Rattle.chain_names.specs.Points.{same_point}
use Rattle.chain_names.specs.Tables.{filled_by}
use Rattle.chain_names.proofs.Changed.{read_at-changed, read_at-kept}
use Rattle.chain_names.proofs.Points.{same_point-true}
use Rattle.chain_names.specs.Measured.{AreCoinsMeasured}
use Rattle.name_coins.proofs.coins.Coins.place.Goals as goal

-- no place, and so no coin
no_coin : (place : Option (Option Coin)) → false ≡ is_some place → filled_by place ≡ None
no_coin None h = refl
no_coin (Some held) h = absurd (true≢false (sym h))

pub returns-in_ok-before-clause-coins : goal.returns-in_ok-before-clause-coins
returns-in_ok-before-clause-coins g c =
    rw (← c.self.view_is) (read_at-kept same_point filled_by same_point-true _ _ _ _ c.in_ok-before.ensures.updates.0 (no_coin _ c.if-not-contains_key.ensures))

pub returns-in_ok-before-clause-ok : goal.returns-in_ok-before-clause-ok
returns-in_ok-before-clause-ok g c = rw (← c.self.view_is) (read_at-changed same_point is_some _ _ _ _ c.in_ok-before.ensures.updates.0)

pub returns-in_ok-before-clause-list : goal.returns-in_ok-before-clause-list
returns-in_ok-before-clause-list g c =
    rw (c.in_ok-before.ensures.entries, ← c.self.view_is) (keys_insert_entry same_point c.self.inside.places.entries c.args.at None)

pub returns-else-not-contains_key-clause-list : goal.returns-else-not-contains_key-clause-list
returns-else-not-contains_key-clause-list g c =
    let here : list_any (same_point c.args.at) (keys_of c.args.self.now) ≡ true =
    rw (← c.self.view_is) (sym (is_some-lookup (same_point c.args.at) c.self.inside.places.entries) ∙ sym c.if-not-contains_key.ensures) in
    rw here refl

pub invariant_of-self-then-not-contains_key : goal.invariant_of-self-then-not-contains_key
invariant_of-self-then-not-contains_key g c =
    let kept = read_at-kept same_point filled_by same_point-true c.self.inside.places.entries _ _ _ c.in_ok-before.ensures.updates.0 (no_coin _ c.if-not-contains_key.ensures) in
    (subst AreCoinsMeasured (sym kept) c.self.invariant.0, c.in_ok-before.ensures.unique)
