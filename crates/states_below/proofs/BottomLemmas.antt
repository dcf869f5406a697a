-- What is left at the base, coin by coin and name by name.
use Rattle.std.proofs.Common.{◌≡◌, ℕ, Bool, true, false, cond, List, [], ◌∷◌, Option, Some, None, refl, sym, ap, ◌∙◌}
use Rattle.std.specs.Prelude.{◌&&◌}
use Rattle.std.specs.Borrow.{Bor}
use Rattle.std.specs.Map.{lookup}
use Rattle.std.specs.Option.{option_copied}
use Rattle.std.proofs.lemmas.Bool.{and_parts, and_from, leb-true, le-leb}
use Rattle.nmc_base.specs.declared.hashes.OutPoint.{OutPoint}
use Rattle.nmc_base.specs.declared.chain_ends.Profile.{Profile}
use Rattle.chain_names.specs.declared.coin.Coin.{Coin}
use Rattle.chain_names.specs.declared.coin.Item.{Item}
use Rattle.chain_names.specs.Coins.{Maps, entry_of}
use Rattle.chain_names.specs.Points.{same_point}
use Rattle.chain_names.specs.Sound.{BeginsRegistration}
use Rattle.chain_names.specs.Tables.{coins_in}
use Rattle.chain_names.specs.Verdict.{made_at}
use Rattle.sound_states.specs.Walk.{IsBottom}
use Rattle.states_below.specs.Bottom.{entry_low, begins_registration, bottom_name, coin_low, layer_low, AllNamesPass, AllPointsPass}
use Rattle.states_below.specs.Scan.{AllPass}
use Rattle.states_below.specs.declared.coins_below.CoinsBelow.{CoinsBelow}
use Rattle.states_below.specs.StepTests.{all_by, entry_has_coin, has_its_coin}
use Rattle.states_below.specs.Views.{coin_over, coins_below}
use Rattle.states_below.proofs.StepMeanings.{all_from, all_to, equal_from, equal_to, had_from, had_to}

module _ (base : ℕ) where
  entry_at : (entries : List (OutPoint × Option (Bor Coin))) (point : OutPoint) (o : Option (Bor Coin)) → all_by (layer_low base) entries ≡ true → lookup (same_point point) entries ≡ Some o
      → coin_low base (option_copied o) ≡ true
  entry_at [] point o all e = absurd cc
  entry_at (entry ∷ entries) point o all e =
      let parts = and_parts (layer_low base entry) (all_by (layer_low base) entries) all in
      entry-by entry entries point o parts.0 (λ e'. entry_at entries point o parts.1 e') (same_point point entry.0) e
    where
      entry-by : (en : OutPoint × Option (Bor Coin)) (es : List (OutPoint × Option (Bor Coin))) (p : OutPoint) (q : Option (Bor Coin)) → layer_low base en ≡ true
          → (lookup (same_point p) es ≡ Some q → coin_low base (option_copied q) ≡ true) → (b : Bool) → cond b (Some en.1) (lookup (same_point p) es) ≡ Some q
          → coin_low base (option_copied q) ≡ true
      entry-by en es p q low later true e' = let same : en.1 ≡ q = cc in ap (λ (x : Option (Bor Coin)). coin_low base (option_copied x)) (sym same) ∙ low
      entry-by en es p q low later false e' = later e'

  pub each_point : (v : CoinsBelow) → all_by (layer_low base) v.over.entries ≡ true → AllPass (λ point coin. coin_low base (coins_below v point)) v.under.now
      → AllPointsPass (λ point. coin_low base (coins_below v point))
  each_point v layer table point = by (lookup (same_point point) v.over.entries) refl
    where
      under : (coin : Option Coin) → coins_in v.under.now point ≡ coin → coins_below v point ≡ coins_in v.under.now point → coin_low base (coins_below v point) ≡ true
      under None e is = ap (coin_low base) (is ∙ e)
      under (Some coin) e is = table point coin e

      by : (o : Option (Option (Bor Coin))) → lookup (same_point point) v.over.entries ≡ o → coin_low base (coins_below v point) ≡ true
      by None is = under (coins_in v.under.now point) refl (ap (coin_over (coins_in v.under.now point)) is)
      by (Some over) is =
          ap (λ (o : Option (Option (Bor Coin))). coin_low base (coin_over (coins_in v.under.now point) o)) is ∙ entry_at v.over.entries point over layer is

-- ---- names

pub empty_bottom : (profile : Profile) (base : ℕ) (maps : Maps) (name : List ℕ) → maps.names name ≡ [] → bottom_name profile base maps name ≡ true
empty_bottom profile base maps name none =
    ap (λ (items : List Item). entry_low base (entry_of items) && (all_by begins_registration items && entry_has_coin profile base maps.coins name (entry_of items))) none

module _ (profile : Profile) (base : ℕ) (maps : Maps) where
  bottom_parts : (name : List ℕ) → bottom_name profile base maps name ≡ true
      → (entry_low base (entry_of (maps.names name)) ≡ true) × (all_by begins_registration (maps.names name) ≡ true) × (has_its_coin profile base maps name ≡ true)
  bottom_parts name e =
      let one = and_parts (entry_low base (entry_of (maps.names name))) (all_by begins_registration (maps.names name) && has_its_coin profile base maps name) e in
      let two = and_parts (all_by begins_registration (maps.names name)) (has_its_coin profile base maps name) one.1 in
      (one.0, two.0, two.1)

  pub bottom_from : AllNamesPass (bottom_name profile base maps) → AllPointsPass (λ point. coin_low base (maps.coins point)) → IsBottom profile base maps
  bottom_from names points = record {
    coins_low = λ point coin held. leb-true (made_at coin) base (sym (ap (coin_low base) held) ∙ points point);
    items_low = λ name item e. leb-true item.height base (sym (ap (entry_low base) e) ∙ (bottom_parts name (names name)).0);
    have_coins = λ name. had_from profile base maps name (bottom_parts name (names name)).2;
    registered = λ name. all_from begins_registration BeginsRegistration (maps.names name) (λ item. equal_from item.registered item.height) (bottom_parts name (names name)).1;
  }

  pub names_of_bottom : IsBottom profile base maps → AllNamesPass (bottom_name profile base maps)
  names_of_bottom bottom name =
      and_from (entry_low base (entry_of (maps.names name))) (all_by begins_registration (maps.names name) && has_its_coin profile base maps name) (low (entry_of (maps.names name)) refl)
      (and_from (all_by begins_registration (maps.names name)) (has_its_coin profile base maps name)
      (all_to begins_registration BeginsRegistration (maps.names name) (λ item. equal_to item.registered item.height) (bottom.registered name))
      (had_to profile base maps name (bottom.have_coins name)))
    where
      low : (entry : Option Item) → entry_of (maps.names name) ≡ entry → entry_low base entry ≡ true
      low None e = refl
      low (Some item) e = le-leb item.height base (bottom.items_low name item e)

  pub points_of_bottom : IsBottom profile base maps → AllPointsPass (λ point. coin_low base (maps.coins point))
  points_of_bottom bottom point = low (maps.coins point) refl
    where
      low : (coin : Option Coin) → maps.coins point ≡ coin → coin_low base coin ≡ true
      low None e = refl
      low (Some coin) e = le-leb (made_at coin) base (bottom.coins_low point coin e)
