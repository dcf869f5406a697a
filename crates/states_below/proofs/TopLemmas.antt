-- What the tests of a state at its tip say.
use Rattle.std.proofs.Common.{◌≡◌, ℕ, suc, ◌≤◌, true, not, List, [], ◌∷◌, Option, refl, sym, ap, subst, ◌∙◌, arith}
use Rattle.std.specs.Prelude.{Some, ◌&&◌, nat_le}
use Rattle.std.specs.List.{AllByRecursion}
use Rattle.std.proofs.lemmas.Bool.{and_parts, and_from, leb-true, le-leb, not-true, not_from_false}
use Rattle.nmc_base.specs.Heights.{highest}
use Rattle.nmc_base.specs.declared.hashes.OutPoint.{OutPoint}
use Rattle.nmc_base.specs.declared.chain_ends.Profile.{Profile}
use Rattle.nmc_base.specs.Expiry.{is_expired}
use Rattle.chain_names.specs.declared.coin.Coin.{Coin}
use Rattle.chain_names.specs.declared.coin.Coin.TheVariants.{New, Named}
use Rattle.chain_names.specs.declared.coin.Item.{Item}
use Rattle.chain_names.specs.Coins.{Maps, entry_of}
use Rattle.chain_names.specs.Tables.{CoinSlots, coins_in}
use Rattle.chain_names.specs.Verdict.{made_at}
use Rattle.chain_names.specs.State.{IsUpTo, IsRising, IsStandingCoin, IsState}
use Rattle.states_below.specs.Bottom.{AllNamesPass}
use Rattle.states_below.specs.Scan.{sound_coin, AllPass}
use Rattle.states_below.specs.StepTests.{entry_has_coin, has_its_coin}
use Rattle.states_below.specs.Tests.{is_item_at}
use Rattle.states_below.specs.Top.{rises_to, top_name, IsMeasuredState}
use Rattle.states_below.proofs.StepMeanings.{last_from, last_to, had_from, had_to}

-- ---- histories

low_from : (tip least : ℕ) (items : List Item) → rises_to tip least items ≡ true → AllByRecursion (IsUpTo tip) items
low_from tip least [] e = tt
low_from tip least (item ∷ items) e =
    let one = and_parts (nat_le least item.height) (nat_le item.height tip && rises_to tip item.height items) e in
    let two = and_parts (nat_le item.height tip) (rises_to tip item.height items) one.1 in
    (leb-true item.height tip two.0, low_from tip item.height items two.1)

rising_from : (tip least : ℕ) (items : List Item) → rises_to tip least items ≡ true → IsRising items
rising_from tip least [] e = tt
rising_from tip least (item ∷ []) e = tt
rising_from tip least (item ∷ next ∷ items) e =
    let one = and_parts (nat_le least item.height) (nat_le item.height tip && rises_to tip item.height (next ∷ items)) e in
    let two = and_parts (nat_le item.height tip) (rises_to tip item.height (next ∷ items)) one.1 in
    let three = and_parts (nat_le item.height next.height) (nat_le next.height tip && rises_to tip next.height items) two.1 in
    (leb-true item.height next.height three.0, rising_from tip item.height (next ∷ items) two.1)

rises_of : (tip least : ℕ) (items : List Item) → AllByRecursion (IsUpTo tip) items → IsRising items → ((item : Item) (more : List Item) → items ≡ item ∷ more → least ≤ item.height)
    → rises_to tip least items ≡ true
rises_of tip least [] low rising first = refl
rises_of tip least (item ∷ []) low rising first =
    and_from (nat_le least item.height) (nat_le item.height tip && true) (le-leb least item.height (first item [] refl)) (and_from (nat_le item.height tip) true (le-leb item.height tip low.0) refl)
rises_of tip least (item ∷ next ∷ items) low rising first =
    and_from (nat_le least item.height) (nat_le item.height tip && rises_to tip item.height (next ∷ items)) (le-leb least item.height (first item (next ∷ items) refl))
    (and_from (nat_le item.height tip) (rises_to tip item.height (next ∷ items)) (le-leb item.height tip low.0)
    (rises_of tip item.height (next ∷ items) low.1 rising.1 (λ n more e. let same : next ≡ n = cc in subst (λ (k : Item). item.height ≤ k.height) same rising.0)))

pub empty_top : (profile : Profile) (tip : ℕ) (maps : Maps) (name : List ℕ) → maps.names name ≡ [] → top_name profile tip maps name ≡ true
empty_top profile tip maps name none = ap (λ (items : List Item). rises_to tip 0 items && entry_has_coin profile tip maps.coins name (entry_of items)) none

-- ---- the state

coin_from : (profile : Profile) (tip : ℕ) (names : List ℕ → List Item) (point : OutPoint) (coin : Coin) → sound_coin profile tip names point coin ≡ true → made_at coin ≤ tip
coin_from profile tip names point (New hash made) e = leb-true made tip e
coin_from profile tip names point (Named name made) e =
    leb-true made tip (and_parts (nat_le made tip) (not (is_expired profile made (suc tip)) && is_item_at made point (entry_of (names name))) e).0

standing_from : (profile : Profile) (tip : ℕ) (names : List ℕ → List Item) (point : OutPoint) (name : List ℕ) (made : ℕ) → sound_coin profile tip names point (Named name made) ≡ true
    → IsStandingCoin profile (suc tip) (names name) made point
standing_from profile tip names point name made e =
    let one = and_parts (nat_le made tip) (not (is_expired profile made (suc tip)) && is_item_at made point (entry_of (names name))) e in
    let two = and_parts (not (is_expired profile made (suc tip))) (is_item_at made point (entry_of (names name))) one.1 in
    record { is_last = last_from made point (names name) (entry_of (names name)) refl two.1; live = not-true (is_expired profile made (suc tip)) two.0 }

pub coins_of_state : (profile : Profile) (tip : ℕ) (maps : Maps) (slots : CoinSlots) → maps.coins ≡ coins_in slots → IsState profile tip maps → AllPass (sound_coin profile tip maps.names) slots
coins_of_state profile tip maps slots same state point coin e = by coin (ap (λ (f : OutPoint → Option Coin). f point) same ∙ e)
  where
    by : (c : Coin) → maps.coins point ≡ Some c → sound_coin profile tip maps.names point c ≡ true
    by (New hash made) held = le-leb made tip (state.coin_heights point (New hash made) held)
    by (Named name made) held =
        let standing = state.named_coins point name made held in
        and_from (nat_le made tip) (not (is_expired profile made (suc tip)) && is_item_at made point (entry_of (maps.names name))) (le-leb made tip (state.coin_heights point (Named name made) held))
        (and_from (not (is_expired profile made (suc tip))) (is_item_at made point (entry_of (maps.names name))) (not_from_false (is_expired profile made (suc tip)) standing.live)
        (last_to made point (maps.names name) standing.is_last))

pub names_of_state : (profile : Profile) (tip : ℕ) (maps : Maps) → IsState profile tip maps → AllNamesPass (top_name profile tip maps)
names_of_state profile tip maps state name =
    and_from (rises_to tip 0 (maps.names name)) (has_its_coin profile tip maps name) (rises_of tip 0 (maps.names name) (state.item_heights name) (state.rising name) (λ item more e. omega arith))
    (had_to profile tip maps name (λ item e live. state.standing_names name item e live))

pub state_from : (profile : Profile) (tip : ℕ) (maps : Maps) (slots : CoinSlots) → maps.coins ≡ coins_in slots → tip ≤ highest → IsMeasuredState maps
    → AllPass (sound_coin profile tip maps.names) slots → AllNamesPass (top_name profile tip maps) → IsState profile tip maps
state_from profile tip maps slots same low measured coins names = record {
  tip_height = low;
  coin_heights = λ point coin held. coin_from profile tip maps.names point coin (coins point coin (sym (ap (λ (f : OutPoint → Option Coin). f point) same) ∙ held));
  item_heights = λ name. low_from tip 0 (maps.names name) (parts name).0;
  rising = λ name. rising_from tip 0 (maps.names name) (parts name).0;
  lengths = measured.lengths;
  few_names = measured.few;
  named_coins = λ point name made held. standing_from profile tip maps.names point name made (coins point (Named name made) (sym (ap (λ (f : OutPoint → Option Coin). f point) same) ∙ held));
  standing_names = λ name item e live. had_from profile tip maps name (parts name).1 item e live;
}
  where
    parts : (name : List ℕ) → (rises_to tip 0 (maps.names name) ≡ true) × (has_its_coin profile tip maps name ≡ true)
    parts name = and_parts (rises_to tip 0 (maps.names name)) (has_its_coin profile tip maps name) (names name)
