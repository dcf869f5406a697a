-- Maps that stand at a height: what a state says, while the transactions of a block change them.
use Rattle.std.proofs.Common.{◌≡◌, ℕ, suc, ◌≤◌, List, le_trans}
use Rattle.std.specs.Prelude.{Some}
use Rattle.nmc_base.specs.declared.hashes.OutPoint.{OutPoint}
use Rattle.nmc_base.specs.declared.chain_ends.Profile.{Profile}
use Rattle.chain_names.specs.declared.coin.Coin.{Coin}
use Rattle.chain_names.specs.declared.coin.Coin.TheVariants.{New, Named}
use Rattle.chain_names.specs.declared.coin.Item.{Item}
use Rattle.chain_names.specs.Coins.{Maps}
use Rattle.nmc_base.specs.Heights.{highest}
use Rattle.nmc_base.proofs.ListLemmas.{all-weaker}
use Rattle.chain_names.specs.State.{IsUpTo, IsStandingCoin, HasFewNames, Stands, IsState}

pub state_stands : (profile : Profile) (tip : ℕ) (maps : Maps) → IsState profile tip maps → Stands profile (suc tip) tip maps
state_stands profile tip maps state = record {
  coin_heights = state.coin_heights;
  item_heights = state.item_heights;
  rising = state.rising;
  lengths = state.lengths;
  named_coins = state.named_coins;
  standing_names = state.standing_names;
}

pub standing_state : (profile : Profile) (tip : ℕ) (maps : Maps) → tip ≤ highest → ((height : ℕ) → HasFewNames maps.coins height) → Stands profile (suc tip) tip maps
    → IsState profile tip maps
standing_state profile tip maps low few stands = record {
  tip_height = low;
  coin_heights = stands.coin_heights;
  item_heights = stands.item_heights;
  rising = stands.rising;
  lengths = stands.lengths;
  few_names = few;
  named_coins = stands.named_coins;
  standing_names = stands.standing_names;
}

-- the top may be higher
pub stands-higher : (profile : Profile) (height top more : ℕ) (maps : Maps) → top ≤ more → Stands profile height top maps → Stands profile height more maps
stands-higher profile height top more maps higher stands = record {
  coin_heights = λ point coin e. le_trans (stands.coin_heights point coin e) higher;
  item_heights = λ name. all-weaker (IsUpTo top) (IsUpTo more) (maps.names name) (λ item low. le_trans low higher) (stands.item_heights name);
  rising = stands.rising;
  lengths = stands.lengths;
  named_coins = stands.named_coins;
  standing_names = stands.standing_names;
}

-- ---- coin by coin

-- a name's coin is the name's last item, and isn't expired at the height
abbrev pub StandsAs : Profile → ℕ → (List ℕ → List Item) → OutPoint → Coin → Type 0
StandsAs profile height names point (New hash made) = Unit {0}
StandsAs profile height names point (Named name made) = IsStandingCoin profile height (names name) made point

pub each_stands : (profile : Profile) (height top : ℕ) (maps : Maps) → Stands profile height top maps → (point : OutPoint) (coin : Coin) → maps.coins point ≡ Some coin
    → StandsAs profile height maps.names point coin
each_stands profile height top maps stands point (New hash made) held = tt
each_stands profile height top maps stands point (Named name made) held = stands.named_coins point name made held
