-- A step of the walk down, as tests.
use Rattle.std.specs.Prelude.{◌≡◌, ℕ, suc, Bool, true, false, not, ◌&&◌, ◌||◌, ◌==◌, List, [], ◌∷◌, Option, Some, None}
use Rattle.std.specs.Option.{is_none}
use Rattle.std.specs.Str.{bytes_eq}
use Rattle.nmc_base.specs.declared.hashes.OutPoint.{OutPoint}
use Rattle.nmc_base.specs.declared.chain_ends.Profile.{Profile}
use Rattle.nmc_base.specs.Expiry.{is_expired}
use Rattle.chain_names.specs.declared.coin.Coin.{Coin}
use Rattle.chain_names.specs.declared.coin.Coin.TheVariants.{New, Named}
use Rattle.chain_names.specs.declared.coin.HeldCoin.{HeldCoin}
use Rattle.chain_names.specs.declared.coin.Item.{Item}
use Rattle.chain_names.specs.declared.undo.UndoOp.{UndoOp}
use Rattle.chain_names.specs.declared.undo.UndoOp.TheVariants.{New as undo_new, First as undo_first, Update as undo_update}
use Rattle.chain_names.specs.Coins.{Maps, entry_of}
use Rattle.chain_names.specs.Changes.{undone}
use Rattle.chain_names.specs.Fits.{with_restored}
use Rattle.chain_names.specs.Undo.{UndoRecord}
use Rattle.states_below.specs.Tests.{is_item_at, fits_ops}

abbrev pub all_by : {A : Type 0} → (A → Bool) → List A → Bool
all_by test [] = true
all_by test (x ∷ xs) = test x && all_by test xs

-- ---- expired coins

-- it is expired in the next block, and not in this one
abbrev pub expires_now : Profile → ℕ → Coin → Bool
expires_now profile tip (New hash made) = false
expires_now profile tip (Named name made) = not (is_expired profile made tip) && is_expired profile made (suc tip)

abbrev pub just_expired : Profile → ℕ → Maps → HeldCoin → Bool
just_expired profile tip maps held = is_none (maps.coins held.at) && expires_now profile tip held.coin

-- ---- before the operations are undone

abbrev pub is_coin_of : List ℕ → ℕ → Option Coin → Bool
is_coin_of name height None = false
is_coin_of name height (Some (New hash made)) = false
is_coin_of name height (Some (Named other made)) = bytes_eq other name && (made == height)

abbrev pub entry_has_coin : Profile → ℕ → (OutPoint → Option Coin) → List ℕ → Option Item → Bool
entry_has_coin profile tip coins name None = true
entry_has_coin profile tip coins name (Some item) = is_expired profile item.height (suc tip) || is_coin_of name item.height (coins item.at)

-- a last item that stands in the next block has its coin
abbrev pub has_its_coin : Profile → ℕ → Maps → List ℕ → Bool
has_its_coin profile tip maps name = entry_has_coin profile tip maps.coins name (entry_of (maps.names name))

-- the coin isn't one that the state asks for
abbrev pub not_asked_coin : Profile → ℕ → Maps → OutPoint → Coin → Bool
not_asked_coin profile tip maps point (New hash made) = true
not_asked_coin profile tip maps point (Named name made) = (made == tip) || (not (is_item_at made point (entry_of (maps.names name))) || is_expired profile made (suc tip))

abbrev pub op_before : Profile → ℕ → Maps → UndoOp → Bool
op_before profile tip maps (undo_new made) = true
op_before profile tip maps (undo_first made spent coin name before) = has_its_coin profile tip maps name && not_asked_coin profile tip maps spent coin
op_before profile tip maps (undo_update made spent coin name before) = has_its_coin profile tip maps name && not_asked_coin profile tip maps spent coin

-- ---- behind them

abbrev pub stands_if_named : Profile → ℕ → (List ℕ → List Item) → OutPoint → Option Coin → Bool
stands_if_named profile tip names point None = true
stands_if_named profile tip names point (Some (New hash made)) = true
stands_if_named profile tip names point (Some (Named name made)) = not (is_expired profile made tip) && is_item_at made point (entry_of (names name))

abbrev pub point_stands : Profile → ℕ → Maps → OutPoint → Bool
point_stands profile tip left point = stands_if_named profile tip left.names point (left.coins point)

abbrev pub op_after : Profile → ℕ → Maps → UndoOp → Bool
op_after profile tip left (undo_new made) = true
op_after profile tip left (undo_first made spent coin name before) = point_stands profile tip left spent
op_after profile tip left (undo_update made spent coin name before) = point_stands profile tip left spent

abbrev pub held_after : Profile → ℕ → Maps → HeldCoin → Bool
held_after profile tip left held = point_stands profile tip left held.at

-- ---- the step

abbrev pub before_all : Profile → ℕ → UndoRecord → Maps → Bool
before_all profile tip u maps = all_by (just_expired profile tip maps) u.expired && all_by (op_before profile tip maps) u.ops

abbrev pub after_all : Profile → ℕ → UndoRecord → Maps → Bool
after_all profile tip u left = all_by (op_after profile tip left) u.ops && all_by (held_after profile tip left) u.expired

abbrev pub step_fits : Profile → ℕ → UndoRecord → Maps → Bool
step_fits profile tip u maps = before_all profile tip u maps && (fits_ops tip u.ops (with_restored u.expired maps) && after_all profile tip u (undone u.ops u.expired maps))

-- the record is undone, or something doesn't fit
pub record Stepped (profile : Profile) (tip : ℕ) (u : UndoRecord) (old new : Maps) (fits : Bool) : Type 0 where
  pub tested : fits ≡ step_fits profile tip u old
  pub left : fits ≡ true → new ≡ undone u.ops u.expired old
