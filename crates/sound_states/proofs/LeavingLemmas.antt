-- What undoing a record leaves is a state, where what the record touches is sound.
use Rattle.std.proofs.Common.{◌≡◌, ◌≢◌, ℕ, suc, ◌≤◌, Bool, true, false, List, ⊎_elim, refl, sym, ap, subst, ◌∙◌, arith}
use Rattle.std.proofs.lemmas.Bool.{cases_eq}
use Rattle.std.specs.Prelude.{Option, Some, None}
use Rattle.std.specs.List.{AllByRecursion}
use Rattle.nmc_base.specs.declared.hashes.OutPoint.{OutPoint}
use Rattle.nmc_base.specs.declared.chain_ends.Profile.{Profile}
use Rattle.nmc_base.specs.Expiry.{is_expired}
use Rattle.nmc_base.specs.Heights.{highest}
use Rattle.chain_names.specs.declared.coin.Coin.{Coin}
use Rattle.chain_names.specs.declared.coin.Coin.TheVariants.{New, Named}
use Rattle.chain_names.specs.declared.coin.Item.{Item}
use Rattle.chain_names.specs.Coins.{Maps, entry_of}
use Rattle.chain_names.specs.Changes.{undone}
use Rattle.chain_names.specs.Undo.{UndoRecord}
use Rattle.chain_names.specs.Verdict.{made_at}
use Rattle.chain_names.specs.State.{IsUpTo, FitsItem, IsRising, IsStandingCoin, HasFewNames, IsState}
use Rattle.chain_names.specs.Fits.{FitsState}
use Rattle.chain_names.proofs.UndoneBlockLemmas.{live_before}
use Rattle.chain_names.proofs.HistoryLemmas.{entry_has}
use Rattle.sound_states.specs.Touched.{is_changed, is_put_back}
use Rattle.sound_states.specs.OneSound.{IsSoundCoin, IsSoundPoint, IsSoundName}
use Rattle.sound_states.specs.Leaving.{LeavesState}
use Rattle.sound_states.proofs.BackLemmas.{was_there, stays, changed_last, name_stays}
use Rattle.sound_states.proofs.HistoryLemmas.{no_entry, all_up_to, one_item}

-- ---- from points and names to the state

coin_low : (profile : Profile) (tip : ℕ) (maps : Maps) (point : OutPoint) (coin : Coin) → IsSoundCoin profile tip maps point (Some coin) → made_at coin ≤ tip
coin_low profile tip maps point (New hash made) sound = sound
coin_low profile tip maps point (Named name made) sound = sound.0

state_of_parts : (profile : Profile) (tip : ℕ) (maps : Maps) → tip ≤ highest → ((point : OutPoint) → IsSoundPoint profile tip maps point)
    → ((name : List ℕ) → IsSoundName profile tip maps name) → ((height : ℕ) → HasFewNames maps.coins height) → IsState profile tip maps
state_of_parts profile tip maps low points names few = record {
  tip_height = low;
  coin_heights = λ point coin held. coin_low profile tip maps point coin (subst (IsSoundCoin profile tip maps point) held (points point));
  item_heights = λ name. (names name).heights;
  rising = λ name. (names name).rising;
  lengths = λ name. (names name).lengths;
  few_names = few;
  named_coins = λ point name made held.
      let sound : IsSoundCoin profile tip maps point (Some (Named name made)) = subst (IsSoundCoin profile tip maps point) held (points point) in
      sound.1;
  standing_names = λ name item entry live. (names name).has_coin item entry live;
}

-- ---- a record is undone

record Undoing : Type 0 where
  profile : Profile
  tip : ℕ
  u : UndoRecord
  maps : Maps
  state : IsState profile (suc tip) maps
  fits : FitsState profile (suc tip) u maps
  leaves : LeavesState profile tip u (undone u.ops u.expired maps)

below_block : (tip n : ℕ) → n ≤ suc tip → n ≢ suc tip → n ≤ tip
below_block tip n low other = omega arith

module _ (g : Undoing) where
  abbrev Left : Maps
  Left = undone g.u.ops g.u.expired g.maps

  -- ---- coins

  stayed_coin : (point : OutPoint) (name : List ℕ) (made : ℕ) → Left.coins point ≡ Some (Named name made) → g.maps.coins point ≡ Some (Named name made)
      → (b : Bool) → is_changed name g.u ≡ b → IsStandingCoin g.profile (suc g.tip) (Left.names name) made point
  stayed_coin point name made held was true is =
      let standing = g.state.named_coins point name made was in
      let last = changed_last g.profile (suc g.tip) g.u g.maps name g.fits is in
      let high : made ≡ suc g.tip = (one_item (g.maps.names name) _ (suc g.tip) last.point last.last standing.is_last.last).0 in
      absurd (g.leaves.lower point (Named name made) held high)
  stayed_coin point name made held was false is =
      let standing = g.state.named_coins point name made was in
      subst (λ items. IsStandingCoin g.profile (suc g.tip) items made point) (sym (name_stays g.u g.maps name is))
      (record { is_last = standing.is_last; live = live_before g.profile made (suc g.tip) standing.live })

  coin_sound : (point : OutPoint) → is_put_back point g.u ≡ false → (coin : Option Coin) → Left.coins point ≡ coin → IsSoundCoin g.profile g.tip Left point coin
  coin_sound point none None held = tt
  coin_sound point none (Some (New hash made)) held =
      below_block g.tip made (g.state.coin_heights point (New hash made) (was_there g.u g.maps point (New hash made) none held)) (g.leaves.lower point (New hash made) held)
  coin_sound point none (Some (Named name made)) held =
      let was = was_there g.u g.maps point (Named name made) none held in (
        below_block g.tip made (g.state.coin_heights point (Named name made) was) (g.leaves.lower point (Named name made) held),
        stayed_coin point name made held was (is_changed name g.u) refl,
      )

  point_sound : (point : OutPoint) (b : Bool) → is_put_back point g.u ≡ b → IsSoundPoint g.profile g.tip Left point
  point_sound point true is = g.leaves.put_back point is
  point_sound point false is = coin_sound point is (Left.coins point) refl

  -- ---- names that no operation changed

  module _ (name : List ℕ) (none : is_changed name g.u ≡ false) where
    same : Left.names name ≡ g.maps.names name
    same = name_stays g.u g.maps name none

    -- the last item is the one before
    was_last : (item : Item) → entry_of (Left.names name) ≡ Some item → entry_of (g.maps.names name) ≡ Some item
    was_last item e = ap entry_of (sym same) ∙ e

    heights_of : (entry : Option Item) → entry_of (Left.names name) ≡ entry → AllByRecursion (IsUpTo g.tip) (Left.names name)
    heights_of None e = subst (AllByRecursion (IsUpTo g.tip)) (sym (no_entry (Left.names name) e)) tt
    heights_of (Some item) e =
        ⊎_elim (λ high. (g.leaves.at_tip name item e high).heights)
        (λ other. subst (AllByRecursion (IsUpTo g.tip)) (sym same)
        (all_up_to g.tip (g.maps.names name) item (g.state.rising name) (was_last item e)
        (below_block g.tip item.height (entry_has (IsUpTo (suc g.tip)) (g.maps.names name) item (g.state.item_heights name) (was_last item e)) other)))
        (cases_eq item.height (suc g.tip))

    coin_of_stayed : (item : Item) → entry_of (Left.names name) ≡ Some item → is_expired g.profile item.height (suc g.tip) ≡ false
        → (b : Bool) → is_expired g.profile item.height (suc (suc g.tip)) ≡ b → Left.coins item.at ≡ Some (Named name item.height)
    coin_of_stayed item e live true is = (g.leaves.just_expired name item e is live).has_coin item e live
    coin_of_stayed item e live false is =
        ⊎_elim (λ high. (g.leaves.at_tip name item e high).has_coin item e live)
        (λ other. stays g.profile (suc g.tip) g.u g.maps item.at (Named name item.height) g.fits (g.state.standing_names name item (was_last item e) is) other)
        (cases_eq item.height (suc g.tip))

    name_kept_sound : IsSoundName g.profile g.tip Left name
    name_kept_sound = record {
      heights = heights_of (entry_of (Left.names name)) refl;
      rising = subst IsRising (sym same) (g.state.rising name);
      lengths = subst (AllByRecursion (FitsItem name)) (sym same) (g.state.lengths name);
      has_coin = λ item e live. coin_of_stayed item e live (is_expired g.profile item.height (suc (suc g.tip))) refl;
    }

  name_sound : (name : List ℕ) (b : Bool) → is_changed name g.u ≡ b → IsSoundName g.profile g.tip Left name
  name_sound name true is = g.leaves.changed name is
  name_sound name false is = name_kept_sound name is

  undoing_leaves : IsState g.profile g.tip Left
  undoing_leaves =
      state_of_parts g.profile g.tip Left (omega (arith, g.state.tip_height)) (λ point. point_sound point (is_put_back point g.u) refl)
      (λ name. name_sound name (is_changed name g.u) refl) g.leaves.few

pub left_is_state : (profile : Profile) (tip : ℕ) (u : UndoRecord) (maps : Maps) → IsState profile (suc tip) maps → FitsState profile (suc tip) u maps
    → LeavesState profile tip u (undone u.ops u.expired maps) → IsState profile tip (undone u.ops u.expired maps)
left_is_state profile tip u maps state fits leaves =
    undoing_leaves (record { profile = profile; tip = tip; u = u; maps = maps; state = state; fits = fits; leaves = leaves })
