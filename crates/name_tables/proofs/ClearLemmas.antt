-- Places are given up, one coin after the other.
use Rattle.std.proofs.Common.{◌≡◌, ℕ, Bool, true, false, cond, ◌&&◌, List, [], ◌∷◌, refl, sym, ap, subst, ◌∙◌}
use Rattle.std.specs.Prelude.{Some, ◌||◌}
use Rattle.std.specs.Option.{is_some}
use Rattle.std.specs.List.{list_any}
use Rattle.std.specs.Cmp.{unsigned_Decides}
use Rattle.std.proofs.Math.Bool.{and_comm}
use Rattle.nmc_base.specs.declared.hashes.OutPoint.{OutPoint}
use Rattle.chain_names.specs.declared.coin.Coin.{Coin}
use Rattle.chain_names.specs.declared.coin.Coin.TheVariants.{Named}
use Rattle.chain_names.specs.declared.coin.HeldCoin.{HeldCoin}
use Rattle.chain_names.specs.declared.undo.UndoOp.{UndoOp}
use Rattle.chain_names.specs.declared.undo.UndoOp.TheVariants.{New as undo_new, First as undo_first, Update as undo_update}
use Rattle.chain_names.specs.Points.{same_point}
use Rattle.chain_names.specs.Tables.{CoinSlots, QueueSlots, coins_in, coin_places, names_in, queued_in, queue_places, is_named_at, FilledBut, AreNamesFilled}
use Rattle.chain_names.proofs.Points.{same_point-Decides}
use Rattle.chain_names.proofs.Shown.{true_is_not_false}
use Rattle.chain_names.specs.Expired.{is_held_at}
use Rattle.name_tables.specs.Tables.{HoldSame, AreFilled}
use Rattle.name_tables.specs.Places.{spends, spends_at, is_queued_at, AreFilledBut}
use Rattle.name_tables.specs.Clearing.{is_row_of, GivesUp, GivesUpOp}
use Rattle.name_tables.specs.declared.tables.Tables.{Tables}
use Rattle.name_tables.proofs.ListLemmas.{or_left, or_right, or_both}
use Rattle.name_tables.proofs.PlaceLemmas.{HasCoinPlace, HasRowPlace, SpendsCoin, row_is, opening_spends, update_spends, coins_all_filled, rows_all_filled}

-- ---- one coin's places

pub up_named : (old : Tables) (coins : CoinSlots) (queue : QueueSlots) (at : OutPoint) (coin : Coin) (name : List ℕ) (height : ℕ) → coin ≡ Named name height
    → HasCoinPlace old.coins coins at (is_some (coins_in old.coins at)) → HasRowPlace old.queue queue height at (queued_in old.queue height at)
    → GivesUp old (record { coins = coins; names = old.names; queue = queue }) at coin
up_named old coins queue at coin name height is place row = record {
  coins_same = place.same;
  queue_same = row.same;
  names = refl;
  coins = place.places;
  row = λ h point here.
      let both = sym (ap (λ c. is_named_at h (Some c) && same_point at point) is) ∙ here in
      row_is row h point
      ∙ ap (λ b. cond b (queued_in old.queue height at) (queue_places old.queue h point)) both
      ∙ ap (λ n. queued_in old.queue n at) ((unsigned_Decides height h).0 (and_left _ _ both))
      ∙ ap (queued_in old.queue h) ((same_point-Decides at point).0 (and_right _ _ both));
  rows = λ h point here.
      let none = sym (ap (λ c. is_named_at h (Some c) && same_point at point) is) ∙ here in
      row_is row h point ∙ ap (λ b. cond b (queued_in old.queue height at) (queue_places old.queue h point)) none;
}
  where
    and_left : (a b : Bool) → (a && b) ≡ true → a ≡ true
    and_left true b e = refl
    and_left false b e = e

    and_right : (a b : Bool) → (a && b) ≡ true → b ≡ true
    and_right true b e = e
    and_right false b e = absurd (true_is_not_false (sym e))

-- ---- what may be empty still

-- a coin's places are given up, and the others are filled but for those that may be empty
coin_cleared : (old new : Tables) (at : OutPoint) (coin : Coin) (touched : OutPoint → Bool) → GivesUp old new at coin
    → ((point : OutPoint) → same_point at point ≡ false → touched point ≡ false → coin_places old.coins point ≡ true → is_some (coins_in old.coins point) ≡ true)
    → FilledBut touched (coin_places new.coins) (λ point. is_some (coins_in new.coins point))
coin_cleared old new at coin touched up was point here free =
    ap (λ f. is_some (f point)) up.coins_same ∙ by (same_point at point) refl (ap (λ f. f point) (sym up.coins) ∙ here)
  where
    by : (b : Bool) → same_point at point ≡ b → cond b (is_some (coins_in old.coins at)) (coin_places old.coins point) ≡ true → is_some (coins_in old.coins point) ≡ true
    by true is e = ap (λ p. is_some (coins_in old.coins p)) (sym ((same_point-Decides at point).0 is)) ∙ e
    by false is e = was point is free e

row_cleared : (old new : Tables) (at : OutPoint) (coin : Coin) (touched : ℕ → OutPoint → Bool) → GivesUp old new at coin
    → ((height : ℕ) (point : OutPoint) → is_row_of coin at height point ≡ false → touched height point ≡ false → queue_places old.queue height point ≡ true → queued_in old.queue height point ≡ true)
    → (height : ℕ) → FilledBut (touched height) (queue_places new.queue height) (queued_in new.queue height)
row_cleared old new at coin touched up was height point here free =
    ap (λ q. q height point) up.queue_same ∙ by (is_row_of coin at height point) refl
  where
    by : (b : Bool) → is_row_of coin at height point ≡ b → queued_in old.queue height point ≡ true
    by true is = sym (up.row height point is) ∙ here
    by false is = was height point is free (sym (up.rows height point is) ∙ here)

-- what is held stays
pub coin_same : (old new : Tables) (at : OutPoint) (coin : Coin) → GivesUp old new at coin → HoldSame old new
coin_same old new at coin up = record { coins = up.coins_same; names = ap names_in up.names; queue = up.queue_same }

pub op_same : (old new : Tables) (op : UndoOp) → GivesUpOp old new op → HoldSame old new
op_same old new (undo_new made) up = record {
  coins = ap (λ (t : Tables). coins_in t.coins) up;
  names = ap (λ (t : Tables). names_in t.names) up;
  queue = ap (λ (t : Tables). queued_in t.queue) up;
}
op_same old new (undo_first made spent coin name before) up = coin_same old new spent coin up
op_same old new (undo_update made spent coin name before) up = coin_same old new spent coin up

-- the first operation's
spent_cleared : (old new : Tables) (at : OutPoint) (coin : Coin) (op : UndoOp) (ops : List UndoOp) (expired : List HeldCoin) → GivesUp old new at coin → SpendsCoin op at coin
    → AreFilledBut old (op ∷ ops) expired → AreFilledBut new ops expired
spent_cleared old new at coin op ops expired up spent filled = record {
  coins = coin_cleared old new at coin (λ point. list_any (spends point) ops || list_any (is_held_at point) expired) up
      (λ point other free placed. filled.coins point placed (or_both _ _ (or_both _ _ (spent.at_is point ∙ other) (or_left _ _ free)) (or_right (list_any (spends point) ops) _ free)));
  queue = row_cleared old new at coin (λ height point. list_any (spends_at height point) ops || list_any (is_queued_at height point) expired) up
      (λ height point other free placed. filled.queue height point placed (or_both _ _ (or_both _ _ (spent.row_is height point ∙ other) (or_left _ _ free)) (or_right (list_any (spends_at height point) ops) _ free)));
  names = subst AreNamesFilled (sym up.names) filled.names;
}

pub op_cleared : (old new : Tables) (op : UndoOp) (ops : List UndoOp) (expired : List HeldCoin) → GivesUpOp old new op → AreFilledBut old (op ∷ ops) expired → AreFilledBut new ops expired
op_cleared old new (undo_new made) ops expired up filled = subst (λ t. AreFilledBut t ops expired) (sym up)
    (record { coins = filled.coins; queue = filled.queue; names = filled.names })
op_cleared old new (undo_first made spent coin name before) ops expired up filled =
    spent_cleared old new spent coin (undo_first made spent coin name before) ops expired up (opening_spends _ made spent coin name before refl) filled
op_cleared old new (undo_update made spent coin name before) ops expired up filled =
    spent_cleared old new spent coin (undo_update made spent coin name before) ops expired up (update_spends _ made spent coin name before refl) filled

-- the first coin's
pub held_cleared : (old new : Tables) (held : HeldCoin) (expired : List HeldCoin) → GivesUp old new held.at held.coin → AreFilledBut old [] (held ∷ expired) → AreFilledBut new [] expired
held_cleared old new held expired up filled = record {
  coins = coin_cleared old new held.at held.coin (λ point. list_any (is_held_at point) expired) up
      (λ point other free placed. filled.coins point placed (or_both _ _ other free));
  queue = row_cleared old new held.at held.coin (λ height point. list_any (is_queued_at height point) expired) up
      (λ height point other free placed. filled.queue height point placed (or_both _ _ (and_comm (same_point held.at point) (is_named_at height (Some held.coin)) ∙ other) free));
  names = subst AreNamesFilled (sym up.names) filled.names;
}

-- ---- none is empty

pub cleared_filled : (t : Tables) → AreFilledBut t [] [] → AreFilled t
cleared_filled t filled = record {
  coins = coins_all_filled t.coins (λ point. false) (λ point. refl) filled.coins;
  names = filled.names;
  queue = rows_all_filled t.queue (λ height point. false) (λ height point. refl) filled.queue;
}
