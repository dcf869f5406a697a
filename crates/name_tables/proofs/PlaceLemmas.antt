-- What is held has a place, and what has a place keeps it.
use Rattle.std.proofs.Common.{◌≡◌, ℕ, Bool, true, false, cond, ◌&&◌, List, refl, sym, ap, ◌∙◌}
use Rattle.std.specs.Cmp.{unsigned_Decides, both_ways}
use Rattle.std.specs.Map.{lookup}
use Rattle.std.specs.Option.{is_some}
use Rattle.std.specs.Prelude.{Some, ◌==◌, nat_eq, Option, None}
use Rattle.nmc_base.specs.declared.hashes.OutPoint.{OutPoint}
use Rattle.chain_names.proofs.Shown.{true_is_not_false}
use Rattle.chain_names.specs.Points.{same_point, changed}
use Rattle.chain_names.specs.Tables.{CoinSlots, QueueSlots, coins_in, coin_places, queued_in, queue_places, FilledBut, filled_by, is_filled, row_at, is_named_at, AreCoinsFilled, IsQueueFilled}
use Rattle.chain_names.specs.declared.coin.Coin.{Coin}
use Rattle.chain_names.specs.declared.coin.Item.{Item}
use Rattle.chain_names.specs.declared.undo.UndoOp.{UndoOp}
use Rattle.chain_names.specs.declared.undo.UndoOp.TheVariants.{First as undo_first, Update as undo_update}
use Rattle.name_tables.specs.Places.{spends, spends_at}

-- ---- what is held has a place

held_placed : (slot : Option (Option Coin)) (coin : Coin) → filled_by slot ≡ Some coin → is_some slot ≡ true
held_placed None coin e = absurd cc
held_placed (Some value) coin e = refl

pub coin-placed : (slots : CoinSlots) (point : OutPoint) (coin : Coin) → coins_in slots point ≡ Some coin → coin_places slots point ≡ true
coin-placed slots point coin e = held_placed (lookup (same_point point) slots) coin e

filled_placed : (slot : Option Bool) → is_filled slot ≡ true → is_some slot ≡ true
filled_placed None e = absurd (true_is_not_false (sym e))
filled_placed (Some value) e = refl

pub queued-placed : (slots : QueueSlots) (height : ℕ) (point : OutPoint) → queued_in slots height point ≡ true → queue_places slots height point ≡ true
queued-placed slots height point e = filled_placed (lookup (same_point point) (row_at slots height)) e

-- ---- one more place

-- what has a place keeps it where one more is made
pub place-kept : (places : OutPoint → Bool) (k q : OutPoint) → places q ≡ true → changed same_point places k true q ≡ true
place-kept places k q e = kept (same_point k q)
  where
    kept : (b : Bool) → cond b true (places q) ≡ true
    kept true = refl
    kept false = e

pub rows-kept : (rows : ℕ → OutPoint → Bool) (u v : ℕ) (k q : OutPoint) → rows v q ≡ true → changed nat_eq rows u (changed same_point (rows u) k true) v q ≡ true
rows-kept rows u v k q e = by_row (u == v) refl
  where
    in_row : (b : Bool) → rows u q ≡ true → cond b true (rows u q) ≡ true
    in_row true here = refl
    in_row false here = here

    by_row : (b : Bool) → (u == v) ≡ b → cond {A = OutPoint → Bool} b (changed same_point (rows u) k true) (rows v) q ≡ true
    by_row true is = in_row (same_point k q) (ap (λ n. rows n q) ((unsigned_Decides u v).0 is) ∙ e)
    by_row false is = e

row_changed : (rows : ℕ → OutPoint → Bool) (u v : ℕ) (at point : OutPoint) (kept : Bool) (a b : Bool) → (u == v) ≡ a → same_point at point ≡ b
    → cond {A = OutPoint → Bool} a (changed same_point (rows u) at kept) (rows v) point ≡ cond (a && b) kept (rows v point)
row_changed rows u v at point kept true true is same = ap (λ c. cond c kept (rows u point)) same
row_changed rows u v at point kept true false is same = ap (λ c. cond c kept (rows u point)) same ∙ ap (λ n. rows n point) ((unsigned_Decides u v).0 is)
row_changed rows u v at point kept false b is same = refl

-- ---- one place is made, or given up where nothing is in it

-- the coins are the same, and whether the outpoint has a place is told
pub record HasCoinPlace (old new : CoinSlots) (at : OutPoint) (placed : Bool) : Type 0 where
  pub same : coins_in new ≡ coins_in old
  pub places : coin_places new ≡ changed same_point (coin_places old) at placed

-- the queue is the same, and whether the outpoint has a place in the row is told
pub record HasRowPlace (old new : QueueSlots) (height : ℕ) (at : OutPoint) (placed : Bool) : Type 0 where
  pub same : queued_in new ≡ queued_in old
  pub places : queue_places new ≡ changed nat_eq (queue_places old) height (changed same_point (queue_places old height) at placed)

pub row_is : {old new : QueueSlots} {height : ℕ} {at : OutPoint} {placed : Bool} → HasRowPlace old new height at placed → (h : ℕ) (point : OutPoint)
    → queue_places new h point ≡ cond ((height == h) && same_point at point) placed (queue_places old h point)
row_is {old = old} {height = height} {at = at} {placed = placed} row h point =
    ap (λ q. q h point) row.places ∙ row_changed (queue_places old) height h at point placed (height == h) (same_point at point) refl refl

-- ---- what an operation spent

-- it spent the coin at the outpoint
pub record SpendsCoin (op : UndoOp) (at : OutPoint) (coin : Coin) : Type 0 where
  pub at_is : (point : OutPoint) → spends point op ≡ same_point at point
  pub row_is : (height : ℕ) (point : OutPoint) → spends_at height point op ≡ (is_named_at height (Some coin) && same_point at point)

pub opening_spends : (op : UndoOp) (made spent : OutPoint) (coin : Coin) (name : List ℕ) (before : Option Item) → op ≡ undo_first made spent coin name before → SpendsCoin op spent coin
opening_spends op made spent coin name before is = record { at_is = λ point. ap (spends point) is; row_is = λ height point. ap (spends_at height point) is }

pub update_spends : (op : UndoOp) (made spent : OutPoint) (coin : Coin) (name : List ℕ) (before : Option Item) → op ≡ undo_update made spent coin name before → SpendsCoin op spent coin
update_spends op made spent coin name before is = record { at_is = λ point. ap (spends point) is; row_is = λ height point. ap (spends_at height point) is }

-- ---- all places are filled

some_coin : (coin : Option Coin) (P : Type 0) → is_some coin ≡ true → ((c : Coin) → coin ≡ Some c → P) → P
some_coin None P e f = absurd (true_is_not_false (sym e))
some_coin (Some c) P e f = f c refl

pub coins_all_filled : (slots : CoinSlots) (touched : OutPoint → Bool) → ((point : OutPoint) → touched point ≡ false)
    → FilledBut touched (coin_places slots) (λ point. is_some (coins_in slots point)) → AreCoinsFilled slots
coins_all_filled slots touched none filled point =
    both_ways _ _ (λ here. filled point here (none point))
    (λ held. some_coin (coins_in slots point) (coin_places slots point ≡ true) held (λ c e. coin-placed slots point c e))

pub rows_all_filled : (slots : QueueSlots) (touched : ℕ → OutPoint → Bool) → ((height : ℕ) (point : OutPoint) → touched height point ≡ false)
    → ((height : ℕ) → FilledBut (touched height) (queue_places slots height) (queued_in slots height)) → IsQueueFilled slots
rows_all_filled slots touched none filled height point =
    both_ways _ _ (λ here. filled height point here (none height point)) (λ held. queued-placed slots height point held)
