-- Places are made, for one member of a list after the other.
use Rattle.std.proofs.Common.{◌≡◌, ℕ, Bool, true, false, cond, ◌&&◌, List, [], ◌∷◌, refl, sym, ap, subst, ◌∙◌}
use Rattle.std.specs.List.{list_any, AllByRecursion}
use Rattle.std.specs.Option.{is_some}
use Rattle.std.proofs.Math.Bool.{and_comm}
use Rattle.std.specs.Prelude.{Some, ◌||◌, ◌==◌}
use Rattle.nmc_base.specs.declared.hashes.Hash20.{Hash20}
use Rattle.nmc_base.specs.declared.hashes.OutPoint.{OutPoint}
use Rattle.nmc_base.proofs.ListLemmas.{all-weaker}
use Rattle.chain_names.proofs.Shown.{true_is_not_false}
use Rattle.chain_names.specs.Points.{same_point}
use Rattle.chain_names.specs.Tables.{CoinSlots, QueueSlots, coin_places, queue_places, is_named_at, AreNamesFilled}
use Rattle.chain_names.specs.declared.coin.Coin.{Coin}
use Rattle.chain_names.specs.declared.coin.Coin.TheVariants.{New, Named}
use Rattle.chain_names.specs.declared.coin.HeldCoin.{HeldCoin}
use Rattle.chain_names.specs.declared.undo.UndoOp.{UndoOp}
use Rattle.chain_names.specs.declared.undo.UndoOp.TheVariants.{New as undo_new}
use Rattle.chain_names.specs.Expired.{is_held_at}
use Rattle.name_tables.proofs.ListLemmas.{or_left, or_right, or_both}
use Rattle.name_tables.proofs.PlaceLemmas.{HasCoinPlace, HasRowPlace, SpendsCoin, place-kept, row_is}
use Rattle.name_tables.specs.Places.{spends, spends_at, is_queued_at, AreFilledBut}
use Rattle.name_tables.specs.Placing.{Grows, PlacesOnly}
use Rattle.name_tables.specs.Room.{IsPlaced}
use Rattle.name_tables.specs.Tables.{HoldSame, AreFilled}
use Rattle.name_tables.specs.declared.tables.Tables.{Tables}

pub grows-self : (t : Tables) → Grows t t
grows-self t = record { coins = λ point here. here; rows = λ height point here. here }

pub grows-then : (a b c : Tables) → Grows a b → Grows b c → Grows a c
grows-then a b c first second = record {
  coins = λ point here. second.coins point (first.coins point here);
  rows = λ height point here. second.rows height point (first.rows height point here);
}

pub held-then : (a b c : Tables) → HoldSame a b → HoldSame b c → HoldSame a c
held-then a b c first second = record { coins = second.coins ∙ first.coins; names = second.names ∙ first.names; queue = second.queue ∙ first.queue }

module _ {X : Type 0} (at : OutPoint → X → Bool) (row : ℕ → OutPoint → X → Bool) where
  pub places-none : (t : Tables) (xs : List X) → PlacesOnly at row t t xs
  places-none t xs = record {
    same = record { coins = refl; names = refl; queue = refl };
    names = refl;
    grows = grows-self t;
    coins = λ point here free. here;
    rows = λ height point here free. here;
  }

  pub places-then : (a b c : Tables) (x : X) (xs : List X) → PlacesOnly at row a b (x ∷ []) → PlacesOnly at row b c xs → PlacesOnly at row a c (x ∷ xs)
  places-then a b c x xs first rest = record {
    same = held-then a b c first.same rest.same;
    names = rest.names ∙ first.names;
    grows = grows-then a b c first.grows rest.grows;
    coins = λ point here free. first.coins point (rest.coins point here (or_right (at point x) _ free)) (or_both _ _ (or_left _ _ free) refl);
    rows = λ height point here free. first.rows height point (rest.rows height point here (or_right (row height point x) _ free)) (or_both _ _ (or_left _ _ free) refl);
  }

  pub places-first : (a b : Tables) (x : X) (xs : List X) → PlacesOnly at row a b (x ∷ []) → PlacesOnly at row a b (x ∷ xs)
  places-first a b x xs first = record {
    same = first.same;
    names = first.names;
    grows = first.grows;
    coins = λ point here free. first.coins point here (or_both _ _ (or_left _ _ free) refl);
    rows = λ height point here free. first.rows height point here (or_both _ _ (or_left _ _ free) refl);
  }

  pub placed-grows : (a b : Tables) → Grows a b → (x : X) → IsPlaced at row a x → IsPlaced at row b x
  placed-grows a b grows x placed = record {
    coin = λ point here. grows.coins point (placed.coin point here);
    rows = λ height point here. grows.rows height point (placed.rows height point here);
  }

  -- so far and the rest make the whole
  pub record IsPlacing (start now : Tables) (all left : List X) : Type 0 where
    pub only : (new : Tables) → PlacesOnly at row now new left → PlacesOnly at row start new all
    pub placed : (t : Tables) → Grows now t → AllByRecursion (IsPlaced at row t) left → AllByRecursion (IsPlaced at row t) all

  pub begins_placing : (start : Tables) (all : List X) → IsPlacing start start all all
  begins_placing start all = record { only = λ new only. only; placed = λ t grows placed. placed }

  -- one member's places are made
  pub record PlacesOne (now : Tables) (x : X) : Type 0 where
    pub next : Tables
    pub only : PlacesOnly at row now next (x ∷ [])
    pub here : IsPlaced at row next x

  pub went_placing : (start now : Tables) (all more : List X) (x : X) → IsPlacing start now all (x ∷ more) → (one : PlacesOne now x) → IsPlacing start one.next all more
  went_placing start now all more x placing one = record {
    only = λ new rest. placing.only new (places-then now one.next new x more one.only rest);
    placed = λ t grows rest. placing.placed t (grows-then now one.next t one.only.grows grows) (placed-grows one.next t grows x one.here, rest);
  }

  pub ended_placing : (start now : Tables) (all : List X) → IsPlacing start now all [] → PlacesOnly at row start now all
  ended_placing start now all placing = placing.only now (places-none now [])

  pub all_placed : (start now : Tables) (all : List X) → IsPlacing start now all [] → AllByRecursion (IsPlaced at row now) all
  all_placed start now all placing = placing.placed now (grows-self now) tt

-- ---- the places of one coin

-- a coin's row, and whether the outpoint is its
named_is : {coin : Coin} {name : List ℕ} {height : ℕ} → coin ≡ Named name height → (at : OutPoint) (h : ℕ) (point : OutPoint)
    → is_queued_at h point (record { at = at; coin = coin }) ≡ ((height == h) && same_point at point)
named_is {height = height} coin_is at h point = ap (λ c. same_point at point && is_named_at h (Some c)) coin_is ∙ and_comm (same_point at point) (height == h)

always : (b : Bool) → cond b true true ≡ true
always true = refl
always false = refl

module _ (old : Tables) (coins : CoinSlots) (at : OutPoint) (coin : Coin) (made : HasCoinPlace old.coins coins at true) where
  abbrev held : HeldCoin
  held = record { at = at; coin = coin }

  abbrev with_queue : QueueSlots → Tables
  with_queue queue = record { coins = coins; names = old.names; queue = queue }

  only_here : (point : OutPoint) → coin_places coins point ≡ true → (same_point at point || false) ≡ false → coin_places old.coins point ≡ true
  only_here point here free = by (same_point at point) (or_left _ _ free) (sym (ap (λ f. f point) made.places) ∙ here)
    where
      by : (b : Bool) → b ≡ false → cond b true (coin_places old.coins point) ≡ true → coin_places old.coins point ≡ true
      by true no_way e = absurd (true_is_not_false no_way)
      by false free e = e

  kept_coin : (point : OutPoint) → coin_places old.coins point ≡ true → coin_places coins point ≡ true
  kept_coin point here = ap (λ f. f point) made.places ∙ place-kept (coin_places old.coins) at point here

  placed_here : (point : OutPoint) → same_point at point ≡ true → coin_places coins point ≡ true
  placed_here point here = ap (λ f. f point) made.places ∙ ap (λ b. cond b true (coin_places old.coins point)) here

  pub coin_placed : PlacesOnly is_held_at is_queued_at old (with_queue old.queue) (held ∷ [])
  coin_placed = record {
    same = record { coins = made.same; names = refl; queue = refl };
    names = refl;
    grows = record { coins = kept_coin; rows = λ height point here. here };
    coins = only_here;
    rows = λ height point here free. here;
  }

  pub commitment_placed : ((height : ℕ) → is_named_at height (Some coin) ≡ false) → IsPlaced is_held_at is_queued_at (with_queue old.queue) held
  commitment_placed unnamed = record {
    coin = placed_here;
    rows = λ height point here. absurd (true_is_not_false (sym here ∙ ap (λ b. same_point at point && b) (unnamed height) ∙ and_none (same_point at point)));
  }
    where
      and_none : (b : Bool) → (b && false) ≡ false
      and_none true = refl
      and_none false = refl

  module _ (queue : QueueSlots) (name : List ℕ) (height : ℕ) (coin_is : coin ≡ Named name height) (row : HasRowPlace old.queue queue height at true) where
    pub name_placed : PlacesOnly is_held_at is_queued_at old (with_queue queue) (held ∷ [])
    name_placed = record {
      same = record { coins = made.same; names = refl; queue = row.same };
      names = refl;
      grows = record { coins = kept_coin; rows = λ h point here. row_is row h point ∙ ap (cond ((height == h) && same_point at point) true) here ∙ always ((height == h) && same_point at point) };
      coins = only_here;
      rows = λ h point here free. sym (ap (λ b. cond b true (queue_places old.queue h point)) (sym (named_is coin_is at h point) ∙ or_left _ _ free)) ∙ sym (row_is row h point) ∙ here;
    }

    pub name_row_placed : IsPlaced is_held_at is_queued_at (with_queue queue) held
    name_row_placed = record {
      coin = placed_here;
      rows = λ h point here. row_is row h point ∙ ap (λ b. cond b true (queue_places old.queue h point)) (sym (named_is coin_is at h point) ∙ here);
    }

pub unnamed_coin : (coin : Coin) (hash : Hash20) (made : ℕ) → coin ≡ New hash made → (height : ℕ) → is_named_at height (Some coin) ≡ false
unnamed_coin coin hash made is height = ap (λ c. is_named_at height (Some c)) is

-- ---- what an operation spent

module _ (op : UndoOp) (at : OutPoint) (coin : Coin) (spent : SpendsCoin op at coin) where
  queued_is : (height : ℕ) (point : OutPoint) → spends_at height point op ≡ is_queued_at height point (record { at = at; coin = coin })
  queued_is height point = spent.row_is height point ∙ and_comm (is_named_at height (Some coin)) (same_point at point)

  pub spent_only : (old new : Tables) → PlacesOnly is_held_at is_queued_at old new (record { at = at; coin = coin } ∷ []) → PlacesOnly spends spends_at old new (op ∷ [])
  spent_only old new only = record {
    same = only.same;
    names = only.names;
    grows = only.grows;
    coins = λ point here free. only.coins point here (or_both _ _ (sym (spent.at_is point) ∙ or_left _ _ free) refl);
    rows = λ height point here free. only.rows height point here (or_both _ _ (sym (queued_is height point) ∙ or_left _ _ free) refl);
  }

  pub spent_placed : (t : Tables) → IsPlaced is_held_at is_queued_at t (record { at = at; coin = coin }) → IsPlaced spends spends_at t op
  spent_placed t placed = record {
    coin = λ point here. placed.coin point (sym (spent.at_is point) ∙ here);
    rows = λ height point here. placed.rows height point (sym (queued_is height point) ∙ here);
  }

pub made_spends_none : (op : UndoOp) (made : OutPoint) → op ≡ undo_new made → (t : Tables) → IsPlaced spends spends_at t op
made_spends_none op made is t = record {
  coin = λ point here. absurd (true_is_not_false (sym here ∙ ap (spends point) is));
  rows = λ height point here. absurd (true_is_not_false (sym here ∙ ap (spends_at height point) is));
}

-- ---- the places of operations, and then those of coins

module _ (old mid new : Tables) (ops : List UndoOp) (expired : List HeldCoin) (filled : AreFilled old)
    (first : PlacesOnly spends spends_at old mid ops) (second : PlacesOnly is_held_at is_queued_at mid new expired) where
  pub placed_same : HoldSame old new
  placed_same = held-then old mid new first.same second.same

  pub placed_filled : AreFilledBut new ops expired
  placed_filled = record {
    coins = λ point here free.
        ap (λ f. is_some (f point)) placed_same.coins
        ∙ sym (filled.coins point) ∙ first.coins point (second.coins point here (or_right (list_any (spends point) ops) _ free)) (or_left _ _ free);
    queue = λ height point here free.
        ap (λ q. q height point) placed_same.queue
        ∙ sym (filled.queue height point) ∙ first.rows height point (second.rows height point here (or_right (list_any (spends_at height point) ops) _ free)) (or_left _ _ free);
    names = subst AreNamesFilled (sym (second.names ∙ first.names)) filled.names;
  }

  pub spent_stay : AllByRecursion (IsPlaced spends spends_at mid) ops → AllByRecursion (IsPlaced spends spends_at new) ops
  spent_stay placed = all-weaker (IsPlaced spends spends_at mid) (IsPlaced spends spends_at new) ops (placed-grows spends spends_at mid new second.grows) placed
