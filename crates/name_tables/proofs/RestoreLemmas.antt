-- Coins that expired are put back, one after the other.
use Rattle.std.proofs.Common.{◌≡◌, ℕ, Bool, true, false, cond, List, [], ◌∷◌, ◌++◌, refl, sym, ap, ◌∙◌}
use Rattle.std.specs.Cmp.{unsigned_Decides}
use Rattle.std.specs.List.{AllByRecursion}
use Rattle.std.specs.Prelude.{Option, Some, ◌==◌}
use Rattle.nmc_base.specs.declared.hashes.OutPoint.{OutPoint}
use Rattle.nmc_base.proofs.ListLemmas.{all-weaker}
use Rattle.chain_names.proofs.Shown.{true_is_not_false}
use Rattle.chain_names.specs.Changes.{restored}
use Rattle.chain_names.specs.Points.{same_point}
use Rattle.chain_names.specs.Tables.{coins_in, coin_places, queued_in, queue_places, queue_of, is_named_at}
use Rattle.chain_names.specs.declared.coin.Coin.{Coin}
use Rattle.chain_names.specs.declared.coin.Coin.TheVariants.{New, Named}
use Rattle.chain_names.specs.declared.coin.HeldCoin.{HeldCoin}
use Rattle.name_tables.proofs.ExpiryLemmas.{restored-more}
use Rattle.name_tables.proofs.ListLemmas.{all-less, all-last}
use Rattle.name_tables.specs.Expiring.{CanReturn, Restores}
use Rattle.name_tables.specs.Queueing.{PutsCoin}
use Rattle.name_tables.specs.declared.tables.Tables.{Tables}

-- a coin of a row is of no other
only_row : (row : ℕ) (coin : Coin) → is_named_at row (Some coin) ≡ true → (other : ℕ) → (row == other) ≡ false → is_named_at other (Some coin) ≡ false
only_row row (New hash made) is other apart = refl
only_row row (Named name made) is other apart = ap (λ n. n == other) ((unsigned_Decides made row).0 is) ∙ apart

-- and of the row whatever is named at it
pub free_of : (t : Tables) (row : ℕ) (held : HeldCoin) → CanReturn t row held → (other : ℕ) → is_named_at other (Some held.coin) ≡ false → is_named_at other (coins_in t.coins held.at) ≡ false
free_of t row held can other not_there = by (row == other) refl
  where
    by : (b : Bool) → (row == other) ≡ b → is_named_at other (coins_in t.coins held.at) ≡ false
    by true is = absurd (true_is_not_false (sym (ap (λ n. is_named_at n (Some held.coin)) (sym ((unsigned_Decides row other).0 is)) ∙ can.of_row) ∙ not_there))
    by false is = can.free other is

pub row_of : (t : Tables) (row : ℕ) (held : HeldCoin) → CanReturn t row held → (height : ℕ) → is_named_at height (Some held.coin) ≡ true → queue_places t.queue height held.at ≡ true
row_of t row held can height named = by (row == height) refl
  where
    by : (b : Bool) → (row == height) ≡ b → queue_places t.queue height held.at ≡ true
    by true is = ap (λ n. queue_places t.queue n held.at) (sym ((unsigned_Decides row height).0 is)) ∙ can.row_place
    by false is = absurd (true_is_not_false (sym named ∙ only_row row held.coin can.of_row height is))

still_free : (coins : OutPoint → Option Coin) (other : ℕ) (put : Coin) (point : OutPoint) (b : Bool) → is_named_at other (Some put) ≡ false → is_named_at other (coins point) ≡ false
    → is_named_at other (cond b (Some put) (coins point)) ≡ false
still_free coins other put point true here there = here
still_free coins other put point false here there = there

-- so far
pub record IsReturning (start now : Tables) (row : ℕ) (all left : List HeldCoin) : Type 0 where
  pub coins : restored left (coins_in now.coins) ≡ restored all (coins_in start.coins)
  pub can : AllByRecursion (CanReturn now row) left
  pub names : now.names ≡ start.names
  pub queue : queued_in now.queue ≡ queue_of (coins_in now.coins)
  pub places : coin_places now.coins ≡ coin_places start.coins
  pub rows : queue_places now.queue ≡ queue_places start.queue

pub begins_returning : (start : Tables) (row : ℕ) (all : List HeldCoin) → queued_in start.queue ≡ queue_of (coins_in start.coins) → AllByRecursion (CanReturn start row) all → IsReturning start start row all all
begins_returning start row all queue can = record { coins = refl; can = can; names = refl; queue = queue; places = refl; rows = refl }

module _ (start now : Tables) (row : ℕ) (all rest : List HeldCoin) (held : HeldCoin) (returning : IsReturning start now row all (rest ++ held ∷ [])) where
  pub can_here : CanReturn now row held
  can_here = all-last (CanReturn now row) rest held returning.can

  pub returned : (new : Tables) → PutsCoin now new held.at held.coin → IsReturning start new row all rest
  returned new puts = record {
    coins = ap (restored rest) puts.coins ∙ sym (restored-more rest held (coins_in now.coins)) ∙ returning.coins;
    can = all-weaker (CanReturn now row) (CanReturn new row) rest
        (λ h can. record {
          of_row = can.of_row;
          place = ap (λ f. f h.at) puts.places ∙ can.place;
          row_place = ap (λ q. q row h.at) puts.rows ∙ can.row_place;
          free = λ other apart. ap (λ f. is_named_at other (f h.at)) puts.coins
              ∙ still_free (coins_in now.coins) other held.coin h.at (same_point held.at h.at) (only_row row held.coin can_here.of_row other apart) (can.free other apart);
        })
        (all-less (CanReturn now row) rest held returning.can);
    names = puts.names ∙ returning.names;
    queue = puts.queue;
    places = puts.places ∙ returning.places;
    rows = puts.rows ∙ returning.rows;
  }

pub all_returned : (start now : Tables) (row : ℕ) (all left : List HeldCoin) → left ≡ [] → IsReturning start now row all left → Restores start now all
all_returned start now row all left none returning = record {
  coins = ap (λ l. restored l (coins_in now.coins)) (sym none) ∙ returning.coins;
  names = returning.names;
  queue = returning.queue;
  places = returning.places;
  rows = returning.rows;
}
