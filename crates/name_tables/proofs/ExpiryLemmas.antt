-- The coins of a row are taken, one after the other.
use Rattle.std.proofs.Common.{◌≡◌, ℕ, suc, ◌+◌, ◌<◌, ◌≤◌, Bool, true, false, cond, List, [], ◌∷◌, ◌++◌, length, refl, sym, ap, subst, ◌∙◌, arith}
use Rattle.std.proofs.lemmas.List.{append-nil}
use Rattle.std.specs.List.{AllByRecursion, list_any}
use Rattle.std.specs.List.Sorted.{IsStrictlySortedBy}
use Rattle.std.specs.Map.{lookup, keys_of}
use Rattle.std.specs.Option.{is_some}
use Rattle.std.specs.Prelude.{Option, Some, None, ◌||◌}
use Rattle.nmc_base.specs.Hash.{outpoint_cmp}
use Rattle.nmc_base.specs.Roomy.{Roomy}
use Rattle.nmc_base.specs.declared.hashes.OutPoint.{OutPoint}
use Rattle.nmc_base.proofs.ListLemmas.{all-more}
use Rattle.chain_names.proofs.Changed.{changed_back, changed_kept}
use Rattle.chain_names.proofs.DueLemmas.{cleared-row}
use Rattle.chain_names.proofs.Points.{same_point-Decides}
use Rattle.chain_names.proofs.Shown.{true_is_not_false}
use Rattle.chain_names.specs.Changes.{unless_named_at, cleared, restored}
use Rattle.chain_names.specs.Points.{same_point, changed}
use Rattle.chain_names.specs.Tables.{QueueSlots, row_at, row_points, coins_in, coin_places, queued_in, queue_places, queue_of, is_named_at}
use Rattle.chain_names.specs.declared.coin.Coin.{Coin}
use Rattle.chain_names.specs.declared.coin.HeldCoin.{HeldCoin}
use Rattle.chain_names.specs.Expired.{is_held_at, points_of}
use Rattle.name_tables.proofs.OrderLemmas.{rising_but}
use Rattle.name_tables.proofs.PlaceLemmas.{queued-placed}
use Rattle.name_tables.specs.Expiring.{IsDueCoin, Expires}
use Rattle.name_tables.specs.Queueing.{TakesCoin}
use Rattle.name_tables.specs.Taking.{TakesDue}
use Rattle.name_tables.specs.declared.tables.Tables.{Tables}

pub restored-more : (helds : List HeldCoin) (held : HeldCoin) (coins : OutPoint → Option Coin)
    → restored (helds ++ held ∷ []) coins ≡ restored helds (changed same_point coins held.at (Some held.coin))
restored-more [] held coins = refl
restored-more (first ∷ helds) held coins = ap (λ f. changed same_point f first.at (Some first.coin)) (restored-more helds held coins)

points-more : (helds : List HeldCoin) (held : HeldCoin) (points : List OutPoint) → points_of (helds ++ held ∷ []) ++ points ≡ points_of helds ++ held.at ∷ points
points-more [] held points = refl
points-more (first ∷ helds) held points = ap (λ l. first.at ∷ l) (points-more helds held points)

-- an outpoint where none was held keeps its coin
pub restored_other : (point : OutPoint) (expired : List HeldCoin) (coins : OutPoint → Option Coin) → list_any (is_held_at point) expired ≡ false → restored expired coins point ≡ coins point
restored_other point [] coins none = refl
restored_other point (held ∷ expired) coins none = here (same_point held.at point) none (restored_other point expired coins)
  where
    here : (b : Bool) → (b || list_any (is_held_at point) expired) ≡ false → (list_any (is_held_at point) expired ≡ false → restored expired coins point ≡ coins point)
        → cond b (Some held.coin) (restored expired coins point) ≡ coins point
    here true free rest = absurd cc
    here false free rest = rest free

-- what is left to do: the tables now, the outpoints that are left, and what was taken so far
pub record Left : Type 0 where
  pub now : Tables
  pub points : List OutPoint
  pub expired : Roomy HeldCoin

-- so far
pub record IsTaking (start : Tables) (row : ℕ) (points : List OutPoint) (left : Left) : Type 0 where
  pub coins : cleared row left.points (coins_in left.now.coins) ≡ cleared row points (coins_in start.coins)
  pub back : restored left.expired.items (coins_in left.now.coins) ≡ coins_in start.coins
  pub less : (point : OutPoint) (coin : Coin) → coins_in left.now.coins point ≡ Some coin → coins_in start.coins point ≡ Some coin
  pub each : AllByRecursion (IsDueCoin (coins_in start.coins) row) left.expired.items
  pub names : left.now.names ≡ start.names
  pub queue : queued_in left.now.queue ≡ queue_of (coins_in left.now.coins)
  pub places : coin_places left.now.coins ≡ coin_places start.coins
  pub rows : queue_places left.now.queue ≡ queue_places start.queue
  pub room : length left.points ≤ left.expired.spare
  pub rising : IsStrictlySortedBy outpoint_cmp (points_of left.expired.items ++ left.points)

-- a coin of the row was taken at an outpoint
pub record TakesOne (row : ℕ) (at : OutPoint) (before after : Left) : Type 0 where
  pub coin : Coin
  pub queued : queued_in before.now.queue row at ≡ true
  pub held : Some coin ≡ coins_in before.now.coins at
  pub takes : TakesCoin before.now after.now at
  pub items : after.expired.items ≡ before.expired.items ++ record { at = at; coin = coin } ∷ []
  pub spare : after.expired.spare + 1 ≡ before.expired.spare

pub begins_taking : (start : Tables) (row : ℕ) (points : List OutPoint) (expired : Roomy HeldCoin) → queued_in start.queue ≡ queue_of (coins_in start.coins) → expired.items ≡ []
    → length points ≤ expired.spare → IsStrictlySortedBy outpoint_cmp points → IsTaking start row points (record { now = start; points = points; expired = expired })
begins_taking start row points expired queue none room rising = record {
  coins = refl;
  back = ap (λ es. restored es (coins_in start.coins)) none;
  less = λ point coin e. e;
  each = subst (AllByRecursion (IsDueCoin (coins_in start.coins) row)) (sym none) tt;
  names = refl;
  queue = queue;
  places = refl;
  rows = refl;
  room = room;
  rising = subst (λ es. IsStrictlySortedBy outpoint_cmp (points_of es ++ points)) (sym none) rising;
}

only_less : (coins : OutPoint → Option Coin) (at point : OutPoint) (coin : Coin) (b : Bool) → cond b None (coins point) ≡ Some coin → coins point ≡ Some coin
only_less coins at point coin true e = absurd cc
only_less coins at point coin false e = e

named_none : (row : ℕ) (coin : Option Coin) → is_named_at row coin ≡ true → unless_named_at row coin ≡ None
named_none row coin e = rw e refl

unnamed_kept : (row : ℕ) (coin : Option Coin) → is_named_at row coin ≡ false → unless_named_at row coin ≡ coin
unnamed_kept row coin e = rw e refl

module _ (start : Tables) (row : ℕ) (points : List OutPoint) where
  pub took : (left next : Left) (at : OutPoint) → left.points ≡ at ∷ next.points → IsTaking start row points left → TakesOne row at left next → IsTaking start row points next
  took left next at left_is taking one =
      let named = ap (is_named_at row) one.held ∙ sym (ap (λ q. q row at) taking.queue) ∙ one.queued in
      let held : HeldCoin = record { at = at; coin = one.coin } in
      let room : suc (length next.points) ≤ left.expired.spare = subst (λ l. length l ≤ left.expired.spare) left_is taking.room in
      let rising = subst (λ l. IsStrictlySortedBy outpoint_cmp (points_of left.expired.items ++ l)) left_is taking.rising in
      record {
        coins = ap (cleared row next.points) (one.takes.coins ∙ ap (λ c. changed same_point (coins_in left.now.coins) at c) (sym (named_none row (coins_in left.now.coins at) (ap (is_named_at row) (sym one.held) ∙ named))))
            ∙ ap (λ l. cleared row l (coins_in left.now.coins)) (sym left_is) ∙ taking.coins;
        back = ap (λ es. restored es (coins_in next.now.coins)) one.items
            ∙ restored-more left.expired.items held (coins_in next.now.coins)
            ∙ ap (λ f. restored left.expired.items (changed same_point f at (Some one.coin))) one.takes.coins
            ∙ ap (restored left.expired.items) (changed_back same_point-Decides (coins_in left.now.coins) at (Some one.coin) None (sym one.held))
            ∙ taking.back;
        less = λ point c e. taking.less point c (only_less (coins_in left.now.coins) at point c (same_point at point) (ap (λ f. f point) (sym one.takes.coins) ∙ e));
        each = subst (AllByRecursion (IsDueCoin (coins_in start.coins) row)) (sym one.items)
            (all-more (IsDueCoin (coins_in start.coins) row) left.expired.items held taking.each (record { held_is = taking.less at one.coin (sym one.held); of_row = named }));
        names = one.takes.names ∙ taking.names;
        queue = one.takes.queue;
        places = one.takes.places ∙ taking.places;
        rows = one.takes.rows ∙ taking.rows;
        room = omega (arith, room, one.spare);
        rising = subst (λ es. IsStrictlySortedBy outpoint_cmp (points_of es ++ next.points)) (sym one.items)
            (subst (IsStrictlySortedBy outpoint_cmp) (sym (points-more left.expired.items held next.points)) rising);
      }

  pub passed_by : (left : Left) (at : OutPoint) (more : List OutPoint) → left.points ≡ at ∷ more → IsTaking start row points left → queued_in left.now.queue row at ≡ false
      → IsTaking start row points (record left { points = more })
  passed_by left at more left_is taking free =
      let unnamed = sym (ap (λ q. q row at) taking.queue) ∙ free in
      let room : suc (length more) ≤ left.expired.spare = subst (λ l. length l ≤ left.expired.spare) left_is taking.room in
      let rising = subst (λ l. IsStrictlySortedBy outpoint_cmp (points_of left.expired.items ++ l)) left_is taking.rising in
      record {
        coins = ap (cleared row more) (sym (ap (λ c. changed same_point (coins_in left.now.coins) at c) (unnamed_kept row (coins_in left.now.coins at) unnamed)
            ∙ changed_kept same_point-Decides (coins_in left.now.coins) at (coins_in left.now.coins at) refl))
            ∙ ap (λ l. cleared row l (coins_in left.now.coins)) (sym left_is) ∙ taking.coins;
        back = taking.back;
        less = taking.less;
        each = taking.each;
        names = taking.names;
        queue = taking.queue;
        places = taking.places;
        rows = taking.rows;
        room = omega (arith, room);
        rising = rising_but (points_of left.expired.items) more at rising;
      }

  pub taken_all : (left : Left) → left.points ≡ [] → IsTaking start row points left → TakesDue start left.now row points left.expired.items
  taken_all left none taking = record {
    coins = ap (λ l. cleared row l (coins_in left.now.coins)) (sym none) ∙ taking.coins;
    back = taking.back;
    each = taking.each;
    sorted = subst (IsStrictlySortedBy outpoint_cmp) (append-nil (points_of left.expired.items))
        (subst (λ l. IsStrictlySortedBy outpoint_cmp (points_of left.expired.items ++ l)) none taking.rising);
    names = taking.names;
    queue = taking.queue;
    places = taking.places;
    rows = taking.rows;
  }

pub none_queued : (t : Tables) (row : ℕ) (at : OutPoint) → queued_in t.queue ≡ queue_of (coins_in t.coins) → None ≡ coins_in t.coins at → queued_in t.queue row at ≡ true → ⊥
none_queued t row at queue none queued = true_is_not_false (sym queued ∙ ap (λ q. q row at) queue ∙ ap (is_named_at row) (sym none))

pub room_for_one : (xs : List OutPoint) (spare : ℕ) → 1 ≤ length xs → length xs ≤ spare → 0 < spare
room_for_one xs spare some room = omega (arith, some, room)

pub row_expired : (old new : Tables) (row : ℕ) (points : List OutPoint) (expired : List HeldCoin) → queued_in old.queue ≡ queue_of (coins_in old.coins)
    → ((point : OutPoint) → queued_in old.queue row point ≡ true → list_any (same_point point) points ≡ true) → TakesDue old new row points expired → Expires old new row expired
row_expired old new row points expired queue all takes = record {
  coins = takes.coins ∙ cleared-row row points (coins_in old.coins) (λ q named. all q (ap (λ f. f row q) queue ∙ named));
  all = λ point queued. listed point queued _ refl;
  sorted = takes.sorted;
  back = takes.back;
  each = takes.each;
  names = takes.names;
  queue = takes.queue;
  places = takes.places;
  rows = takes.rows;
}
  where
    gone : coins_in new.coins ≡ (λ point. unless_named_at row (coins_in old.coins point))
    gone = takes.coins ∙ cleared-row row points (coins_in old.coins) (λ q named. all q (ap (λ f. f row q) queue ∙ named))

    listed : (point : OutPoint) → queued_in old.queue row point ≡ true → (b : Bool) → list_any (is_held_at point) expired ≡ b → b ≡ true
    listed point queued true here = refl
    listed point queued false none =
        let named : is_named_at row (coins_in old.coins point) ≡ true = sym (ap (λ f. f row point) queue) ∙ queued in
        let lost : coins_in old.coins point ≡ None =
        sym (ap (λ f. f point) takes.back) ∙ restored_other point expired (coins_in new.coins) none
        ∙ ap (λ f. f point) gone ∙ named_none row (coins_in old.coins point) named in
        absurd (true_is_not_false (sym named ∙ ap (is_named_at row) lost))

-- ---- the outpoints of a row

-- each that is queued has a place in the row, so it is among its outpoints
key_here : (e : OutPoint × Bool) (row : List (OutPoint × Bool)) (point : OutPoint) → is_some (lookup (same_point point) row) ≡ list_any (same_point point) (keys_of row) → (b : Bool)
    → is_some (cond b (Some e.1) (lookup (same_point point) row)) ≡ (b || list_any (same_point point) (keys_of row))
key_here e row point rest true = refl
key_here e row point rest false = rest

pub any_key : (row : List (OutPoint × Bool)) (point : OutPoint) → is_some (lookup (same_point point) row) ≡ list_any (same_point point) (keys_of row)
any_key [] point = refl
any_key (e ∷ row) point = key_here e row point (any_key row point) (same_point point e.0)

pub queued_listed : (queue : QueueSlots) (row : ℕ) (points : List OutPoint) (point : OutPoint) → list_any (same_point point) (row_points queue row) ≡ list_any (same_point point) points
    → queued_in queue row point ≡ true → list_any (same_point point) points ≡ true
queued_listed queue row points point same queued = sym same ∙ sym (any_key (row_at queue row) point) ∙ queued-placed queue row point queued
