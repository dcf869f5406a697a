-- Coins that come and go with the queue, and places that are made.
use Rattle.std.proofs.Common.{◌≡◌, ℕ, Bool, true, false, cond, List, refl, sym, ap, subst, ◌∙◌}
use Rattle.std.proofs.Math.Path.{fun_ext}
use Rattle.std.proofs.lemmas.Slice.Eq.{bytes_eq-Decides}
use Rattle.std.specs.Bool.{Decides}
use Rattle.std.specs.Cmp.{unsigned_Decides}
use Rattle.std.specs.Option.{is_some}
use Rattle.std.specs.Prelude.{Option, Some, None, ◌==◌, nat_eq, Result, Ok, Err, OnErr}
use Rattle.std.specs.Str.{bytes_eq}
use Rattle.nmc_base.specs.declared.hashes.Hash20.{Hash20}
use Rattle.nmc_base.specs.declared.hashes.OutPoint.{OutPoint}
use Rattle.chain_names.proofs.Changed.{changed_at, changed_kept}
use Rattle.chain_names.proofs.Points.{same_point-Decides}
use Rattle.chain_names.proofs.QueueLemmas.{queue_of-less, queue_of-still}
use Rattle.chain_names.specs.Coins.{entry_of}
use Rattle.chain_names.specs.Points.{same_point, changed}
use Rattle.chain_names.specs.Tables.{NameSlots, AreNamesFilled, names_in, coin_places, name_places, queue_places, is_named_at, queue_of}
use Rattle.chain_names.specs.declared.coin.Coin.{Coin}
use Rattle.chain_names.specs.declared.coin.Coin.TheVariants.{New, Named}
use Rattle.chain_names.specs.declared.coin.Item.{Item}
use Rattle.name_tables.proofs.PlaceLemmas.{place-kept, rows-kept}
use Rattle.name_tables.specs.Moving.{MayHavePlaces}
use Rattle.name_tables.specs.Queueing.{IsTaken}
use Rattle.name_tables.specs.declared.tables.Tables.{Tables}

-- ---- the queue

pub taken_new : (coins now : OutPoint → Option Coin) (queued : ℕ → OutPoint → Bool) (at : OutPoint) (hash : Hash20) (height : ℕ) → IsTaken coins now queued at (New hash height)
    → queued ≡ queue_of now
taken_new coins now queued at hash height taken =
    taken.queue ∙ sym (queue_of-still coins at None (λ u. ap (is_named_at u) taken.held) (λ u. refl)) ∙ ap queue_of (sym taken.now_is)

pub taken_named : (coins now : OutPoint → Option Coin) (queued after : ℕ → OutPoint → Bool) (at : OutPoint) (name : List ℕ) (height : ℕ) → IsTaken coins now queued at (Named name height)
    → after ≡ changed nat_eq queued height (changed same_point (queued height) at false) → after ≡ queue_of now
taken_named coins now queued after at name height taken e =
    e ∙ ap (λ q. changed nat_eq q height (changed same_point (q height) at false)) taken.queue
    ∙ sym (queue_of-less coins at name height taken.held) ∙ ap queue_of (sym taken.now_is)

pub taken_none : (coins now : OutPoint → Option Coin) (queued : ℕ → OutPoint → Bool) (at : OutPoint) → queued ≡ queue_of coins → coins at ≡ None → now ≡ changed same_point coins at None
    → queued ≡ queue_of now
taken_none coins now queued at queue none e =
    queue ∙ sym (queue_of-still coins at None (λ u. ap (is_named_at u) none) (λ u. refl)) ∙ ap queue_of (sym e)

-- a coin that is put is over none, or over one of no other row
pub put_new : (coins : OutPoint → Option Coin) (queued : ℕ → OutPoint → Bool) (at : OutPoint) (hash : Hash20) (height : ℕ) → queued ≡ queue_of coins
    → ((row : ℕ) → is_named_at row (Some (New hash height)) ≡ false → is_named_at row (coins at) ≡ false)
    → queued ≡ queue_of (changed same_point coins at (Some (New hash height)))
put_new coins queued at hash height queue free = queue ∙ sym (queue_of-still coins at (Some (New hash height)) (λ u. free u refl) (λ u. refl))

in_row : (coins : OutPoint → Option Coin) (q : OutPoint) (u v : ℕ) (b : Bool) → (u == v) ≡ b → is_named_at v (coins q) ≡ cond b (is_named_at u (coins q)) (is_named_at v (coins q))
in_row coins q u v true is = ap (λ n. is_named_at n (coins q)) (sym ((unsigned_Decides u v).0 is))
in_row coins q u v false is = refl

over_here : (coins : OutPoint → Option Coin) (q : OutPoint) (u v : ℕ) (b : Bool) → (u == v) ≡ b → ((row : ℕ) → (u == row) ≡ false → is_named_at row (coins q) ≡ false)
    → (u == v) ≡ cond b true (is_named_at v (coins q))
over_here coins q u v true is free = is
over_here coins q u v false is free = is ∙ sym (free v is)

over_at : (coins : OutPoint → Option Coin) (p : OutPoint) (name : List ℕ) (u v : ℕ) (q : OutPoint) (b : Bool) → same_point p q ≡ b → ((row : ℕ) → (u == row) ≡ false → is_named_at row (coins p) ≡ false)
    → is_named_at v (cond b (Some (Named name u)) (coins q)) ≡ cond (u == v) (cond b true (is_named_at u (coins q))) (is_named_at v (coins q))
over_at coins p name u v q true is free =
    over_here coins q u v (u == v) refl (λ row e. ap (λ r. is_named_at row (coins r)) (sym ((same_point-Decides p q).0 is)) ∙ free row e)
over_at coins p name u v q false is free = in_row coins q u v (u == v) refl

row_here : (coins : OutPoint → Option Coin) (p : OutPoint) (u v : ℕ) (q : OutPoint) (b : Bool)
    → cond b (cond (same_point p q) true (is_named_at u (coins q))) (is_named_at v (coins q))
    ≡ cond {A = OutPoint → Bool} b (λ r. cond (same_point p r) true (is_named_at u (coins r))) (λ r. is_named_at v (coins r)) q
row_here coins p u v q true = refl
row_here coins p u v q false = refl

queue_of-over : (coins : OutPoint → Option Coin) (p : OutPoint) (name : List ℕ) (u : ℕ) → ((row : ℕ) → (u == row) ≡ false → is_named_at row (coins p) ≡ false)
    → queue_of (changed same_point coins p (Some (Named name u))) ≡ changed nat_eq (queue_of coins) u (changed same_point (queue_of coins u) p true)
queue_of-over coins p name u free = fun_ext (λ v. fun_ext (λ q. over_at coins p name u v q (same_point p q) refl free ∙ row_here coins p u v q (u == v)))

pub put_named : (coins : OutPoint → Option Coin) (queued after : ℕ → OutPoint → Bool) (at : OutPoint) (name : List ℕ) (height : ℕ) → queued ≡ queue_of coins
    → ((row : ℕ) → is_named_at row (Some (Named name height)) ≡ false → is_named_at row (coins at) ≡ false)
    → after ≡ changed nat_eq queued height (changed same_point (queued height) at true)
    → after ≡ queue_of (changed same_point coins at (Some (Named name height)))
put_named coins queued after at name height queue free e =
    e ∙ ap (λ q. changed nat_eq q height (changed same_point (q height) at true)) queue ∙ sym (queue_of-over coins at name height free)

-- none is no coin of any row
pub none_free : (coins : OutPoint → Option Coin) (at : OutPoint) (coin : Coin) → coins at ≡ None → (row : ℕ) → is_named_at row (Some coin) ≡ false → is_named_at row (coins at) ≡ false
none_free coins at coin none row other = ap (is_named_at row) none

-- ---- places

module _ {K V : Type 0} {same : K → K → Bool} (decides : (a b : K) → Decides (same a b) (a ≡ b)) where
  pub changed_twice : (f : K → V) (k : K) (v : V) → changed same (changed same f k v) k v ≡ changed same f k v
  changed_twice f k v = changed_kept decides (changed same f k v) k v (changed_at decides f k v)

rows_twice : (rows : ℕ → OutPoint → Bool) (height : ℕ) (made : OutPoint)
    → let more = changed nat_eq rows height (changed same_point (rows height) made true) in
    changed nat_eq more height (changed same_point (more height) made true) ≡ more
rows_twice rows height made =
    let row = changed same_point (rows height) made true in
    let here = changed_at unsigned_Decides rows height row in
    ap (λ r. changed nat_eq (changed nat_eq rows height row) height (changed same_point r made true)) here
    ∙ ap (λ r. changed nat_eq (changed nat_eq rows height row) height r) (changed_twice same_point-Decides (rows height) made true)
    ∙ changed_twice unsigned_Decides rows height row

pub coin_place_only : (old new : Tables) (made : OutPoint) (height : ℕ) → coin_places new.coins ≡ changed same_point (coin_places old.coins) made true
    → queue_places new.queue ≡ queue_places old.queue → name_places new.names ≡ name_places old.names → MayHavePlaces old new made height
coin_place_only old new made height coins rows names = record {
  coins = ap (λ f. changed same_point f made true) coins ∙ changed_twice same_point-Decides (coin_places old.coins) made true;
  kept = λ point here. ap (λ f. f point) coins ∙ place-kept (coin_places old.coins) made point here;
  queue = ap (λ q. changed nat_eq q height (changed same_point (q height) made true)) rows;
  rows_kept = λ row point here. ap (λ q. q row point) rows ∙ here;
  names = names;
}

pub both_places : (old new : Tables) (made : OutPoint) (height : ℕ) → coin_places new.coins ≡ changed same_point (coin_places old.coins) made true
    → queue_places new.queue ≡ changed nat_eq (queue_places old.queue) height (changed same_point (queue_places old.queue height) made true)
    → name_places new.names ≡ name_places old.names → MayHavePlaces old new made height
both_places old new made height coins rows names = record {
  coins = ap (λ f. changed same_point f made true) coins ∙ changed_twice same_point-Decides (coin_places old.coins) made true;
  kept = λ point here. ap (λ f. f point) coins ∙ place-kept (coin_places old.coins) made point here;
  queue = ap (λ q. changed nat_eq q height (changed same_point (q height) made true)) rows ∙ rows_twice (queue_places old.queue) height made;
  rows_kept = λ row point here. ap (λ q. q row point) rows ∙ rows-kept (queue_places old.queue) height row made point here;
  names = names;
}

-- the place that was made in the row is there
pub placed_row : (rows after : ℕ → OutPoint → Bool) (height : ℕ) (made : OutPoint) → after ≡ changed nat_eq rows height (changed same_point (rows height) made true)
    → after height made ≡ true
placed_row rows after height made e =
    ap (λ q. q height made) e
    ∙ ap (λ r. r made) (changed_at unsigned_Decides rows height (changed same_point (rows height) made true))
    ∙ changed_at same_point-Decides (rows height) made true

-- the row of a name of this height has the place still
pub row_kept : (rows after : ℕ → OutPoint → Bool) (height : ℕ) (made : OutPoint) (name : List ℕ) → after ≡ rows → rows height made ≡ true
    → (row : ℕ) → is_named_at row (Some (Named name height)) ≡ true → after row made ≡ true
row_kept rows after height made name same here row is =
    ap (λ q. q row made) same ∙ ap (λ n. rows n made) (sym ((unsigned_Decides height row).0 is)) ∙ here

-- ---- answers

pub on_err : {T E : Type 0} (r : Result T E) (Q : Type 0) → Q → OnErr r Q
on_err (Ok x) Q q = tt
on_err (Err e) Q q = q

pub on_err_then : {T E : Type 0} (r : Result T E) (P Q : Type 0) → OnErr r P → (P → Q) → OnErr r Q
on_err_then (Ok x) P Q p f = tt
on_err_then (Err e) P Q p f = f p

pub no_coin_held : (coin : Coin) → None ≡ Some coin → ⊥
no_coin_held coin e = cc

-- ---- names that lose a value

popped_at : (places : List ℕ → Bool) (names after : List ℕ → List Item) (name : List ℕ) (items : List Item) (n : List ℕ) (b : Bool) → bytes_eq name n ≡ b
    → places n ≡ is_some (entry_of (names n)) → after n ≡ cond b items (names n)
    → cond b (is_some (entry_of (after name))) (places n) ≡ is_some (entry_of (after n))
popped_at places names after name items n true is filled here = ap (λ m. is_some (entry_of (after m))) ((bytes_eq-Decides name n).0 is)
popped_at places names after name items n false is filled here = filled ∙ ap (λ i. is_some (entry_of i)) (sym here)

pub names_popped : (places places' : List ℕ → Bool) (names after : List ℕ → List Item) (name : List ℕ) (items : List Item)
    → ((n : List ℕ) → places n ≡ is_some (entry_of (names n))) → after ≡ changed bytes_eq names name items
    → places' ≡ changed bytes_eq places name (is_some (entry_of (after name)))
    → (n : List ℕ) → places' n ≡ is_some (entry_of (after n))
names_popped places places' names after name items filled e f n =
    ap (λ g. g n) f ∙ popped_at places names after name items n (bytes_eq name n) refl (filled n) (ap (λ g. g n) e)

pub names_filled_by : (old new : NameSlots) → new ≡ old → AreNamesFilled old → AreNamesFilled new
names_filled_by old new e filled = subst AreNamesFilled (sym e) filled

-- where the places are read with the names before
pub names_filled_same : (old new : NameSlots) → names_in new ≡ names_in old → ((n : List ℕ) → name_places new n ≡ is_some (entry_of (names_in old n))) → AreNamesFilled new
names_filled_same old new e filled n = filled n ∙ ap (λ f. is_some (entry_of (f n))) (sym e)
