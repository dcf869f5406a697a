-- What a block touched, and only that, differs before it: so what is looked up anew is as it is behind the block.
use Rattle.std.proofs.Common.{◌≡◌, ℕ, zero, suc, Bool, true, false, cond, ◌||◌, List, [], ◌∷◌, ◌++◌, length, drop, take, Option, Some, None, refl, sym, ap, ◌∙◌}
use Rattle.std.proofs.Math.Path.{fun_ext}
use Rattle.std.specs.List.{list_any}
use Rattle.std.specs.Str.{bytes_eq}
use Rattle.nmc_base.specs.declared.hashes.OutPoint.{OutPoint}
use Rattle.chain_names.proofs.Changed.{bytes_eq-true}
use Rattle.chain_names.proofs.Points.{same_point-Decides}
use Rattle.chain_names.specs.Changes.{back_op, back_ops, restored, undone, without_entry}
use Rattle.chain_names.specs.Coins.{Maps}
use Rattle.chain_names.specs.Expired.{is_held_at}
use Rattle.chain_names.specs.Points.{same_point, changed}
use Rattle.chain_names.specs.Tables.{CoinSlots, NameSlots, coins_in, names_in}
use Rattle.chain_names.specs.declared.coin.Coin.{Coin}
use Rattle.chain_names.specs.declared.coin.HeldCoin.{HeldCoin}
use Rattle.chain_names.specs.declared.coin.Item.{Item}
use Rattle.chain_names.specs.declared.undo.UndoOp.{UndoOp}
use Rattle.chain_names.specs.declared.undo.UndoOp.TheVariants.{New as undo_new, First as undo_first, Update as undo_update}
use Rattle.name_tables.proofs.ListLemmas.{or_left, or_right, or_both}
use Rattle.sliced_save.specs.Changes.{CoinsByPoint, ItemsByName, grown, grown_name, grown_op, grown_ops, refreshed_helds, refreshed_op, refreshed_ops, refreshed_point}
use Rattle.sliced_save.proofs.FillLemmas.{grown_whole}

-- ---- coins

-- the operation made or spent the outpoint
abbrev touches : OutPoint → UndoOp → Bool
touches q (undo_new made) = same_point made q
touches q (undo_first made spent coin name before) = same_point made q || same_point spent q
touches q (undo_update made spent coin name before) = same_point made q || same_point spent q

elsewhere : (coins : CoinsByPoint) (point q : OutPoint) (coin : Option Coin) → same_point point q ≡ false → changed same_point coins point coin q ≡ coins q
elsewhere coins point q coin e = ap (λ b. cond b coin (coins q)) e

-- what was touched by none of them was the same before
two_elsewhere : (coins : CoinsByPoint) (made spent q : OutPoint) (coin : Coin) → (same_point made q || same_point spent q) ≡ false
    → changed same_point (changed same_point coins made None) spent (Some coin) q ≡ coins q
two_elsewhere coins made spent q coin e =
    elsewhere (changed same_point coins made None) spent q (Some coin) (or_right (same_point made q) (same_point spent q) e)
    ∙ elsewhere coins made q None (or_left (same_point made q) (same_point spent q) e)

op_elsewhere : (q : OutPoint) (op : UndoOp) (maps : Maps) → touches q op ≡ false → (back_op op maps).coins q ≡ maps.coins q
op_elsewhere q (undo_new made) maps e = elsewhere maps.coins made q None e
op_elsewhere q (undo_first made spent coin name before) maps e = two_elsewhere maps.coins made spent q coin e
op_elsewhere q (undo_update made spent coin name before) maps e = two_elsewhere maps.coins made spent q coin e

ops_elsewhere : (q : OutPoint) (ops : List UndoOp) (maps : Maps) → list_any (touches q) ops ≡ false → (back_ops ops maps).coins q ≡ maps.coins q
ops_elsewhere q [] maps e = refl
ops_elsewhere q (op ∷ ops) maps e =
    op_elsewhere q op (back_ops ops maps) (or_left (touches q op) (list_any (touches q) ops) e) ∙ ops_elsewhere q ops maps (or_right (touches q op) (list_any (touches q) ops) e)

helds_elsewhere : (q : OutPoint) (helds : List HeldCoin) (coins : CoinsByPoint) → list_any (is_held_at q) helds ≡ false → restored helds coins q ≡ coins q
helds_elsewhere q [] coins e = refl
helds_elsewhere q (held ∷ helds) coins e =
    elsewhere (restored helds coins) held.at q (Some held.coin) (or_left (is_held_at q held) (list_any (is_held_at q) helds) e)
    ∙ helds_elsewhere q helds coins (or_right (is_held_at q held) (list_any (is_held_at q) helds) e)

module _ (table : CoinSlots) (q : OutPoint) where
  point_now : (point : OutPoint) (coins : CoinsByPoint) (b : Bool) → same_point point q ≡ b → (b ≡ false → coins q ≡ coins_in table q) → refreshed_point table point coins q ≡ coins_in table q
  point_now point coins true e other =
      ap (λ b. cond b (coins_in table point) (coins q)) e ∙ ap (coins_in table) ((same_point-Decides point q).0 e)
  point_now point coins false e other = ap (λ b. cond b (coins_in table point) (coins q)) e ∙ other refl

  both_now : (made spent : OutPoint) (coins : CoinsByPoint) → ((same_point made q || same_point spent q) ≡ false → coins q ≡ coins_in table q)
      → refreshed_point table spent (refreshed_point table made coins) q ≡ coins_in table q
  both_now made spent coins other =
      point_now spent (refreshed_point table made coins) (same_point spent q) refl
      (λ e. point_now made coins (same_point made q) refl (λ f. other (or_both (same_point made q) (same_point spent q) f e)))

  op_now : (op : UndoOp) (coins : CoinsByPoint) → (touches q op ≡ false → coins q ≡ coins_in table q) → refreshed_op table op coins q ≡ coins_in table q
  op_now (undo_new made) coins other = point_now made coins (same_point made q) refl other
  op_now (undo_first made spent coin name before) coins other = both_now made spent coins other
  op_now (undo_update made spent coin name before) coins other = both_now made spent coins other

  op_passed : (op : UndoOp) (coins : CoinsByPoint) (b : Bool) → touches q op ≡ b → (b ≡ false → coins q ≡ coins_in table q) → refreshed_op table op coins q ≡ coins_in table q
  op_passed op coins b is other = op_now op coins (λ e. other (sym is ∙ e))

  ops_now : (ops : List UndoOp) (coins : CoinsByPoint) → (list_any (touches q) ops ≡ false → coins q ≡ coins_in table q) → refreshed_ops table ops coins q ≡ coins_in table q
  ops_now [] coins other = other refl
  ops_now (op ∷ ops) coins other =
      ops_now ops (refreshed_op table op coins)
      (λ rest. op_passed op coins (touches q op) refl (λ e. other (or_both (touches q op) (list_any (touches q) ops) e rest)))

  helds_now : (helds : List HeldCoin) (coins : CoinsByPoint) → (list_any (is_held_at q) helds ≡ false → coins q ≡ coins_in table q) → refreshed_helds table helds coins q ≡ coins_in table q
  helds_now [] coins other = other refl
  helds_now (held ∷ helds) coins other =
      helds_now helds (refreshed_point table held.at coins)
      (λ rest. point_now held.at coins (same_point held.at q) refl (λ e. other (or_both (is_held_at q held) (list_any (is_held_at q) helds) e rest)))

pub coins_forth : (table : CoinSlots) (ops : List UndoOp) (helds : List HeldCoin) (maps : Maps) → maps.coins ≡ coins_in table
    → refreshed_helds table helds (refreshed_ops table ops (undone ops helds maps).coins) ≡ coins_in table
coins_forth table ops helds maps is = fun_ext (λ q.
    helds_now table q helds (refreshed_ops table ops (undone ops helds maps).coins)
    (λ not_held. ops_now table q ops (undone ops helds maps).coins
    (λ untouched.
    ops_elsewhere q ops (record { coins = restored helds maps.coins; names = maps.names }) untouched ∙ helds_elsewhere q helds maps.coins not_held ∙ ap (λ (f : CoinsByPoint). f q) is)))

-- ---- names

-- the operation gave the name a value
abbrev gives : List ℕ → UndoOp → Bool
gives q (undo_new made) = false
gives q (undo_first made spent coin name before) = bytes_eq name q
gives q (undo_update made spent coin name before) = bytes_eq name q

other_name : (names : ItemsByName) (name q : List ℕ) (items : List Item) → bytes_eq name q ≡ false → changed bytes_eq names name items q ≡ names q
other_name names name q items e = ap (λ b. cond b items (names q)) e

op_kept : (q : List ℕ) (op : UndoOp) (maps : Maps) → gives q op ≡ false → (back_op op maps).names q ≡ maps.names q
op_kept q (undo_new made) maps e = refl
op_kept q (undo_first made spent coin name before) maps e = other_name maps.names name q (without_entry (maps.names name)) e
op_kept q (undo_update made spent coin name before) maps e = other_name maps.names name q (without_entry (maps.names name)) e

ops_kept : (q : List ℕ) (ops : List UndoOp) (maps : Maps) → list_any (gives q) ops ≡ false → (back_ops ops maps).names q ≡ maps.names q
ops_kept q [] maps e = refl
ops_kept q (op ∷ ops) maps e =
    op_kept q op (back_ops ops maps) (or_left (gives q op) (list_any (gives q) ops) e) ∙ ops_kept q ops maps (or_right (gives q op) (list_any (gives q) ops) e)

-- items that others begin with
abbrev IsFront : List Item → List Item → Type 0
IsFront here there = grown here there ≡ there

front_take : (n : ℕ) (here there : List Item) → IsFront here there → IsFront (take n here) there
front_take zero here there e = refl
front_take (suc n) [] there e = refl
front_take (suc n) (x ∷ here) [] e = absurd (cc e)
front_take (suc n) (x ∷ here) (y ∷ there) e =
    let first : x ≡ y = cc e in
    let rest : here ++ drop (length here) there ≡ there = cc e in
    let taken : take n here ++ drop (length (take n here)) there ≡ there = front_take n here there rest in
    cc (first, taken)

name_front : (names : ItemsByName) (name q : List ℕ) (there : List Item) (b : Bool) → bytes_eq name q ≡ b → IsFront (names q) there → IsFront (changed bytes_eq names name (without_entry (names name)) q) there
name_front names name q there true e front =
    let less = without_entry (names name) in
    let same : changed bytes_eq names name less q ≡ without_entry (names q) = ap (λ b. cond b less (names q)) e ∙ ap (λ (n : List ℕ). without_entry (names n)) (bytes_eq-true name q e) in
    ap (λ (l : List Item). grown l there) same ∙ front_take _ (names q) there front
name_front names name q there false e front = ap (λ (l : List Item). grown l there) (other_name names name q (without_entry (names name)) e) ∙ front

op_front : (q : List ℕ) (op : UndoOp) (maps : Maps) (there : List Item) → IsFront (maps.names q) there → IsFront ((back_op op maps).names q) there
op_front q (undo_new made) maps there front = front
op_front q (undo_first made spent coin name before) maps there front = name_front maps.names name q there (bytes_eq name q) refl front
op_front q (undo_update made spent coin name before) maps there front = name_front maps.names name q there (bytes_eq name q) refl front

ops_front : (q : List ℕ) (ops : List UndoOp) (maps : Maps) (there : List Item) → IsFront (maps.names q) there → IsFront ((back_ops ops maps).names q) there
ops_front q [] maps there front = front
ops_front q (op ∷ ops) maps there front = op_front q op (back_ops ops maps) there (ops_front q ops maps there front)

module _ (table : NameSlots) (q : List ℕ) where
  -- the items are the table's, or will be
  pub record Grows (given : Bool) (names : ItemsByName) : Type 0 where
    pub front : IsFront (names q) (names_in table q)
    pub rest : given ≡ false → names q ≡ names_in table q

  name_grown : (name : List ℕ) (names : ItemsByName) (b : Bool) → bytes_eq name q ≡ b → IsFront (names q) (names_in table q) → (b ≡ false → names q ≡ names_in table q)
      → grown_name name (names_in table name) names q ≡ names_in table q
  name_grown name names true e front other =
      ap (λ b. cond b (grown (names name) (names_in table name)) (names q)) e ∙ ap (λ (n : List ℕ). grown (names n) (names_in table n)) (bytes_eq-true name q e) ∙ front
  name_grown name names false e front other = ap (λ b. cond b (grown (names name) (names_in table name)) (names q)) e ∙ other refl

  still_front : (name : List ℕ) (names : ItemsByName) (b : Bool) → bytes_eq name q ≡ b → IsFront (names q) (names_in table q) → IsFront (grown_name name (names_in table name) names q) (names_in table q)
  still_front name names true e front =
      ap (λ (l : List Item). grown l (names_in table q)) (name_grown name names true e front (λ f. absurd (cc f))) ∙ grown_whole (names_in table q)
  still_front name names false e front = ap (λ (l : List Item). grown l (names_in table q)) (other_name names name q (grown (names name) (names_in table name)) e) ∙ front

  given_name : (name : List ℕ) (names : ItemsByName) (more : Bool) → Grows (bytes_eq name q || more) names → Grows more (grown_name name (names_in table name) names)
  given_name name names more grows = record {
    front = still_front name names (bytes_eq name q) refl grows.front;
    rest = λ none. name_grown name names (bytes_eq name q) refl grows.front (λ e. grows.rest (or_both (bytes_eq name q) more e none));
  }

  given_op : (op : UndoOp) (names : ItemsByName) (more : Bool) → Grows (gives q op || more) names → Grows more (grown_op table op names)
  given_op (undo_new made) names more grows = record { front = grows.front; rest = grows.rest }
  given_op (undo_first made spent coin name before) names more grows = given_name name names more grows
  given_op (undo_update made spent coin name before) names more grows = given_name name names more grows

  ops_grown : (ops : List UndoOp) (names : ItemsByName) → Grows (list_any (gives q) ops) names → grown_ops table ops names q ≡ names_in table q
  ops_grown [] names grows = grows.rest refl
  ops_grown (op ∷ ops) names grows = ops_grown ops (grown_op table op names) (given_op op names (list_any (gives q) ops) grows)

pub names_forth : (table : NameSlots) (ops : List UndoOp) (maps : Maps) → maps.names ≡ names_in table → grown_ops table ops (back_ops ops maps).names ≡ names_in table
names_forth table ops maps is = fun_ext (λ q.
    let here : maps.names q ≡ names_in table q = ap (λ (f : ItemsByName). f q) is in
    ops_grown table q ops (back_ops ops maps).names
    (record {
      front = ops_front q ops maps (names_in table q) (ap (λ (l : List Item). grown l (names_in table q)) here ∙ grown_whole (names_in table q));
      rest = λ none. ops_kept q ops maps none ∙ here;
    }))
