-- A name moves from one outpoint to another.
use Rattle.std.proofs.Common.{◌≡◌, ℕ, ◌+◌, ◌≤◌, Bool, true, false, cond, ◌&&◌, List, [], ◌∷◌, ◌++◌, length, refl, sym, ap, subst, ◌∙◌}
use Rattle.std.specs.Prelude.{Option, Some, None, ◌||◌, ◌==◌, nat_eq}
use Rattle.std.specs.Option.{is_some}
use Rattle.std.specs.List.{list_any, AllByRecursion}
use Rattle.std.specs.Str.{bytes_eq}
use Rattle.std.specs.Cmp.{unsigned_Decides}
use Rattle.nmc_base.specs.declared.hashes.OutPoint.{OutPoint}
use Rattle.nmc_base.proofs.ListLemmas.{all-more, all-weaker}
use Rattle.chain_names.specs.declared.coin.Coin.{Coin}
use Rattle.chain_names.specs.declared.coin.Item.{Item}
use Rattle.chain_names.specs.declared.coin.Coin.TheVariants.{Named}
use Rattle.chain_names.specs.declared.undo.UndoOp.{UndoOp}
use Rattle.chain_names.specs.Points.{same_point, changed}
use Rattle.chain_names.specs.Coins.{entry_of}
use Rattle.chain_names.specs.Changes.{moved, back_op}
use Rattle.chain_names.specs.Tables.{coins_in, coin_places, names_in, name_places, queued_in, queue_places, is_named_at, FilledBut, AreNamesFilled}
use Rattle.chain_names.proofs.Changed.{changed_at, changed_mapped}
use Rattle.chain_names.proofs.Points.{same_point-Decides}
use Rattle.chain_names.proofs.HistoryLemmas.{entry_of-more}
use Rattle.chain_names.proofs.Filled.{filled-weaker, filled-taken}
use Rattle.chain_names.proofs.Shown.{true_is_not_false}
use Rattle.chain_names.proofs.UndoLemmas.{moved_and_back}
use Rattle.chain_names.specs.Fits.{AreUndoable}
use Rattle.name_tables.specs.Tables.{maps_by}
use Rattle.name_tables.specs.Places.{spends, spends_at}
use Rattle.name_tables.specs.declared.moving.Shift.{Shift}
use Rattle.name_tables.specs.Moving.{Shifts}
use Rattle.chain_state.specs.Work.{HasSpentPlace, HasSpentRow, may_be_empty, may_be_empty_at, IsWork, Advances, IsNameUndo}
use Rattle.chain_state.specs.declared.work.Work.{Work}
use Rattle.name_tables.proofs.ListLemmas.{or_left, or_right}
use Rattle.name_tables.proofs.PlaceLemmas.{place-kept, coin-placed, queued-placed, rows-kept}
use Rattle.chain_state.proofs.WorkLemmas.{list_any-more, fits-more, empty-weaker, empty_at-weaker, filled-made}

-- ---- booleans

and_left : (a b : Bool) → (a && b) ≡ true → a ≡ true
and_left true b e = refl
and_left false b e = e

and_right : (a b : Bool) → (a && b) ≡ true → b ≡ true
and_right true b e = e
and_right false b e = absurd (true_is_not_false (sym e))

skipped : {A : Type 0} (b : Bool) (x y : A) → b ≡ false → cond b x y ≡ y
skipped b x y e = rw e refl

pub points_apart : (coins : OutPoint → Option Coin) (a b : OutPoint) (coin : Coin) → coins a ≡ None → coins b ≡ Some coin → (same : Bool) → same_point a b ≡ same → same ≡ false
points_apart coins a b coin none some true is =
    let none_is_some : None ≡ Some coin = sym none ∙ ap coins ((same_point-Decides a b).0 is) ∙ some in
    absurd cc
points_apart coins a b coin none some false is = refl

-- ---- a row of the queue after a move

-- the place was there before, or is the one made
row_before : (rows : ℕ → OutPoint → Bool) (u v : ℕ) (k q : OutPoint) → same_point k q ≡ false
    → changed nat_eq rows u (changed same_point (rows u) k true) v q ≡ true → rows v q ≡ true
row_before rows u v k q other e = by_row (u == v) refl e
  where
    in_row : (b : Bool) → b ≡ false → cond b true (rows u q) ≡ true → rows u q ≡ true
    in_row true is here = absurd (true_is_not_false is)
    in_row false is here = here

    by_row : (b : Bool) → (u == v) ≡ b → cond {A = OutPoint → Bool} b (changed same_point (rows u) k true) (rows v) q ≡ true → rows v q ≡ true
    by_row true is here = sym (ap (λ n. rows n q) ((unsigned_Decides u v).0 is)) ∙ in_row (same_point k q) other here
    by_row false is here = here

row_elsewhere : (rows : ℕ → OutPoint → Bool) (u v : ℕ) (k q : OutPoint) → (u == v) ≡ false
    → changed nat_eq rows u (changed same_point (rows u) k true) v q ≡ true → rows v q ≡ true
row_elsewhere rows u v k q other e = by_row (u == v) other e
  where
    by_row : (b : Bool) → b ≡ false → cond {A = OutPoint → Bool} b (changed same_point (rows u) k true) (rows v) q ≡ true → rows v q ≡ true
    by_row true is here = absurd (true_is_not_false is)
    by_row false is here = here

-- at another outpoint than the one that is made
row_of_other : (coins : OutPoint → Option Coin) (v : ℕ) (spent q : OutPoint) (coin : Coin) (b : Bool) → same_point spent q ≡ b
    → coins spent ≡ Some coin → (is_named_at v (Some coin) && b) ≡ false → is_named_at v (coins q) ≡ true → is_named_at v (cond b None (coins q)) ≡ true
row_of_other coins v spent q coin true is held free named =
    let same = (same_point-Decides spent q).0 is in
    let also : is_named_at v (Some coin) ≡ true = ap (is_named_at v) (sym held) ∙ ap (λ p. is_named_at v (coins p)) same ∙ named in
    absurd (true_is_not_false (sym (ap (λ x. x && true) also) ∙ free))
row_of_other coins v spent q coin false is held free named = named

-- ---- a move

-- the value that a block of a height gives a name
abbrev pub given_item : ℕ → ℕ → OutPoint → List ℕ → Item
given_item height registered made value = record { height = height; registered = registered; at = made; value = value }

-- a name moved on the tables, and the operation that undoes it was noted
pub record IsMove (w now : Work) : Type 0 where
  pub op : UndoOp
  pub made : OutPoint
  pub spent : OutPoint
  pub name : List ℕ
  pub value : List ℕ
  pub registered : ℕ
  pub left : Shift
  pub work : IsWork w
  pub fresh : coins_in w.tables.coins made ≡ None
  pub is_undo : IsNameUndo w.height op made spent left.coin name
  pub shifts : Shifts w.tables now.tables spent name (given_item w.height registered made value) left
  pub ops_are : now.ops.items ≡ w.ops.items ++ op ∷ []
  pub empty_is : now.empty.items ≡ w.empty.items
  pub height : now.height ≡ w.height
  pub room : length now.ops.items + 1 ≤ now.empty.spare

module _ (w now : Work) (m : IsMove w now) where
  move_maps : maps_by now.tables ≡ moved (maps_by w.tables) m.spent m.name (given_item w.height m.registered m.made m.value)
  move_maps = λ i. record { coins = m.shifts.coins i; names = m.shifts.names i }

  move_back : back_op m.op (maps_by now.tables) ≡ maps_by w.tables
  move_back =
      ap (back_op m.op) move_maps ∙ m.is_undo.back (moved (maps_by w.tables) m.spent m.name (given_item w.height m.registered m.made m.value))
      ∙ moved_and_back (maps_by w.tables) m.spent m.name (given_item w.height m.registered m.made m.value) m.left.coin m.fresh m.shifts.held

  apart : same_point m.made m.spent ≡ false
  apart = points_apart (coins_in w.tables.coins) m.made m.spent m.left.coin m.fresh m.shifts.held (same_point m.made m.spent) refl

  spent_free : coins_in now.tables.coins m.spent ≡ None
  spent_free =
      ap (λ f. f m.spent) m.shifts.coins
      ∙ skipped (same_point m.made m.spent) _ _ apart
      ∙ changed_at same_point-Decides (coins_in w.tables.coins) m.spent None

  made_there : coins_in now.tables.coins m.made ≡ Some (Named m.name w.height)
  made_there =
      ap (λ f. f m.made) m.shifts.coins
      ∙ changed_at same_point-Decides (changed same_point (coins_in w.tables.coins) m.spent None) m.made (Some (Named m.name w.height))

  move_fits : AreUndoable w.height now.ops.items (maps_by now.tables)
  move_fits =
      subst (λ os. AreUndoable w.height os (maps_by now.tables)) (sym m.ops_are)
      (fits-more w.height w.ops.items m.op (maps_by now.tables)
      (subst (AreUndoable w.height w.ops.items) (sym move_back) m.work.fits)
      (m.is_undo.allows (maps_by now.tables) (record { name = m.name; held = made_there; free = spent_free })))

  -- ---- places

  place_stays : (o : UndoOp) → HasSpentPlace w.tables o → HasSpentPlace now.tables o
  place_stays o has point is = ap (λ f. f point) m.shifts.places ∙ place-kept (coin_places w.tables.coins) m.made point (has point is)

  row_stays : (o : UndoOp) → HasSpentRow w.tables o → HasSpentRow now.tables o
  row_stays o has height point is = ap (λ f. f height point) m.shifts.rows ∙ rows-kept (queue_places w.tables.queue) w.height height m.made point (has height point is)

  op_place : HasSpentPlace w.tables m.op
  op_place point is =
      let same = (same_point-Decides m.spent point).0 (sym (m.is_undo.spends point) ∙ is) in
      coin-placed w.tables.coins point m.left.coin (ap (coins_in w.tables.coins) (sym same) ∙ m.shifts.held)

  op_row : HasSpentRow w.tables m.op
  op_row height point is =
      let both = sym (m.is_undo.spends_at height point) ∙ is in
      let same = (same_point-Decides m.spent point).0 (and_right _ _ both) in
      queued-placed w.tables.queue height point
      (ap (λ q. q height point) m.work.queue ∙ ap (λ p. is_named_at height (coins_in w.tables.coins p)) (sym same) ∙ ap (is_named_at height) m.shifts.held ∙ and_left _ _ both)

  move_places : AllByRecursion (HasSpentPlace now.tables) now.ops.items
  move_places =
      subst (AllByRecursion (HasSpentPlace now.tables)) (sym m.ops_are)
      (all-more (HasSpentPlace now.tables) w.ops.items m.op
      (all-weaker (HasSpentPlace w.tables) (HasSpentPlace now.tables) w.ops.items place_stays m.work.spent_placed)
      (place_stays m.op op_place))

  move_rows : AllByRecursion (HasSpentRow now.tables) now.ops.items
  move_rows =
      subst (AllByRecursion (HasSpentRow now.tables)) (sym m.ops_are)
      (all-more (HasSpentRow now.tables) w.ops.items m.op
      (all-weaker (HasSpentRow w.tables) (HasSpentRow now.tables) w.ops.items row_stays m.work.spent_rows)
      (row_stays m.op op_row))

  abbrev Held : OutPoint → Bool
  Held = λ point. is_some (coins_in w.tables.coins point)

  move_held : (λ point. is_some (coins_in now.tables.coins point)) ≡ changed same_point (changed same_point Held m.spent false) m.made true
  move_held =
      ap (λ f. λ point. is_some (f point)) m.shifts.coins
      ∙ changed_mapped same_point is_some (changed same_point (coins_in w.tables.coins) m.spent None) m.made (Some (Named m.name w.height))
      ∙ ap (λ f. changed same_point f m.made true) (changed_mapped same_point is_some (coins_in w.tables.coins) m.spent None)

  not_spent : (point : OutPoint) (b : Bool) → may_be_empty w.ops.items w.empty.items point ≡ false → b ≡ false → cond b true (may_be_empty w.ops.items w.empty.items point) ≡ false
  not_spent point b free e = rw e free

  empty_free : (point : OutPoint) → may_be_empty (w.ops.items ++ m.op ∷ []) w.empty.items point ≡ false
      → changed same_point (may_be_empty w.ops.items w.empty.items) m.spent true point ≡ false
  empty_free point e =
      let e' = sym (ap (λ b. b || list_any (same_point point) w.empty.items) (list_any-more (spends point) w.ops.items m.op)) ∙ e in
      not_spent point (same_point m.spent point) (empty-weaker w.ops.items m.op w.empty.items point e) (sym (m.is_undo.spends point) ∙ or_right _ _ (or_left _ _ e'))

  move_filled : FilledBut (may_be_empty now.ops.items now.empty.items) (coin_places now.tables.coins) (λ point. is_some (coins_in now.tables.coins point))
  move_filled =
      rw m.ops_are
      (rw m.empty_is
      (subst (λ places. FilledBut (may_be_empty (w.ops.items ++ m.op ∷ []) w.empty.items) places (λ point. is_some (coins_in now.tables.coins point))) (sym m.shifts.places)
      (subst (λ held. FilledBut (may_be_empty (w.ops.items ++ m.op ∷ []) w.empty.items) (changed same_point (coin_places w.tables.coins) m.made true) held) (sym move_held)
      (filled-weaker _ _ _ _ empty_free
      (filled-made _ _ _ m.made (filled-taken same_point-Decides (may_be_empty w.ops.items w.empty.items) (coin_places w.tables.coins) Held m.spent m.work.coins_filled))))))

  -- ---- names

  name_filled : (n : List ℕ) (b : Bool)
      → cond b true (name_places w.tables.names n) ≡ is_some (entry_of (cond b (names_in w.tables.names m.name ++ (given_item w.height m.registered m.made m.value) ∷ []) (names_in w.tables.names n)))
  name_filled n true = sym (ap is_some (entry_of-more (names_in w.tables.names m.name) (given_item w.height m.registered m.made m.value)))
  name_filled n false = m.work.names_filled n

  move_names : AreNamesFilled now.tables.names
  move_names n = ap (λ f. f n) m.shifts.name_places ∙ name_filled n (bytes_eq m.name n) ∙ ap (λ f. is_some (entry_of (f n))) (sym m.shifts.names)

  -- ---- the queue

  abbrev Rows : ℕ → OutPoint → Bool
  Rows = queue_places w.tables.queue

  -- the place was there before, or is the one made
  abbrev IsPlacedNow : ℕ → OutPoint → Type 0
  IsPlacedNow height point = changed nat_eq Rows w.height (changed same_point (Rows w.height) m.made true) height point ≡ true

  abbrev WasQueued : ℕ → OutPoint → Type 0
  WasQueued height point = Rows height point ≡ true → is_named_at height (coins_in w.tables.coins point) ≡ true

  -- at the outpoint that is made
  row_of_made : (height : ℕ) (point : OutPoint) → m.made ≡ point → WasQueued height point → IsPlacedNow height point → (b : Bool) → (w.height == height) ≡ b
      → is_named_at height (Some (Named m.name w.height)) ≡ true
  row_of_made height point same filled here true is = is
  row_of_made height point same filled here false is =
      let named = filled (row_elsewhere Rows w.height height m.made point is here) in
      absurd (true_is_not_false (sym named ∙ ap (λ p. is_named_at height (coins_in w.tables.coins p)) (sym same) ∙ ap (is_named_at height) m.fresh))

  row_of_either : (height : ℕ) (point : OutPoint) → (is_named_at height (Some m.left.coin) && same_point m.spent point) ≡ false → WasQueued height point → IsPlacedNow height point
      → (b : Bool) → same_point m.made point ≡ b → is_named_at height (cond b (Some (Named m.name w.height)) (changed same_point (coins_in w.tables.coins) m.spent None point)) ≡ true
  row_of_either height point free filled here true is = row_of_made height point ((same_point-Decides m.made point).0 is) filled here (w.height == height) refl
  row_of_either height point free filled here false is =
      row_of_other (coins_in w.tables.coins) height m.spent point m.left.coin (same_point m.spent point) refl m.shifts.held free (filled (row_before Rows w.height height m.made point is here))

  row_filled : (height : ℕ) → FilledBut (may_be_empty_at w.height now.ops.items now.empty.items height) (queue_places now.tables.queue height) (queued_in now.tables.queue height)
  row_filled height point here free =
      let free' = ap (λ os. may_be_empty_at w.height os now.empty.items height point) (sym m.ops_are) ∙ free in
      let both = ap (λ es. may_be_empty_at w.height (w.ops.items ++ m.op ∷ []) es height point) (sym m.empty_is) ∙ free' in
      let any = sym (ap (λ b. b || ((w.height == height) && list_any (same_point point) w.empty.items)) (list_any-more (spends_at height point) w.ops.items m.op)) ∙ both in
      ap (λ q. q height point) m.shifts.queue
      ∙ ap (λ f. is_named_at height (f point)) m.shifts.coins
      ∙ row_of_either height point
      (sym (m.is_undo.spends_at height point) ∙ or_right _ _ (or_left _ _ any))
      (λ placed. ap (λ q. q height point) (sym m.work.queue) ∙ m.work.queue_filled height point placed (empty_at-weaker w.height w.ops.items m.op w.empty.items height point both))
      (ap (λ r. r height point) (sym m.shifts.rows) ∙ here) (same_point m.made point) refl

  pub move_advances : Advances w now (m.op ∷ []) (moved (maps_by w.tables) m.spent m.name (given_item w.height m.registered m.made m.value))
  move_advances = record {
    maps = move_maps;
    ops = m.ops_are;
    height = m.height;
    empty = m.empty_is;
    work = subst (λ h. IsWork (record { tables = now.tables; ops = now.ops; empty = now.empty; height = h })) (sym m.height)
        (record {
          queue = m.shifts.queue;
          fits = move_fits;
          spent_placed = move_places;
          spent_rows = move_rows;
          coins_filled = move_filled;
          queue_filled = row_filled;
          names_filled = move_names;
          room = m.room;
        });
  }
