-- Work is undone, operation by operation.
use Rattle.std.proofs.Common.{◌≡◌, ℕ, ◌+◌, ◌≤◌, Bool, true, false, cond, ◌&&◌, List, [], ◌∷◌, ◌++◌, length, refl, sym, ap, subst, ◌∙◌, arith, length-append}
use Rattle.std.specs.Prelude.{Option, Some, None, ◌||◌, ◌==◌}
use Rattle.std.specs.Option.{is_some}
use Rattle.std.specs.List.{list_any, AllByRecursion}
use Rattle.std.proofs.lemmas.Grind.{common_steps}
use Rattle.nmc_base.specs.declared.hashes.OutPoint.{OutPoint}
use Rattle.chain_names.specs.declared.coin.Coin.{Coin}
use Rattle.chain_names.specs.declared.undo.UndoOp.{UndoOp}
use Rattle.chain_names.specs.declared.undo.UndoOp.TheVariants.{New as undo_new}
use Rattle.chain_names.specs.Points.{same_point, changed}
use Rattle.chain_names.specs.Coins.{Maps}
use Rattle.chain_names.specs.Changes.{back_op}
use Rattle.chain_names.specs.Tables.{CoinSlots, coins_in, coin_places, queued_in, queue_places, is_named_at, queue_of, FilledBut, AreNamesFilled}
use Rattle.chain_names.proofs.Points.{same_point-Decides, same_point-comm}
use Rattle.chain_names.proofs.QueueLemmas.{queue_of-still}
use Rattle.chain_names.proofs.Shown.{true_is_not_false}
use Rattle.chain_names.specs.Fits.{IsMadeUnnamed, IsMadeNamed, IsUndoable, AreUndoable}
use Rattle.name_tables.specs.Tables.{maps_by}
use Rattle.name_tables.specs.Places.{spends, spends_at}
use Rattle.chain_state.specs.Work.{HasSpentPlace, HasSpentRow, may_be_empty, may_be_empty_at, IsWork, IsNameUndo}
use Rattle.chain_state.specs.declared.work.Work.{Work}
use Rattle.name_tables.proofs.ListLemmas.{or_left, or_right, or_both, all-less}
use Rattle.chain_state.proofs.WorkLemmas.{list_any-more, fits-less}

-- ---- one point more that may be empty

pub any_point-more : (empty : List OutPoint) (made point : OutPoint) → list_any (same_point point) (empty ++ made ∷ []) ≡ false → (list_any (same_point point) empty ≡ false) × (same_point made point ≡ false)
any_point-more empty made point e =
    let e' = sym (list_any-more (same_point point) empty made) ∙ e in
    (or_left _ _ e', same_point-comm made point ∙ or_right _ _ e')

and_here : (a b c : Bool) → a ≡ true → (a && b) ≡ false → b ≡ false
and_here a b c t e = sym (ap (λ x. x && b) t) ∙ e

and_or_less : (a b c : Bool) → (a && (b || c)) ≡ false → (a && b) ≡ false
and_or_less false b c e = refl
and_or_less true b c e = or_left b c e

pub row_empty-less : (made height : ℕ) (ops : List UndoOp) (empty : List OutPoint) (at point : OutPoint)
    → may_be_empty_at made ops (empty ++ at ∷ []) height point ≡ false
    → (list_any (spends_at height point) ops ≡ false) × (((made == height) && list_any (same_point point) empty) ≡ false) × ((made == height) ≡ true → same_point at point ≡ false)
row_empty-less made height ops empty at point e =
    let here = or_right (list_any (spends_at height point) ops) _ e in
    let split = ap (λ b. (made == height) && b) (sym (list_any-more (same_point point) empty at)) ∙ here in (
      or_left _ _ e,
      and_or_less (made == height) (list_any (same_point point) empty) (same_point point at) split,
      λ t. same_point-comm at point ∙ or_right _ _ (and_here _ _ false t split),
    )

-- The last operation was taken off the list, and the tables hold what they held before it. The outpoint that it made may be
-- empty from now on.
pub record IsUndone (w now : Work) (op : UndoOp) (made : OutPoint) : Type 0 where
  pub work : IsWork w
  pub ops_were : w.ops.items ≡ now.ops.items ++ op ∷ []
  pub empty_is : now.empty.items ≡ w.empty.items ++ made ∷ []
  pub spare_is : now.empty.spare + 1 ≡ w.empty.spare
  pub height : now.height ≡ w.height
  pub places : coin_places now.tables.coins ≡ coin_places w.tables.coins
  pub rows : queue_places now.tables.queue ≡ queue_places w.tables.queue
  pub queue : queued_in now.tables.queue ≡ queue_of (coins_in now.tables.coins)
  pub names_filled : AreNamesFilled now.tables.names
  pub maps : maps_by now.tables ≡ back_op op (maps_by w.tables)

-- the last operation could be undone, and the others fit the maps before it
pub last_fits : (w : Work) (rest : List UndoOp) (op : UndoOp) → IsWork w → w.ops.items ≡ rest ++ op ∷ []
    → AreUndoable w.height rest (back_op op (maps_by w.tables)) × IsUndoable w.height op (maps_by w.tables)
last_fits w rest op work ops_were = fits-less w.height rest op (maps_by w.tables) (subst (λ os. AreUndoable w.height os (maps_by w.tables)) ops_were work.fits)

module _ (w now : Work) (op : UndoOp) (made : OutPoint) (u : IsUndone w now op made) where
  back_fits : AreUndoable w.height now.ops.items (maps_by now.tables)
  back_fits = subst (AreUndoable w.height now.ops.items) (sym u.maps) (last_fits w now.ops.items op u.work u.ops_were).0

  back_places : AllByRecursion (HasSpentPlace now.tables) now.ops.items
  back_places =
      subst (λ places. AllByRecursion (λ o. (point : OutPoint) → spends point o ≡ true → places point ≡ true) now.ops.items) (sym u.places)
      (all-less (HasSpentPlace w.tables) now.ops.items op (subst (AllByRecursion (HasSpentPlace w.tables)) u.ops_were u.work.spent_placed))

  back_rows : AllByRecursion (HasSpentRow now.tables) now.ops.items
  back_rows =
      subst (λ rows. AllByRecursion (λ o. (height : ℕ) (point : OutPoint) → spends_at height point o ≡ true → rows height point ≡ true) now.ops.items) (sym u.rows)
      (all-less (HasSpentRow w.tables) now.ops.items op (subst (AllByRecursion (HasSpentRow w.tables)) u.ops_were u.work.spent_rows))

  -- a coin's place that was filled before is so unless the point made is there
  was_filled : (point : OutPoint) → coin_places now.tables.coins point ≡ true → spends point op ≡ false → may_be_empty now.ops.items now.empty.items point ≡ false
      → (is_some (coins_in w.tables.coins point) ≡ true) × (same_point made point ≡ false)
  was_filled point here other free =
      let both = ap (λ es. may_be_empty now.ops.items es point) (sym u.empty_is) ∙ free in
      let any = any_point-more w.empty.items made point (or_right (list_any (spends point) now.ops.items) _ both) in
      let before = ap (λ os. may_be_empty os w.empty.items point) u.ops_were ∙ ap (λ b. b || list_any (same_point point) w.empty.items) (list_any-more (spends point) now.ops.items op)
      ∙ or_both _ _ (or_both _ _ (or_left _ _ both) other) any.0 in
      (u.work.coins_filled point (ap (λ f. f point) (sym u.places) ∙ here) before, any.1)

  -- and a row's
  was_queued : (height : ℕ) (point : OutPoint) → queue_places now.tables.queue height point ≡ true → spends_at height point op ≡ false
      → may_be_empty_at w.height now.ops.items now.empty.items height point ≡ false
      → (is_named_at height (coins_in w.tables.coins point) ≡ true) × ((w.height == height) ≡ true → same_point made point ≡ false)
  was_queued height point here other free =
      let both = ap (λ es. may_be_empty_at w.height now.ops.items es height point) (sym u.empty_is) ∙ free in
      let any = row_empty-less w.height height now.ops.items w.empty.items made point both in
      let before = ap (λ os. may_be_empty_at w.height os w.empty.items height point) u.ops_were
      ∙ ap (λ b. b || ((w.height == height) && list_any (same_point point) w.empty.items)) (list_any-more (spends_at height point) now.ops.items op)
      ∙ or_both _ _ (or_both _ _ any.0 other) any.1 in (
        ap (λ q. q height point) (sym u.work.queue) ∙ u.work.queue_filled height point (ap (λ f. f height point) (sym u.rows) ∙ here) before,
        any.2,
      )

  back_room : length now.ops.items + 1 ≤ now.empty.spare
  back_room = grind (arith, common_steps, ap length u.ops_were, length-append now.ops.items (op ∷ []), u.work.room, u.spare_is)

  pub back_work : FilledBut (may_be_empty now.ops.items now.empty.items) (coin_places now.tables.coins) (λ point. is_some (coins_in now.tables.coins point))
      → ((height : ℕ) → FilledBut (may_be_empty_at w.height now.ops.items now.empty.items height) (queue_places now.tables.queue height) (queued_in now.tables.queue height)) → IsWork now
  back_work coins_filled queue_filled =
      subst (λ h. IsWork (record { tables = now.tables; ops = now.ops; empty = now.empty; height = h })) (sym u.height)
      (record {
        queue = u.queue;
        fits = back_fits;
        spent_placed = back_places;
        spent_rows = back_rows;
        coins_filled = coins_filled;
        queue_filled = queue_filled;
        names_filled = u.names_filled;
        room = back_room;
      })

-- ---- a commitment is taken back

none_left : (b : Bool) (c : Option Coin) → b ≡ false → is_some c ≡ true → is_some (cond b None c) ≡ true
none_left b c e here = rw e here

-- the queue has no commitments
pub uncommitted_queue : (w : Work) (rest : List UndoOp) (made : OutPoint) (coins : CoinSlots) → IsWork w → w.ops.items ≡ rest ++ undo_new made ∷ []
    → coins_in coins ≡ changed same_point (coins_in w.tables.coins) made None → queued_in w.tables.queue ≡ queue_of (coins_in coins)
uncommitted_queue w rest made coins work ops_were coins_are =
    let made_new : IsMadeUnnamed made (maps_by w.tables) = (last_fits w rest (undo_new made) work ops_were).1 in
    work.queue
    ∙ sym (queue_of-still (coins_in w.tables.coins) made None (λ u. ap (is_named_at u) made_new.held ∙ made_new.unnamed u) (λ u. refl))
    ∙ ap queue_of (sym coins_are)

module _ (w now : Work) (made : OutPoint) (u : IsUndone w now (undo_new made) made) where
  coins_left : coins_in now.tables.coins ≡ changed same_point (coins_in w.tables.coins) made None
  coins_left = ap (λ (m : Maps). m.coins) u.maps

  made_new : IsMadeUnnamed made (maps_by w.tables)
  made_new = (last_fits w now.ops.items (undo_new made) u.work u.ops_were).1

  uncommitted_row : (height : ℕ) (point : OutPoint) → is_named_at height (coins_in w.tables.coins point) ≡ true → (b : Bool) → same_point made point ≡ b
      → is_named_at height (cond b None (coins_in w.tables.coins point)) ≡ true
  uncommitted_row height point named true is =
      let held = ap (coins_in w.tables.coins) (sym ((same_point-Decides made point).0 is)) ∙ made_new.held in
      absurd (true_is_not_false (sym named ∙ ap (is_named_at height) held ∙ made_new.unnamed height))
  uncommitted_row height point named false is = named

  pub uncommitted_work : IsWork now
  uncommitted_work =
      back_work w now (undo_new made) made u
      (λ point here free.
      let was = was_filled w now (undo_new made) made u point here refl free in
      ap (λ f. is_some (f point)) coins_left ∙ none_left (same_point made point) _ was.1 was.0)
      (λ height point here free.
      let was = was_queued w now (undo_new made) made u height point here refl free in
      ap (λ q. q height point) u.queue ∙ ap (λ f. is_named_at height (f point)) coins_left
      ∙ uncommitted_row height point was.0 (same_point made point) refl)

-- ---- a name moves back

back_filled : (coins : OutPoint → Option Coin) (made spent point : OutPoint) (coin : Coin) (b : Bool) → same_point spent point ≡ b
    → (b ≡ false → (is_some (coins point) ≡ true) × (same_point made point ≡ false))
    → is_some (cond b (Some coin) (changed same_point coins made None point)) ≡ true
back_filled coins made spent point coin true is was = refl
back_filled coins made spent point coin false is was = none_left (same_point made point) (coins point) (was refl).1 (was refl).0

-- the operation that is undone moved a name, and its coin was spent
pub record IsUnmoved (w now : Work) : Type 0 where
  pub made : OutPoint
  pub spent : OutPoint
  pub coin : Coin
  pub name : List ℕ
  pub op : UndoOp
  pub is_undo : IsNameUndo w.height op made spent coin name
  pub undone : IsUndone w now op made

module _ (w now : Work) (m : IsUnmoved w now) where
  coins_back : coins_in now.tables.coins ≡ changed same_point (changed same_point (coins_in w.tables.coins) m.made None) m.spent (Some m.coin)
  coins_back = ap (λ (x : Maps). x.coins) (m.undone.maps ∙ m.is_undo.back (maps_by w.tables))

  made_named : IsMadeNamed w.height m.made m.spent (maps_by w.tables)
  made_named = m.is_undo.fits (maps_by w.tables) (last_fits w now.ops.items m.op m.undone.work m.undone.ops_were).1

  -- a row at another outpoint than the one that was spent
  unmoved_elsewhere : (height : ℕ) (point : OutPoint) → is_named_at height (coins_in w.tables.coins point) ≡ true
      → ((w.height == height) ≡ true → same_point m.made point ≡ false) → (b : Bool) → same_point m.made point ≡ b
      → is_named_at height (cond b None (coins_in w.tables.coins point)) ≡ true
  unmoved_elsewhere height point named other true is =
      let held = ap (coins_in w.tables.coins) (sym ((same_point-Decides m.made point).0 is)) ∙ made_named.held in
      absurd (true_is_not_false (sym is ∙ other (sym (ap (is_named_at height) held) ∙ named)))
  unmoved_elsewhere height point named other false is = named

  -- the row at the one that was spent
  unmoved_spent : (height : ℕ) (point : OutPoint) → m.spent ≡ point
      → ((is_named_at height (Some m.coin) ≡ false) → is_named_at height (coins_in w.tables.coins point) ≡ true) → (b : Bool) → is_named_at height (Some m.coin) ≡ b → b ≡ true
  unmoved_spent height point same was true is = refl
  unmoved_spent height point same was false is =
      absurd (true_is_not_false (sym (was is) ∙ ap (λ p. is_named_at height (coins_in w.tables.coins p)) (sym same) ∙ ap (is_named_at height) made_named.free))

  abbrev Was : (height : ℕ) (point : OutPoint) → Type 0
  Was height point = spends_at height point m.op ≡ false → (is_named_at height (coins_in w.tables.coins point) ≡ true) × ((w.height == height) ≡ true → same_point m.made point ≡ false)

  unmoved_row : (height : ℕ) (point : OutPoint) → Was height point → (b : Bool) → same_point m.spent point ≡ b
      → is_named_at height (cond b (Some m.coin) (changed same_point (coins_in w.tables.coins) m.made None point)) ≡ true
  unmoved_row height point was true is =
      unmoved_spent height point ((same_point-Decides m.spent point).0 is)
      (λ free. (was (m.is_undo.spends_at height point ∙ ap (λ x. x && same_point m.spent point) free)).0) (is_named_at height (Some m.coin)) refl
  unmoved_row height point was false is =
      let h = was (m.is_undo.spends_at height point ∙ ap (λ x. is_named_at height (Some m.coin) && x) is ∙ and_no (is_named_at height (Some m.coin))) in
      unmoved_elsewhere height point h.0 h.1 (same_point m.made point) refl
    where
      and_no : (x : Bool) → (x && false) ≡ false
      and_no true = refl
      and_no false = refl

  pub unmoved_work : IsWork now
  unmoved_work =
      back_work w now m.op m.made m.undone
      (λ point here free.
      ap (λ f. is_some (f point)) coins_back
      ∙ back_filled (coins_in w.tables.coins) m.made m.spent point m.coin (same_point m.spent point) refl
      (λ other. was_filled w now m.op m.made m.undone point here (m.is_undo.spends point ∙ other) free))
      (λ height point here free.
      ap (λ q. q height point) m.undone.queue ∙ ap (λ f. is_named_at height (f point)) coins_back
      ∙ unmoved_row height point (λ other. was_queued w now m.op m.made m.undone height point here other free)
      (same_point m.spent point) refl)
