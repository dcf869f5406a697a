-- Work goes on, operation by operation.
use Rattle.std.proofs.Common.{◌≡◌, ℕ, ◌+◌, ◌≤◌, Bool, true, false, cond, ◌&&◌, List, [], ◌∷◌, ◌++◌, length, refl, sym, ap, subst, ◌∙◌, arith}
use Rattle.std.specs.Prelude.{Some, None, ◌||◌, ◌==◌}
use Rattle.std.specs.Option.{is_some}
use Rattle.std.specs.List.{list_any, AllByRecursion}
use Rattle.std.proofs.lemmas.Grind.{common_steps}
use Rattle.nmc_base.specs.declared.hashes.OutPoint.{OutPoint}
use Rattle.chain_names.specs.declared.coin.Coin.TheVariants.{New}
use Rattle.chain_names.specs.declared.undo.UndoOp.{UndoOp}
use Rattle.chain_names.specs.declared.undo.UndoOp.TheVariants.{New as undo_new}
use Rattle.chain_names.specs.Points.{same_point, changed}
use Rattle.chain_names.specs.Coins.{Maps}
use Rattle.chain_names.specs.Changes.{back_op}
use Rattle.chain_names.specs.Tables.{CoinSlots, coins_in, coin_places, names_in, queued_in, queue_places, is_named_at, queue_of, FilledBut}
use Rattle.nmc_base.specs.Roomy.{Roomy}
use Rattle.nmc_base.specs.declared.hashes.Hash20.{Hash20}
use Rattle.nmc_base.proofs.ListLemmas.{all-more, all-weaker}
use Rattle.chain_names.proofs.Changed.{changed_at, changed_back, changed_mapped}
use Rattle.chain_names.proofs.Points.{same_point-Decides}
use Rattle.chain_names.proofs.QueueLemmas.{queue_of-still}
use Rattle.chain_names.proofs.Filled.{filled-weaker}
use Rattle.chain_names.proofs.Shown.{true_is_not_false}
use Rattle.chain_names.proofs.UndoLemmas.{back_ops-append}
use Rattle.chain_names.specs.Fits.{IsUndoable, AreUndoable}
use Rattle.name_tables.specs.Tables.{maps_by}
use Rattle.name_tables.specs.Places.{spends, spends_at}
use Rattle.chain_state.specs.Work.{HasSpentPlace, HasSpentRow, may_be_empty, may_be_empty_at, IsWork, Advances, with_commitment}
use Rattle.chain_state.specs.declared.work.Work.{Work}
use Rattle.name_tables.proofs.ListLemmas.{or_both, or_left, or_right}
use Rattle.name_tables.proofs.PlaceLemmas.{place-kept}

-- ---- lists with one item more

pub list_any-more : {A : Type 0} (test : A → Bool) (xs : List A) (x : A) → list_any test (xs ++ x ∷ []) ≡ (list_any test xs || test x)
list_any-more test [] x = grind (arith, common_steps)
list_any-more test (y ∷ ys) x = grind (arith, common_steps, list_any-more test ys x)

pub fits-more : (height : ℕ) (ops : List UndoOp) (op : UndoOp) (maps : Maps) → AreUndoable height ops (back_op op maps) → IsUndoable height op maps → AreUndoable height (ops ++ op ∷ []) maps
fits-more height [] op maps fits here = (tt, here)
fits-more height (first ∷ ops) op maps fits here =
    (fits-more height ops op maps fits.0 here, subst (IsUndoable height first) (sym (back_ops-append ops (op ∷ []) maps)) fits.1)

-- the last operation fits, and the others fit the maps before it
pub fits-less : (height : ℕ) (ops : List UndoOp) (op : UndoOp) (maps : Maps) → AreUndoable height (ops ++ op ∷ []) maps → AreUndoable height ops (back_op op maps) × IsUndoable height op maps
fits-less height [] op maps fits = (tt, fits.1)
fits-less height (first ∷ ops) op maps fits =
    let rest = fits-less height ops op maps fits.0 in
    ((rest.0, subst (IsUndoable height first) (back_ops-append ops (op ∷ []) maps) fits.1), rest.1)

-- ---- places that may be empty

pub empty-weaker : (ops : List UndoOp) (op : UndoOp) (empty : List OutPoint) (point : OutPoint) → may_be_empty (ops ++ op ∷ []) empty point ≡ false → may_be_empty ops empty point ≡ false
empty-weaker ops op empty point e =
    let e' = sym (ap (λ b. b || list_any (same_point point) empty) (list_any-more (spends point) ops op)) ∙ e in
    or_both _ _ (or_left _ _ (or_left _ _ e')) (or_right (list_any (spends point) ops || spends point op) _ e')

pub empty_at-weaker : (made : ℕ) (ops : List UndoOp) (op : UndoOp) (empty : List OutPoint) (height : ℕ) (point : OutPoint)
    → may_be_empty_at made (ops ++ op ∷ []) empty height point ≡ false → may_be_empty_at made ops empty height point ≡ false
empty_at-weaker made ops op empty height point e =
    let e' = sym (ap (λ b. b || ((made == height) && list_any (same_point point) empty)) (list_any-more (spends_at height point) ops op)) ∙ e in
    or_both _ _ (or_left _ _ (or_left _ _ e')) (or_right (list_any (spends_at height point) ops || spends_at height point op) _ e')

-- ---- a commitment

-- a place that is made and filled
made_at_filled : (touched places held : OutPoint → Bool) (k q : OutPoint) (b : Bool) → FilledBut touched places held
    → cond b true (places q) ≡ true → touched q ≡ false → cond b true (held q) ≡ true
made_at_filled touched places held k q true filled here free = refl
made_at_filled touched places held k q false filled here free = filled q here free

pub filled-made : (touched places held : OutPoint → Bool) (k : OutPoint) → FilledBut touched places held
    → FilledBut touched (changed same_point places k true) (changed same_point held k true)
filled-made touched places held k filled q = made_at_filled touched places held k q (same_point k q) filled

-- a commitment was put into the tables, and the operation that undoes it was noted
pub record IsCommit (w : Work) (coins : CoinSlots) (ops : Roomy UndoOp) (empty : Roomy OutPoint) : Type 0 where
  pub made : OutPoint
  pub hash : Hash20
  pub work : IsWork w
  pub fresh : coins_in w.tables.coins made ≡ None
  pub coins_are : coins_in coins ≡ changed same_point (coins_in w.tables.coins) made (Some (New hash w.height))
  pub places_are : coin_places coins ≡ changed same_point (coin_places w.tables.coins) made true
  pub ops_are : ops.items ≡ w.ops.items ++ undo_new made ∷ []
  pub empty_is : empty.items ≡ w.empty.items
  pub room : length ops.items + 1 ≤ empty.spare

module _ (w : Work) (coins : CoinSlots) (ops : Roomy UndoOp) (empty : Roomy OutPoint) (m : IsCommit w coins ops empty) where
  abbrev Committed : Work
  Committed = record { tables = record { coins = coins; names = w.tables.names; queue = w.tables.queue }; ops = ops; empty = empty; height = w.height }

  commit_maps : maps_by Committed.tables ≡ with_commitment (maps_by w.tables) w.height m.made m.hash
  commit_maps = λ i. record { coins = m.coins_are i; names = names_in w.tables.names }

  commit_queue : queued_in w.tables.queue ≡ queue_of (coins_in coins)
  commit_queue =
      m.work.queue ∙ sym (queue_of-still (coins_in w.tables.coins) m.made (Some (New m.hash w.height)) (λ u. ap (is_named_at u) m.fresh) (λ u. refl)) ∙ ap queue_of (sym m.coins_are)

  commit_back : back_op (undo_new m.made) (maps_by Committed.tables) ≡ maps_by w.tables
  commit_back =
      ap (back_op (undo_new m.made)) commit_maps
      ∙ (λ i. record { coins = changed_back same_point-Decides (coins_in w.tables.coins) m.made None (Some (New m.hash w.height)) m.fresh i; names = names_in w.tables.names })

  commit_fits : AreUndoable w.height ops.items (maps_by Committed.tables)
  commit_fits =
      subst (λ os. AreUndoable w.height os (maps_by Committed.tables)) (sym m.ops_are)
      (fits-more w.height w.ops.items (undo_new m.made) (maps_by Committed.tables)
      (subst (AreUndoable w.height w.ops.items) (sym commit_back) m.work.fits)
      (record {
        coin = New m.hash w.height;
        held = ap (λ f. f m.made) m.coins_are ∙ changed_at same_point-Decides (coins_in w.tables.coins) m.made (Some (New m.hash w.height));
        unnamed = λ u. refl;
      }))

  place_stays : (op : UndoOp) → HasSpentPlace w.tables op → HasSpentPlace Committed.tables op
  place_stays op has point spent = ap (λ f. f point) m.places_are ∙ place-kept (coin_places w.tables.coins) m.made point (has point spent)

  commit_places : AllByRecursion (HasSpentPlace Committed.tables) ops.items
  commit_places =
      subst (AllByRecursion (HasSpentPlace Committed.tables)) (sym m.ops_are)
      (all-more (HasSpentPlace Committed.tables) w.ops.items (undo_new m.made)
      (all-weaker (HasSpentPlace w.tables) (HasSpentPlace Committed.tables) w.ops.items place_stays m.work.spent_placed)
      (λ point spent. absurd (true_is_not_false (sym spent))))

  commit_rows : AllByRecursion (HasSpentRow Committed.tables) ops.items
  commit_rows =
      subst (AllByRecursion (HasSpentRow Committed.tables)) (sym m.ops_are)
      (all-more (HasSpentRow Committed.tables) w.ops.items (undo_new m.made) m.work.spent_rows (λ height point spent. absurd (true_is_not_false (sym spent))))

  commit_held : (λ point. is_some (coins_in coins point)) ≡ changed same_point (λ point. is_some (coins_in w.tables.coins point)) m.made true
  commit_held = ap (λ f. λ point. is_some (f point)) m.coins_are ∙ changed_mapped same_point is_some (coins_in w.tables.coins) m.made (Some (New m.hash w.height))

  commit_filled : FilledBut (may_be_empty ops.items empty.items) (coin_places coins) (λ point. is_some (coins_in coins point))
  commit_filled =
      rw m.ops_are
      (rw m.empty_is
      (subst (λ places. FilledBut (may_be_empty (w.ops.items ++ undo_new m.made ∷ []) w.empty.items) places (λ point. is_some (coins_in coins point))) (sym m.places_are)
      (subst (λ held. FilledBut (may_be_empty (w.ops.items ++ undo_new m.made ∷ []) w.empty.items) (changed same_point (coin_places w.tables.coins) m.made true) held) (sym commit_held)
      (filled-weaker _ _ _ _ (empty-weaker w.ops.items (undo_new m.made) w.empty.items) (filled-made _ _ _ m.made m.work.coins_filled)))))

  commit_row_filled : (height : ℕ) → FilledBut (may_be_empty_at w.height ops.items empty.items height) (queue_places w.tables.queue height) (queued_in w.tables.queue height)
  commit_row_filled height =
      rw m.ops_are
      (rw m.empty_is (filled-weaker _ _ _ _ (empty_at-weaker w.height w.ops.items (undo_new m.made) w.empty.items height) (m.work.queue_filled height)))

  pub commit_advances : Advances w Committed (undo_new m.made ∷ []) (with_commitment (maps_by w.tables) w.height m.made m.hash)
  commit_advances = record {
    maps = commit_maps;
    ops = m.ops_are;
    height = refl;
    empty = m.empty_is;
    work = record {
      queue = commit_queue;
      fits = commit_fits;
      spent_placed = commit_places;
      spent_rows = commit_rows;
      coins_filled = commit_filled;
      queue_filled = commit_row_filled;
      names_filled = m.work.names_filled;
      room = m.room;
    };
  }
