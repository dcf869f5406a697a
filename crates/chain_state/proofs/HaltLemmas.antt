-- Work that stops for want of memory, with places that may be empty.
use Rattle.std.proofs.Common.{◌≡◌, ℕ, ◌+◌, ◌≤◌, Bool, true, false, cond, [], ◌∷◌, ◌++◌, length, refl, sym, ap, subst, ◌∙◌}
use Rattle.std.specs.Prelude.{◌==◌}
use Rattle.std.specs.Option.{is_some}
use Rattle.std.specs.Cmp.{unsigned_Decides}
use Rattle.std.specs.List.{list_any, AllByRecursion}
use Rattle.nmc_base.specs.Roomy.{Roomy}
use Rattle.nmc_base.specs.declared.hashes.OutPoint.{OutPoint}
use Rattle.nmc_base.proofs.ListLemmas.{all-weaker}
use Rattle.chain_names.specs.declared.undo.UndoOp.{UndoOp}
use Rattle.chain_names.specs.Points.{same_point, changed}
use Rattle.chain_names.specs.Coins.{entry_of}
use Rattle.chain_names.specs.Tables.{coins_in, coin_places, queued_in, queue_places, queue_of, FilledBut}
use Rattle.chain_names.proofs.Shown.{true_is_not_false}
use Rattle.chain_names.specs.Fits.{AreUndoable}
use Rattle.name_tables.specs.Tables.{HoldSame}
use Rattle.name_tables.specs.Moving.{MayHavePlaces}
use Rattle.name_tables.specs.Tables.{maps_by}
use Rattle.name_tables.specs.Places.{spends}
use Rattle.chain_state.specs.Work.{HasSpentPlace, HasSpentRow, may_be_empty, may_be_empty_at, IsWork, Halts}
use Rattle.name_tables.specs.declared.tables.Tables.{Tables}
use Rattle.chain_state.specs.declared.work.Work.{Work}
use Rattle.name_tables.proofs.ListLemmas.{or_left, or_right, or_both}
use Rattle.chain_state.proofs.BackLemmas.{any_point-more, row_empty-less}

-- where two functions agree but for one key, and that is another one
agree_at : (f g : OutPoint → Bool) (made point : OutPoint) (b : Bool) → b ≡ false → cond b true (f point) ≡ cond b true (g point) → f point ≡ g point
agree_at f g made point true is e = absurd (true_is_not_false is)
agree_at f g made point false is e = e

agree_row : (f g : ℕ → OutPoint → Bool) (h v : ℕ) (made point : OutPoint) (b : Bool) → (h == v) ≡ b → (b ≡ true → same_point made point ≡ false)
    → cond {A = OutPoint → Bool} b (changed same_point (f h) made true) (f v) point ≡ cond {A = OutPoint → Bool} b (changed same_point (g h) made true) (g v) point
    → f v point ≡ g v point
agree_row f g h v made point true is other e =
    let row = (unsigned_Decides h v).0 is in
    sym (ap (λ n. f n point) row) ∙ agree_at (f h) (g h) made point (same_point made point) (other refl) e ∙ ap (λ n. g n point) row
agree_row f g h v made point false is other e = e

-- there was no memory for a move: the tables hold what they held, and the outpoint that was to be made may have places
pub record IsHalted (w : Work) (tables : Tables) (ops : Roomy UndoOp) (empty : Roomy OutPoint) : Type 0 where
  pub made : OutPoint
  pub work : IsWork w
  pub same : HoldSame w.tables tables
  pub may : MayHavePlaces w.tables tables made w.height
  pub ops_are : ops.items ≡ w.ops.items
  pub empty_is : empty.items ≡ w.empty.items ++ made ∷ []
  pub room : length ops.items + 1 ≤ empty.spare

module _ (w : Work) (tables : Tables) (ops : Roomy UndoOp) (empty : Roomy OutPoint) (h : IsHalted w tables ops empty) where
  halted_maps : maps_by tables ≡ maps_by w.tables
  halted_maps = λ i. record { coins = h.same.coins i; names = h.same.names i }

  halted_filled : FilledBut (may_be_empty ops.items empty.items) (coin_places tables.coins) (λ point. is_some (coins_in tables.coins point))
  halted_filled point here free =
      let both = ap (λ es. may_be_empty w.ops.items es point) (sym h.empty_is) ∙ ap (λ os. may_be_empty os empty.items point) (sym h.ops_are) ∙ free in
      let any = any_point-more w.empty.items h.made point (or_right (list_any (spends point) w.ops.items) _ both) in
      let before = sym (agree_at (coin_places tables.coins) (coin_places w.tables.coins) h.made point (same_point h.made point) any.1 (ap (λ f. f point) h.may.coins)) ∙ here in
      ap (λ f. is_some (f point)) h.same.coins ∙ h.work.coins_filled point before (or_both _ _ (or_left _ _ both) any.0)

  halted_rows : (height : ℕ) → FilledBut (may_be_empty_at w.height ops.items empty.items height) (queue_places tables.queue height) (queued_in tables.queue height)
  halted_rows height point here free =
      let both = ap (λ es. may_be_empty_at w.height w.ops.items es height point) (sym h.empty_is) ∙ ap (λ os. may_be_empty_at w.height os empty.items height point) (sym h.ops_are) ∙ free in
      let any = row_empty-less w.height height w.ops.items w.empty.items h.made point both in
      let before = sym (agree_row (queue_places tables.queue) (queue_places w.tables.queue) w.height height h.made point (w.height == height) refl any.2 (ap (λ q. q height point) h.may.queue)) ∙ here in
      ap (λ q. q height point) h.same.queue ∙ h.work.queue_filled height point before (or_both _ _ any.0 any.1)

  pub halts : Halts w (record { tables = tables; ops = ops; empty = empty; height = w.height })
  halts = record {
    maps = halted_maps;
    ops = h.ops_are;
    height = refl;
    work = record {
      queue = h.same.queue ∙ h.work.queue ∙ ap queue_of (sym h.same.coins);
      fits = subst (λ os. AreUndoable w.height os (maps_by tables)) (sym h.ops_are) (subst (AreUndoable w.height w.ops.items) (sym halted_maps) h.work.fits);
      spent_placed = subst (AllByRecursion (HasSpentPlace tables)) (sym h.ops_are)
          (all-weaker (HasSpentPlace w.tables) (HasSpentPlace tables) w.ops.items (λ op has point is. h.may.kept point (has point is)) h.work.spent_placed);
      spent_rows = subst (AllByRecursion (HasSpentRow tables)) (sym h.ops_are)
          (all-weaker (HasSpentRow w.tables) (HasSpentRow tables) w.ops.items (λ op has row point is. h.may.rows_kept row point (has row point is)) h.work.spent_rows);
      coins_filled = halted_filled;
      queue_filled = halted_rows;
      names_filled = λ n. ap (λ f. f n) h.may.names ∙ h.work.names_filled n ∙ ap (λ f. is_some (entry_of (f n))) (sym h.same.names);
      room = h.room;
    };
  }
