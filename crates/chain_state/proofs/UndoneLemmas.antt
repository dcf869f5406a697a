-- What an operation that is undone needs: the outpoint that was spent has no coin, and its places are there.
use Rattle.std.proofs.Common.{◌≡◌, ℕ, ◌+◌, ◌≤◌, Bool, true, ◌&&◌, List, [], ◌∷◌, ◌++◌, length, refl, sym, ap, subst, ◌∙◌}
use Rattle.std.specs.Prelude.{Some, None}
use Rattle.std.specs.List.{AllByRecursion}
use Rattle.std.specs.Option.{is_some}
use Rattle.nmc_base.specs.Roomy.{Roomy}
use Rattle.nmc_base.specs.declared.hashes.OutPoint.{OutPoint}
use Rattle.chain_names.specs.declared.undo.UndoOp.{UndoOp}
use Rattle.chain_names.specs.Changes.{back_op, back_ops}
use Rattle.chain_names.specs.declared.coin.Coin.{Coin}
use Rattle.chain_names.specs.Points.{same_point}
use Rattle.chain_names.specs.Tables.{coins_in, coin_places, queued_in, queue_places, is_named_at, FilledBut}
use Rattle.chain_names.proofs.UndoLemmas.{back_ops-append}
use Rattle.chain_names.proofs.Points.{same_point-Decides}
use Rattle.chain_names.specs.Fits.{AreUndoable}
use Rattle.name_tables.specs.Tables.{maps_by}
use Rattle.chain_state.specs.Work.{HasSpentPlace, HasSpentRow, may_be_empty, may_be_empty_at, IsWork, Undoes, GoesBack, with_op}
use Rattle.chain_state.specs.declared.work.Work.{Work}
use Rattle.chain_state.proofs.WorkLemmas.{fits-less}
use Rattle.name_tables.proofs.ListLemmas.{all-last}

and_true : (b : Bool) → b ≡ true → (b && true) ≡ true
and_true b e = ap (λ x. x && true) e

module _ (w : Work) (made spent : OutPoint) (coin : Coin) (name : List ℕ) (undoes : Undoes w made spent coin name) where
  same : same_point spent spent ≡ true
  same = (same_point-Decides spent spent).1 refl

  pub spent_free : coins_in w.tables.coins spent ≡ None
  spent_free = (undoes.is_undo.fits (maps_by w.tables) (fits-less w.height w.ops.items undoes.op (maps_by w.tables) undoes.work.fits).1).free

  pub spent_place : coin_places w.tables.coins spent ≡ true
  spent_place = all-last (HasSpentPlace w.tables) w.ops.items undoes.op undoes.work.spent_placed spent (undoes.is_undo.spends spent ∙ same)

  pub spent_row : (height : ℕ) → is_named_at height (Some coin) ≡ true → queue_places w.tables.queue height spent ≡ true
  spent_row height named =
      all-last (HasSpentRow w.tables) w.ops.items undoes.op undoes.work.spent_rows height spent
      (undoes.is_undo.spends_at height spent ∙ ap (λ b. is_named_at height (Some coin) && b) same ∙ and_true (is_named_at height (Some coin)) named)

-- ---- all operations, from the last to the first

pub record IsGoingBack (start now : Work) : Type 0 where
  pub before : back_ops now.ops.items (maps_by now.tables) ≡ back_ops start.ops.items (maps_by start.tables)
  pub height : now.height ≡ start.height
  pub work : IsWork now

abbrev with_ops : Work → Roomy UndoOp → Work
with_ops w ops = record { tables = w.tables; ops = ops; empty = w.empty; height = w.height }

-- the work is that of its operations, whatever room there is for more
pub same_ops_work : (w : Work) (ops : Roomy UndoOp) → w.ops.items ≡ ops.items → IsWork w → IsWork (with_ops w ops)
same_ops_work w ops e work = record {
  queue = work.queue;
  fits = subst (λ os. AreUndoable w.height os (maps_by w.tables)) e work.fits;
  spent_placed = subst (AllByRecursion (HasSpentPlace w.tables)) e work.spent_placed;
  spent_rows = subst (AllByRecursion (HasSpentRow w.tables)) e work.spent_rows;
  coins_filled = subst (λ os. FilledBut (may_be_empty os w.empty.items) (coin_places w.tables.coins) (λ point. is_some (coins_in w.tables.coins point))) e work.coins_filled;
  queue_filled = λ height. subst (λ os. FilledBut (may_be_empty_at w.height os w.empty.items height) (queue_places w.tables.queue height) (queued_in w.tables.queue height)) e (work.queue_filled height);
  names_filled = work.names_filled;
  room = subst (λ os. length os + 1 ≤ w.empty.spare) e work.room;
}

pub popped_work : (w : Work) (ops : Roomy UndoOp) (op : UndoOp) → w.ops.items ≡ ops.items ++ op ∷ [] → IsWork w → IsWork (with_op (with_ops w ops) op)
popped_work w ops op e work = same_ops_work w (record { items = ops.items ++ op ∷ []; spare = ops.spare }) e work

pub went_back : (start now mid new : Work) (op : UndoOp) (rest : List UndoOp) → now.ops.items ≡ rest ++ op ∷ [] → IsGoingBack start now
    → GoesBack mid new (back_op op (maps_by now.tables)) rest → mid.height ≡ now.height → IsGoingBack start new
went_back start now mid new op rest e going back height = record {
  before = ap (λ os. back_ops os (maps_by new.tables)) back.ops_are ∙ ap (back_ops rest) back.maps_are
      ∙ sym (back_ops-append rest (op ∷ []) (maps_by now.tables)) ∙ ap (λ os. back_ops os (maps_by now.tables)) (sym e) ∙ going.before;
  height = back.height ∙ height ∙ going.height;
  work = back.work;
}

pub gone_back : (start now : Work) (ops : Roomy UndoOp) → now.ops.items ≡ [] → ops ≡ now.ops → IsGoingBack start now
    → GoesBack start (with_ops now ops) (back_ops start.ops.items (maps_by start.tables)) []
gone_back start now ops none same going = record {
  maps_are = ap (λ os. back_ops os (maps_by now.tables)) (sym none) ∙ going.before;
  ops_are = ap (λ (os : Roomy UndoOp). os.items) same ∙ none;
  height = going.height;
  work = same_ops_work now ops (ap (λ (os : Roomy UndoOp). os.items) (sym same)) going.work;
}
