-- Work on the tables for one block: what was done so far, and what undoes it.
use Rattle.std.specs.Prelude.{◌≡◌, ℕ, ◌+◌, ◌≤◌, Bool, true, ◌||◌, ◌&&◌, ◌==◌, List, [], ◌∷◌, ◌++◌, length, Some}
use Rattle.std.specs.Option.{is_some}
use Rattle.std.specs.List.{list_any, AllByRecursion}
use Rattle.nmc_base.specs.declared.hashes.OutPoint.{OutPoint}
use Rattle.nmc_base.specs.declared.hashes.Hash20.{Hash20}
use Rattle.chain_names.specs.declared.coin.Coin.{Coin}
use Rattle.chain_names.specs.declared.coin.Coin.TheVariants.{New}
use Rattle.chain_names.specs.declared.coin.Item.{Item}
use Rattle.chain_names.specs.declared.undo.UndoOp.{UndoOp}
use Rattle.chain_names.specs.declared.undo.UndoOp.TheVariants.{First as undo_first, Update as undo_update}
use Rattle.chain_names.specs.Points.{same_point, changed}
use Rattle.chain_names.specs.Coins.{Maps, entry_of}
use Rattle.chain_names.specs.Changes.{back_op, back_ops, with_spent, moved_back}
use Rattle.chain_names.specs.Tables.{coins_in, coin_places, queued_in, queue_places, queue_of, is_named_at, FilledBut, AreNamesFilled}
use Rattle.chain_names.specs.Fits.{IsMadeNamed, IsUndoable, AreUndoable}
use Rattle.name_tables.specs.Places.{spends, spends_at}
use Rattle.name_tables.specs.declared.tables.Tables.{Tables}
use Rattle.name_tables.specs.declared.moving.Shift.{Shift}
use Rattle.chain_state.specs.declared.work.Work.{Work}
use Rattle.name_tables.specs.Moving.{Shifts}
use Rattle.name_tables.specs.Tables.{maps_by}

-- ---- places

-- what was spent has a place still
abbrev pub HasSpentPlace : Tables → UndoOp → Type 0
HasSpentPlace t op = (point : OutPoint) → spends point op ≡ true → coin_places t.coins point ≡ true

abbrev pub HasSpentRow : Tables → UndoOp → Type 0
HasSpentRow t op = (height : ℕ) (point : OutPoint) → spends_at height point op ≡ true → queue_places t.queue height point ≡ true

-- the outpoints whose places may be empty: those that were spent, and those listed
abbrev pub may_be_empty : List UndoOp → List OutPoint → OutPoint → Bool
may_be_empty ops empty = λ point. list_any (spends point) ops || list_any (same_point point) empty

abbrev pub may_be_empty_at : ℕ → List UndoOp → List OutPoint → ℕ → OutPoint → Bool
may_be_empty_at made ops empty height = λ point. list_any (spends_at height point) ops || ((made == height) && list_any (same_point point) empty)

-- ---- the work

pub record IsWork (w : Work) : Type 0 where
  pub queue : queued_in w.tables.queue ≡ queue_of (coins_in w.tables.coins)
  pub fits : AreUndoable w.height w.ops.items (maps_by w.tables)
  pub spent_placed : AllByRecursion (HasSpentPlace w.tables) w.ops.items
  pub spent_rows : AllByRecursion (HasSpentRow w.tables) w.ops.items
  pub coins_filled : FilledBut (may_be_empty w.ops.items w.empty.items) (coin_places w.tables.coins) (λ point. is_some (coins_in w.tables.coins point))
  pub queue_filled : (height : ℕ) → FilledBut (may_be_empty_at w.height w.ops.items w.empty.items height) (queue_places w.tables.queue height) (queued_in w.tables.queue height)
  pub names_filled : AreNamesFilled w.tables.names
  pub room : length w.ops.items + 1 ≤ w.empty.spare

-- the maps before the work
abbrev pub maps_before : Work → Maps
maps_before w = back_ops w.ops.items (maps_by w.tables)

-- one operation more was done, which these undo
pub record Advances (old new : Work) (undo : List UndoOp) (after : Maps) : Type 0 where
  pub maps : maps_by new.tables ≡ after
  pub ops : new.ops.items ≡ old.ops.items ++ undo
  pub height : new.height ≡ old.height
  pub empty : new.empty.items ≡ old.empty.items
  pub work : IsWork new

-- nothing was done
pub record Halts (old new : Work) : Type 0 where
  pub maps : maps_by new.tables ≡ maps_by old.tables
  pub ops : new.ops.items ≡ old.ops.items
  pub height : new.height ≡ old.height
  pub work : IsWork new

-- a commitment more
abbrev pub with_commitment : Maps → ℕ → OutPoint → Hash20 → Maps
with_commitment maps height made hash = record { coins = changed same_point maps.coins made (Some (New hash height)); names = maps.names }

-- ---- names that move

-- the tables moved a name, and there is room for what undoes it
pub record ShiftsOnly (old new : Work) (spent : OutPoint) (name : List ℕ) (item : Item) (left : Shift) : Type 0 where
  pub shifts : Shifts old.tables new.tables spent name item left
  pub ops : new.ops.items ≡ old.ops.items
  pub spare : 1 ≤ new.ops.spare
  pub height : new.height ≡ old.height
  pub empty : new.empty.items ≡ old.empty.items
  pub room : length old.ops.items + 2 ≤ new.empty.spare

abbrev pub undo_of_opening : Maps → OutPoint → OutPoint → List ℕ → List UndoOp
undo_of_opening maps made spent name = with_spent (λ coin. undo_first made spent coin name (entry_of (maps.names name))) (maps.coins spent)

abbrev pub undo_of_update : Maps → OutPoint → OutPoint → List ℕ → List UndoOp
undo_of_update maps made spent name = with_spent (λ coin. undo_update made spent coin name (entry_of (maps.names name))) (maps.coins spent)

-- ---- going back

-- the work with an operation more on its list
abbrev pub with_op : Work → UndoOp → Work
with_op w op = record { tables = w.tables; ops = record { items = w.ops.items ++ op ∷ []; spare = w.ops.spare }; empty = w.empty; height = w.height }

-- the maps are those before, and these operations are left
pub record GoesBack (old new : Work) (maps : Maps) (ops : List UndoOp) : Type 0 where
  pub maps_are : maps_by new.tables ≡ maps
  pub ops_are : new.ops.items ≡ ops
  pub height : new.height ≡ old.height
  pub work : IsWork new

-- the operation moved a name, and its coin was spent
pub record IsNameUndo (height : ℕ) (op : UndoOp) (made spent : OutPoint) (coin : Coin) (name : List ℕ) : Type 0 where
  pub back : (maps : Maps) → back_op op maps ≡ moved_back maps made spent coin name
  pub fits : (maps : Maps) → IsUndoable height op maps → IsMadeNamed height made spent maps
  pub allows : (maps : Maps) → IsMadeNamed height made spent maps → IsUndoable height op maps
  pub spends : (point : OutPoint) → spends point op ≡ same_point spent point
  pub spends_at : (row : ℕ) (point : OutPoint) → spends_at row point op ≡ (is_named_at row (Some coin) && same_point spent point)

pub record Undoes (w : Work) (made spent : OutPoint) (coin : Coin) (name : List ℕ) : Type 0 where
  pub op : UndoOp
  pub is_undo : IsNameUndo w.height op made spent coin name
  pub work : IsWork (with_op w op)
