-- A name is opened or given a new value: what undoes it is noted.
use Rattle.std.proofs.Common.{◌≡◌, ℕ, List, [], ◌∷◌, ◌++◌, length, refl, sym, ap, subst, ◌∙◌, arith, length-append}
use Rattle.std.proofs.lemmas.Grind.{common_steps}
use Rattle.std.specs.Prelude.{Option, Some, None}
use Rattle.nmc_base.specs.Roomy.{Roomy}
use Rattle.nmc_base.specs.declared.hashes.OutPoint.{OutPoint}
use Rattle.chain_names.specs.declared.coin.Coin.{Coin}
use Rattle.chain_names.specs.declared.coin.Item.{Item}
use Rattle.chain_names.specs.declared.undo.UndoOp.{UndoOp}
use Rattle.chain_names.specs.declared.undo.UndoOp.TheVariants.{First as undo_first, Update as undo_update}
use Rattle.chain_names.specs.Coins.{entry_of}
use Rattle.chain_names.specs.Changes.{moved, with_spent}
use Rattle.chain_names.specs.Tables.{coins_in, names_in}
use Rattle.name_tables.specs.Tables.{maps_by}
use Rattle.chain_state.specs.Work.{IsWork, IsNameUndo, Advances, ShiftsOnly, undo_of_opening, undo_of_update}
use Rattle.name_tables.specs.declared.moving.Shift.{Shift}
use Rattle.chain_state.specs.declared.work.Work.{Work}
use Rattle.chain_state.proofs.MoveLemmas.{given_item, move_advances}

-- the undo operation of the coin that is there
with_the_coin : (undo : Coin → UndoOp) (slot : Option Coin) (coin : Coin) → slot ≡ Some coin → with_spent undo slot ≡ undo coin ∷ []
with_the_coin undo slot coin e = ap (with_spent undo) e

-- what undoes an opening, and what undoes an update
pub first_undo : (height : ℕ) (made spent : OutPoint) (coin : Coin) (name : List ℕ) (before : Option Item) → IsNameUndo height (undo_first made spent coin name before) made spent coin name
first_undo height made spent coin name before = record { back = λ maps. refl; fits = λ maps h. h; allows = λ maps h. h; spends = λ point. refl; spends_at = λ row point. refl }

pub update_undo : (height : ℕ) (made spent : OutPoint) (coin : Coin) (name : List ℕ) (before : Option Item) → IsNameUndo height (undo_update made spent coin name before) made spent coin name
update_undo height made spent coin name before = record { back = λ maps. refl; fits = λ maps h. h; allows = λ maps h. h; spends = λ point. refl; spends_at = λ row point. refl }

-- the name moved on the tables, and what undoes it isn't noted yet
pub record IsShifted (w mid : Work) : Type 0 where
  pub made : OutPoint
  pub spent : OutPoint
  pub name : List ℕ
  pub value : List ℕ
  pub registered : ℕ
  pub left : Shift
  pub work : IsWork w
  pub fresh : coins_in w.tables.coins made ≡ None
  pub shifts : ShiftsOnly w mid spent name (given_item w.height registered made value) left

module _ (w mid : Work) (ops : Roomy UndoOp) (s : IsShifted w mid) where
  abbrev Entry : Option Item
  Entry = entry_of (names_in w.tables.names s.name)

  abbrev Noted : Work
  Noted = record { tables = mid.tables; ops = ops; empty = mid.empty; height = mid.height }

  abbrev Moves : List UndoOp → Type 0
  Moves undo = Advances w Noted undo (moved (maps_by w.tables) s.spent s.name (given_item w.height s.registered s.made s.value))

  -- with an operation that moves the name
  shifted : (op : UndoOp) → ops.items ≡ mid.ops.items ++ op ∷ [] → IsNameUndo w.height op s.made s.spent s.left.coin s.name → Moves (op ∷ [])
  shifted op ops_are is_undo =
      let items = ops_are ∙ ap (λ l. l ++ op ∷ []) s.shifts.ops in
      move_advances w Noted (record {
        op = op;
        made = s.made;
        spent = s.spent;
        name = s.name;
        value = s.value;
        registered = s.registered;
        left = s.left;
        work = s.work;
        fresh = s.fresh;
        is_undo = is_undo;
        shifts = s.shifts.shifts;
        ops_are = items;
        empty_is = s.shifts.empty;
        height = s.shifts.height;
        room = grind (arith, common_steps, ap length items, length-append w.ops.items (op ∷ []), s.shifts.room);
      })

  -- the operation that is noted is that of the coin that was spent and of the entry before
  noted : (undo : Coin → List ℕ → Option Item → UndoOp) → ops.items ≡ mid.ops.items ++ undo s.left.coin s.left.name s.left.before ∷ []
      → IsNameUndo w.height (undo s.left.coin s.name Entry) s.made s.spent s.left.coin s.name → Moves (with_spent (λ coin. undo coin s.name Entry) (coins_in w.tables.coins s.spent))
  noted undo ops_are is_undo =
      let given = with_the_coin (λ coin. undo coin s.name Entry) (coins_in w.tables.coins s.spent) s.left.coin s.shifts.shifts.held in
      subst Moves (sym given)
      (shifted (undo s.left.coin s.name Entry) (ops_are ∙ (λ i. mid.ops.items ++ undo s.left.coin (s.shifts.shifts.name_is i) (s.shifts.shifts.before_is i) ∷ [])) is_undo)

  pub opened : ops.items ≡ mid.ops.items ++ undo_first s.made s.spent s.left.coin s.left.name s.left.before ∷ [] → Moves (undo_of_opening (maps_by w.tables) s.made s.spent s.name)
  opened ops_are = noted (undo_first s.made s.spent) ops_are (first_undo w.height s.made s.spent s.left.coin s.name Entry)

  pub updated : ops.items ≡ mid.ops.items ++ undo_update s.made s.spent s.left.coin s.left.name s.left.before ∷ [] → Moves (undo_of_update (maps_by w.tables) s.made s.spent s.name)
  updated ops_are = noted (undo_update s.made s.spent) ops_are (update_undo w.height s.made s.spent s.left.coin s.name Entry)
