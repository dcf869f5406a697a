-- What a block costs, in steps on the tables.
use Rattle.std.specs.Prelude.{ℕ, ◌+◌, ◌*◌, List, [], ◌∷◌, length, Option, Some, None, Result, Ok, Err}
use Rattle.block_grammar.specs.Transaction.{Transaction}
use Rattle.block_grammar.specs.Block.{Block}
use Rattle.nmc_base.specs.declared.hashes.OutPoint.{OutPoint}
use Rattle.chain_names.specs.declared.undo.UndoOp.{UndoOp}
use Rattle.chain_names.specs.declared.undo.UndoOp.TheVariants.{New as undo_new, First as undo_first, Update as undo_update}
use Rattle.chain_names.specs.Log.{behind_coinbase}

-- the inputs and the outputs of a transaction
abbrev pub touched : Transaction → ℕ
touched t = length t.inputs + length t.outputs

abbrev pub all_touched : List Transaction → ℕ
all_touched [] = 0
all_touched (t ∷ ts) = touched t + all_touched ts

-- of a block: its coinbase isn't looked at
abbrev pub touched_by : Block → ℕ
touched_by block = all_touched (behind_coinbase block.transactions)

-- where the answer is that nothing was refused
abbrev pub WhereAccepted : {A E : Type 0} → Result (Option A) E → Type 0 → Type 0
WhereAccepted (Ok None) P = P
WhereAccepted (Ok (Some refusal)) P = Unit {0}
WhereAccepted (Err e) P = Unit {0}

-- each operation costs four steps later: two for a place in the row that is due, two for giving its places up
abbrev pub owed_for : List UndoOp → ℕ
owed_for ops = 4 * length ops

-- the outpoints that operations spent
abbrev pub spent_points : List UndoOp → List OutPoint
spent_points [] = []
spent_points (undo_new made ∷ ops) = spent_points ops
spent_points (undo_first made spent coin name before ∷ ops) = spent ∷ spent_points ops
spent_points (undo_update made spent coin name before ∷ ops) = spent ∷ spent_points ops
