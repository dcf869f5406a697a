-- What the readers of the code give, as the readers on lists give it.
use Rattle.std.specs.Prelude.{◌≡◌, ℕ, List, [], ◌∷◌, ◌++◌, Option, Some, None, Result, Ok, Err}
use Rattle.chain_names.specs.declared.coin.Coin.{Coin}
use Rattle.chain_names.specs.declared.coin.Coin.TheVariants.{New, Named}
use Rattle.chain_names.specs.declared.coin.HeldCoin.{HeldCoin}
use Rattle.chain_names.specs.declared.coin.Item.{Item}
use Rattle.nmc_base.specs.declared.hashes.OutPoint.{OutPoint}
use Rattle.chain_names.specs.declared.undo.UndoOp.{UndoOp}
use Rattle.chain_names.specs.declared.undo.UndoOp.TheVariants.{New as op_new}
use Rattle.undo_records.specs.declared.fault.FaultKind.{FaultKind}
use Rattle.undo_records.specs.declared.fault.Fault.{Fault}
use Rattle.undo_records.specs.declared.fault.Stop.{Stop}
use Rattle.undo_records.specs.declared.fault.Stop.TheVariants.{At, NoMemory}
use Rattle.undo_records.specs.declared.found.FoundCoin.{FoundCoin}
use Rattle.undo_records.specs.declared.found.FoundCoin.TheVariants.{New as found_new, Named as found_named}
use Rattle.undo_records.specs.declared.found.FoundItem.{FoundItem}
use Rattle.undo_records.specs.declared.found.FoundChange.{FoundChange}
use Rattle.undo_records.specs.declared.found.FoundOp.{FoundOp}
use Rattle.undo_records.specs.declared.found.FoundOp.TheVariants.{New as found_made, Change as found_change}
use Rattle.undo_records.specs.declared.found.ChangeKind.{ChangeKind}
use Rattle.undo_records.specs.declared.found.ChangeKind.TheVariants.{First as kind_first, Update as kind_update}
use Rattle.chain_names.specs.Writable.{Change, change_of}
use Rattle.undo_records.specs.Reading.{Reads, new_coin_from, named_coin_from, first_of, update_of}

-- what was read, or the first fault
abbrev pub seen : {X A : Type 0} → (X → A × List ℕ) → Result X Fault → Result (A × List ℕ) (FaultKind × List ℕ)
seen view (Ok x) = Ok (view x)
seen view (Err fault) = Err (fault.kind, fault.rest.now)

-- reading stopped at the first fault, or for want of memory
abbrev pub Stops : {A : Type 0} → Stop → Result (A × List ℕ) (FaultKind × List ℕ) → Type 0
Stops (At fault) read = Err (fault.kind, fault.rest.now) ≡ read
Stops NoMemory read = Unit {0}

-- what was read, or why reading stopped
abbrev pub Gives : {X A : Type 0} → (X → A × List ℕ) → Result X Stop → Result (A × List ℕ) (FaultKind × List ℕ) → Type 0
Gives view (Ok x) read = Ok (view x) ≡ read
Gives view (Err stop) read = Stops stop read

-- ---- a list of coins with one more, and the outpoint of that one

abbrev pub Grown : Type 0
Grown = List HeldCoin × OutPoint

abbrev pub grown_by : List HeldCoin → HeldCoin → Grown
grown_by coins held = (coins ++ held ∷ [], held.at)

-- ---- what was found in bytes, before it has memory of its own

abbrev pub seen_coin : FoundCoin → Coin
seen_coin (found_new hash height) = New hash height
seen_coin (found_named name height) = Named name.now height

abbrev pub seen_item : FoundItem → Item
seen_item item = record { height = item.height; registered = item.registered; at = item.at; value = item.value.now }

abbrev pub seen_before : Option FoundItem → Option Item
seen_before None = None
seen_before (Some item) = Some (seen_item item)

abbrev pub seen_change : FoundChange → Change
seen_change c = change_of c.made c.spent (seen_coin c.coin) c.name.now (seen_before c.before)

-- the operation that a change of this kind is
abbrev pub op_of : ChangeKind → Change → UndoOp
op_of kind_first change = first_of change
op_of kind_update change = update_of change

-- the coin that it spends
abbrev pub spent_from : ChangeKind → Reads Coin
spent_from kind_first = new_coin_from
spent_from kind_update = named_coin_from

abbrev pub seen_op : FoundOp → UndoOp
seen_op (found_made made) = op_new made
seen_op (found_change kind change) = op_of kind (seen_change change)
