-- What a text of a version tells of a record: version 1 leaves out the registration heights.
use Rattle.std.specs.Prelude.{◌≡◌, ℕ, ◌<◌, ◌^◌, map, Option, Some, None}
use Rattle.std.specs.List.{AllByRecursion}
use Rattle.chain_names.specs.declared.coin.Coin.{Coin}
use Rattle.chain_names.specs.declared.coin.Item.{Item}
use Rattle.chain_names.specs.declared.undo.UndoOp.{UndoOp}
use Rattle.chain_names.specs.declared.undo.UndoOp.TheVariants.{New, First, Update}
use Rattle.chain_names.specs.Undo.{UndoRecord}
use Rattle.chain_names.specs.Writable.{Change, IsWritableItem, IsWritableBefore, IsWritableChange, IsWritableOp, HasWritableParts, IsWritable}
use Rattle.undo_records.specs.declared.version.Version.{Version}
use Rattle.undo_records.specs.declared.version.Version.TheVariants.{One, Two}

-- ---- without registration heights

abbrev pub item_without : Item → Item
item_without item = record { height = item.height; registered = 0; at = item.at; value = item.value }

abbrev pub before_without : Option Item → Option Item
before_without None = None
before_without (Some item) = Some (item_without item)

abbrev pub op_without : UndoOp → UndoOp
op_without (New made) = New made
op_without (First made spent coin name before) = First made spent coin name (before_without before)
op_without (Update made spent coin name before) = Update made spent coin name (before_without before)

-- the same record, in which each registration height is 0
abbrev pub without_heights : UndoRecord → UndoRecord
without_heights undo = record { block = undo.block; ops = map op_without undo.ops; expired = undo.expired }

-- what a text of this version tells of a record
abbrev pub told : Version → UndoRecord → UndoRecord
told One undo = without_heights undo
told Two undo = undo

-- ---- what a text of a version tells whole

-- a registration height that is 0, where the text has none
abbrev pub IsTold : Version → ℕ → Type 0
IsTold One registered = registered ≡ 0
IsTold Two registered = registered < 2 ^ 32

abbrev pub IsToldBefore : Version → Option Item → Type 0
IsToldBefore version None = Unit {0}
IsToldBefore version (Some item) = IsTold version item.registered

abbrev pub IsToldOp : Version → UndoOp → Type 0
IsToldOp version (New made) = Unit {0}
IsToldOp version (First made spent coin name before) = IsToldBefore version before
IsToldOp version (Update made spent coin name before) = IsToldBefore version before

-- the registration height of each item of the record is 0, where the text has none
abbrev pub AreTold : Version → UndoRecord → Type 0
AreTold One undo = AllByRecursion (IsToldOp One) undo.ops
AreTold Two undo = Unit {0}

-- ---- values with a text of a version that tells them whole

abbrev pub IsItemIn : Version → Item → Type 0
IsItemIn version item = IsWritableItem item × IsTold version item.registered

abbrev pub IsBeforeIn : Version → Option Item → Type 0
IsBeforeIn version before = IsWritableBefore before × IsToldBefore version before

abbrev pub IsChangeIn : Version → (Coin → Type 0) → Change → Type 0
IsChangeIn version FitsCoin c = IsWritableChange FitsCoin c × IsToldBefore version c.before

abbrev pub IsOpIn : Version → UndoOp → Type 0
IsOpIn version op = IsWritableOp op × IsToldOp version op

-- a record, but for the order of its expired coins
abbrev pub HasPartsIn : Version → UndoRecord → Type 0
HasPartsIn version undo = HasWritableParts undo × AreTold version undo

abbrev pub IsUndoIn : Version → UndoRecord → Type 0
IsUndoIn version undo = IsWritable undo × AreTold version undo
