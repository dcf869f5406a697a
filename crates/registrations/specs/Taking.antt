-- What operations did to histories is taken back.
use Rattle.std.specs.Prelude.{◌≡◌, ℕ, List, [], ◌∷◌, Option, Some, None}
use Rattle.std.specs.Str.{bytes_eq}
use Rattle.nmc_base.specs.declared.hashes.Hash32.{Hash32}
use Rattle.chain_names.specs.declared.coin.HeldCoin.{HeldCoin}
use Rattle.chain_names.specs.declared.coin.Item.{Item}
use Rattle.chain_names.specs.declared.undo.UndoOp.{UndoOp}
use Rattle.chain_names.specs.declared.undo.UndoOp.TheVariants.{New, First, Update}
use Rattle.chain_names.specs.Changes.{without_entry}
use Rattle.chain_names.specs.Coins.{entry_of}
use Rattle.chain_names.specs.Points.{changed}
use Rattle.chain_names.specs.Undo.{UndoRecord}
use Rattle.registrations.specs.declared.taking.Taken.{Taken}
use Rattle.registrations.specs.Told.{Histories}

-- ---- one operation

-- the name whose history it changed
abbrev pub name_of : UndoOp → Option (List ℕ)
name_of (New made) = None
name_of (First made spent coin name before) = Some name
name_of (Update made spent coin name before) = Some name

-- the last item of the name
abbrev pub last_at : Option (List ℕ) → Histories → Option Item
last_at None names = None
last_at (Some name) names = entry_of (names name)

-- the histories without it
abbrev pub names_before : Option (List ℕ) → Histories → Histories
names_before None names = names
names_before (Some name) names = changed bytes_eq names name (without_entry (names name))

-- the operation was taken back, with the item that it made
pub record IsTakenBack (old new : Histories) (op : UndoOp) (t : Taken) : Type 0 where
  pub op_is : t.op ≡ op
  pub item_is : t.item ≡ last_at (name_of op) old
  pub names_are : new ≡ names_before (name_of op) old

-- ---- operations, from the last to the first

abbrev pub before_all : List UndoOp → Histories → Histories
before_all [] names = names
before_all (op ∷ ops) names = names_before (name_of op) (before_all ops names)

-- each with the item that it made
abbrev pub taken : List UndoOp → Histories → List Taken
taken [] names = []
taken (op ∷ ops) names = record { op = op; item = last_at (name_of op) (before_all ops names) } ∷ taken ops names

-- ---- records, from the newest to the oldest

pub record TakenUndo : Type 0 where
  pub block : Hash32
  pub ops : List Taken
  pub expired : List HeldCoin

abbrev pub names_at_base : List UndoRecord → Histories → Histories
names_at_base [] names = names
names_at_base (u ∷ us) names = names_at_base us (before_all u.ops names)

abbrev pub undos_taken : List UndoRecord → Histories → List TakenUndo
undos_taken [] names = []
undos_taken (u ∷ us) names = record { block = u.block; ops = taken u.ops names; expired = u.expired } ∷ undos_taken us (before_all u.ops names)
