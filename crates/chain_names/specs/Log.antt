-- The outpoint log of a chain: the makes that it starts with, and then what its transactions spend and the name outputs
-- that they make. Nothing is ever taken from it. The newest event stands first.
use Rattle.std.specs.Prelude.{ℕ, suc, ◌+◌, List, [], ◌∷◌, length, drop, Option, Some, None, Result, Ok, Err}
use Rattle.block_grammar.specs.Transaction.{TxInput, TxOutput, Transaction, txid_of}
use Rattle.block_grammar.specs.Block.{Block}
use Rattle.block_grammar.specs.Reading.{block_from}
use Rattle.name_script.specs.NameScript.{NameOperation}
use Rattle.name_script.specs.Reading.{name_op}
use Rattle.nmc_base.specs.declared.hashes.OutPoint.{OutPoint}
use Rattle.chain_names.specs.Points.{point_at, spent_by}

pub data Event : Type 0 where
  -- an input spends the output, whatever it holds
  Spend : OutPoint → Event
  -- an output with a name script, in a block of this height
  Make : OutPoint → NameOperation → ℕ → Event

abbrev pub Log : Type 0
Log = List Event

abbrev pub spends : List TxInput → Log → Log
spends [] log = log
spends (input ∷ inputs) log = spends inputs (Spend (spent_by input) ∷ log)

abbrev pub made : OutPoint → ℕ → Option NameOperation → Log → Log
made point height None log = log
made point height (Some operation) log = Make point operation height ∷ log

-- the outputs from a place on
abbrev pub makes : List ℕ → ℕ → ℕ → List TxOutput → Log → Log
makes txid height place [] log = log
makes txid height place (output ∷ outputs) log =
    makes txid height (suc place) outputs (made (point_at txid place) height (name_op output.script) log)

-- a transaction in a block of this height: its inputs, and then its outputs
abbrev pub touches : ℕ → Transaction → Log → Log
touches height t log = makes (txid_of t) height 0 t.outputs (spends t.inputs log)

abbrev pub all_touches : ℕ → List Transaction → Log → Log
all_touches height [] log = log
all_touches height (t ∷ ts) log = all_touches height ts (touches height t log)

-- the coinbase is never looked at for names
abbrev pub behind_coinbase : List Transaction → List Transaction
behind_coinbase transactions = drop 1 transactions

abbrev pub transactions_read : {E : Type 0} → Result Block E → List Transaction
transactions_read (Ok block) = block.transactions
transactions_read (Err e) = []

-- the transactions of a block's bytes
abbrev pub transactions_in : List ℕ → List Transaction
transactions_in bytes = transactions_read (block_from bytes)

-- the log of the blocks on a base with this start list and this height, the newest block first
abbrev pub log_of : Log → ℕ → List (List ℕ) → Log
log_of start base [] = start
log_of start base (block ∷ blocks) = all_touches (suc (base + length blocks)) (behind_coinbase (transactions_in block)) (log_of start base blocks)
