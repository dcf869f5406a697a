-- What undoes the last block of a chain, read off the chain's log. Chains and their undo records are lists, the newest first.
use Rattle.std.specs.Prelude.{◌≡◌, ℕ, suc, List, [], ◌∷◌, ◌++◌, Result, Ok, Err}
use Rattle.block_grammar.specs.Block.{Block}
use Rattle.block_grammar.specs.Header.{header_hash}
use Rattle.block_grammar.specs.Reading.{block_from}
use Rattle.block_grammar.specs.Transaction.{Transaction, txid_of}
use Rattle.nmc_base.specs.declared.chain_ends.Profile.{Profile}
use Rattle.chain_names.specs.declared.undo.UndoOp.{UndoOp}
use Rattle.chain_names.specs.Log.{Log, touches, behind_coinbase, transactions_in, log_of}
use Rattle.chain_names.specs.Coins.{Maps, live_coin, maps_of}
use Rattle.chain_names.specs.Verdict.{verdict}
use Rattle.chain_names.specs.Changes.{after_all, after_block, undo_of_verdict, undo_ops}
use Rattle.chain_names.specs.Index.{next_height}
use Rattle.chain_names.specs.Undo.{UndoRecord}
use Rattle.chain_names.specs.Expired.{IsSortedByPoint, IsDue}

-- The undo operations of the transactions of a block at a height, in order: for each name output the outpoint made, and
-- for one that opens or updates a name also the outpoint and the coin that it spends, the name, and its entry. The log
-- is that up to the transaction before: it is searched anew for each.
abbrev pub undo_ops_in : Profile → ℕ → List Transaction → Log → List UndoOp
undo_ops_in profile height [] log = []
undo_ops_in profile height (t ∷ ts) log =
    undo_of_verdict (maps_of profile log height) (txid_of t) (verdict profile (maps_of profile log height) height t)
    ++ undo_ops_in profile height ts (touches height t log)

abbrev pub hash_read : {E : Type 0} → Result Block E → List ℕ
hash_read (Ok block) = header_hash block.header
hash_read (Err e) = []

-- the hash of a block's bytes
abbrev pub hash_in : List ℕ → List ℕ
hash_in bytes = hash_read (block_from bytes)

-- The record undoes the block on these blocks, on a base with this start list and this height: its hash, its undo operations, and every coin
-- of the whole log at its height that is none at the next.
pub record IsUndoOf (profile : Profile) (start : Log) (base : ℕ) (block : List ℕ) (blocks : List (List ℕ)) (u : UndoRecord) : Type 0 where
  pub hash : u.block.0 ≡ hash_in block
  pub ops : u.ops ≡ undo_ops_in profile (next_height base blocks) (behind_coinbase (transactions_in block)) (log_of start base blocks)
  pub due : IsDue (live_coin profile (log_of start base (block ∷ blocks)) (next_height base blocks))
      (live_coin profile (log_of start base (block ∷ blocks)) (suc (next_height base blocks))) u.expired
  pub sorted : IsSortedByPoint u.expired

-- each block has its undo record
abbrev pub AreUndos : Profile → Log → ℕ → List (List ℕ) → List UndoRecord → Type 0
AreUndos profile start base [] [] = Unit {0}
AreUndos profile start base [] (u ∷ us) = ⊥
AreUndos profile start base (block ∷ blocks) [] = ⊥
AreUndos profile start base (block ∷ blocks) (u ∷ us) = IsUndoOf profile start base block blocks u × AreUndos profile start base blocks us

-- ---- by the maps

-- The record undoes the transactions of a block at a height on these maps, whatever the block's hash is: their undo
-- operations, and every coin that is due, in order.
pub record IsUndoByMaps (profile : Profile) (height : ℕ) (transactions : List Transaction) (maps : Maps) (u : UndoRecord) : Type 0 where
  pub ops : u.ops ≡ undo_ops profile height transactions maps
  pub due : IsDue (after_all profile height transactions maps).coins (after_block profile height transactions maps).coins u.expired
  pub sorted : IsSortedByPoint u.expired
