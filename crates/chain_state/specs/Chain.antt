-- The index of a chain: its base and tip, what its tables say, and what undoes its blocks.
use Rattle.std.specs.Prelude.{◌≡◌, suc, ◌+◌, length, ◌<◌, List, [], ◌∷◌, Option, None}
use Rattle.block_grammar.specs.Block.{Block}
use Rattle.block_grammar.specs.Merkle.{block_root}
use Rattle.block_grammar.specs.Header.{header_hash}
use Rattle.nmc_base.specs.Heights.{highest}
use Rattle.nmc_base.specs.declared.chain_ends.Base.{Base}
use Rattle.nmc_base.specs.declared.chain_ends.Tip.{Tip}
use Rattle.nmc_base.specs.Roomy.{Roomy}
use Rattle.nmc_base.specs.declared.hashes.Hash32.{Hash32}
use Rattle.chain_names.specs.Coins.{maps_of}
use Rattle.chain_names.specs.Log.{Log, behind_coinbase}
use Rattle.chain_names.specs.Changes.{Refused, first_refused, after_block}
use Rattle.chain_names.specs.Tables.{coins_in, queued_in, queue_of}
use Rattle.chain_names.specs.Undo.{UndoRecord}
use Rattle.chain_names.specs.UndoOf.{IsUndoByMaps}
use Rattle.chain_names.specs.Sound.{IsBeginning, IsSound}
use Rattle.name_tables.specs.declared.parts.Parts.{Parts}
use Rattle.chain_names.specs.declared.undo.Undo.{Undo}
use Rattle.name_tables.specs.Parts.{newest_first, tables_of}
use Rattle.name_tables.specs.Tables.{AreFilled}
use Rattle.name_tables.specs.Tables.{maps_by}
use Rattle.chain_state.specs.Whole.{IsWhole, maps_before_block}
use Rattle.name_tables.specs.declared.tables.Tables.{Tables}
use Rattle.chain_state.specs.declared.whole.Whole.{Whole}

pub record Indexed : Type 0 where
  pub base : Base
  pub tip : Tip
  pub tables : Tables
  -- what undoes its blocks, the newest first
  pub undos : List UndoRecord

abbrev pub indexed_of : Base → Tip → Parts → Indexed
indexed_of base tip parts = record { base = base; tip = tip; tables = tables_of parts; undos = newest_first parts.undos.items }

abbrev pub index_of : Base → Tip → Tables → Roomy Undo → Indexed
index_of base tip tables undos = record { base = base; tip = tip; tables = tables; undos = newest_first undos.items }

-- the parts of the index
pub record ArePartsOf (c : Indexed) (parts : Parts) : Type 0 where
  pub tables : tables_of parts ≡ c.tables
  pub undos : newest_first parts.undos.items ≡ c.undos

-- the hash of the newest block, or of the base
abbrev pub newest_hash : Base → List UndoRecord → Hash32
newest_hash base [] = base.hash
newest_hash base (undo ∷ undos) = undo.block

-- the tip of kept parts: the hash is that of the newest record, and as many blocks stand on the base as there are records
abbrev pub kept_tip : Base → Parts → Tip
kept_tip base parts = record { height = base.height + length parts.undos.items; hash = newest_hash base (newest_first parts.undos.items) }

-- A sound index: the tip is that of its newest record, the queue is that of the coins, each place holds something, and
-- coins, histories and records are sound with the base.
pub record IsIndexed (c : Indexed) : Type 0 where
  pub hash : c.tip.hash ≡ newest_hash c.base c.undos
  pub queue : queued_in c.tables.queue ≡ queue_of (coins_in c.tables.coins)
  pub filled : AreFilled c.tables
  pub sound : IsSound c.base.profile c.base.height c.tip.height (maps_by c.tables) c.undos

-- the same index: base, tip, the maps of coins, names and queue, and what undoes the blocks
pub record SameIndex (a b : Indexed) : Type 0 where
  pub base : a.base ≡ b.base
  pub tip : a.tip ≡ b.tip
  pub maps : maps_by a.tables ≡ maps_by b.tables
  pub queue : queued_in a.tables.queue ≡ queued_in b.tables.queue
  pub undos : a.undos ≡ b.undos

-- the index of a base alone, with the coins and names of its start list
pub record IsAtStart (base : Base) (start : Log) (c : Indexed) : Type 0 where
  pub begins : IsBeginning base.profile start base.height
  pub base_is : c.base ≡ base
  pub height : c.tip.height ≡ base.height
  pub hash : c.tip.hash ≡ base.hash
  pub maps : maps_by c.tables ≡ maps_of base.profile start (suc base.height)
  pub queue : queued_in c.tables.queue ≡ queue_of (coins_in c.tables.coins)
  pub undos : c.undos ≡ []

-- without coins and names
abbrev pub IsAtBase : Base → Indexed → Type 0
IsAtBase base c = IsAtStart base [] c

-- ---- a block that is staged

pub record StagedIndex : Type 0 where
  pub base : Base
  pub tip : Tip
  pub hash : Hash32
  pub whole : Whole
  -- what undoes the blocks below it, the newest first
  pub undos : List UndoRecord

-- what undoes the staged block
abbrev pub staged_undo : Hash32 → Whole → UndoRecord
staged_undo hash whole = record { block = hash; ops = whole.work.ops.items; expired = whole.expired.items }

abbrev pub staged_of : Base → Tip → Hash32 → Whole → Roomy Undo → StagedIndex
staged_of base tip hash whole undos = record { base = base; tip = tip; hash = hash; whole = whole; undos = newest_first undos.items }

pub record IsStagedIndex (s : StagedIndex) : Type 0 where
  pub height : s.tip.height < highest
  pub tip_hash : s.tip.hash ≡ newest_hash s.base s.undos
  pub work_height : s.whole.work.height ≡ suc s.tip.height
  pub whole : IsWhole s.whole
  pub sound_before : IsSound s.base.profile s.base.height s.tip.height (maps_before_block s.whole) s.undos
  pub sound_after : IsSound s.base.profile s.base.height (suc s.tip.height) (maps_by s.whole.work.tables) (staged_undo s.hash s.whole ∷ s.undos)

-- ---- what staging a block answers

-- its transactions behind the coinbase, in the chain's next block
abbrev pub rule_refused : Indexed → Block → Option Refused
rule_refused c block = first_refused c.base.profile (suc c.tip.height) 1 (behind_coinbase block.transactions) (maps_by c.tables)

-- the block is staged: it stands on the tip, the chain may grow, its root is that of its transactions, which are accepted
pub record IsStagedOn (c : Indexed) (block : Block) (s : StagedIndex) : Type 0 where
  pub on_tip : block.header.fields.previous ≡ c.tip.hash.0
  pub low : c.tip.height < highest
  pub root : block.header.fields.root ≡ block_root block
  pub accepted : rule_refused c block ≡ None
  pub base : s.base ≡ c.base
  pub tip : s.tip ≡ c.tip
  pub hash : s.hash.0 ≡ header_hash block.header
  pub before : maps_before_block s.whole ≡ maps_by c.tables
  pub queue : queued_in c.tables.queue ≡ queue_of (coins_in c.tables.coins)
  pub after : maps_by s.whole.work.tables ≡ after_block c.base.profile (suc c.tip.height) (behind_coinbase block.transactions) (maps_by c.tables)
  -- what undoes it: its operations in order, and each coin that is expired in the next block, by their outpoints
  pub undoes : IsUndoByMaps c.base.profile (suc c.tip.height) (behind_coinbase block.transactions) (maps_by c.tables) (staged_undo s.hash s.whole)
  pub undos : s.undos ≡ c.undos

-- the chain with the block
pub record IsConnected (s : StagedIndex) (c : Indexed) : Type 0 where
  pub base : c.base ≡ s.base
  pub height : c.tip.height ≡ suc s.tip.height
  pub hash : c.tip.hash ≡ s.hash
  pub maps : maps_by c.tables ≡ maps_by s.whole.work.tables
  pub queue : queued_in c.tables.queue ≡ queue_of (coins_in c.tables.coins)
  pub undos : c.undos ≡ staged_undo s.hash s.whole ∷ s.undos

-- the chain without it
pub record IsAbandoned (s : StagedIndex) (c : Indexed) : Type 0 where
  pub base : c.base ≡ s.base
  pub tip : c.tip ≡ s.tip
  pub maps : maps_by c.tables ≡ maps_before_block s.whole
  pub queue : queued_in c.tables.queue ≡ queue_of (coins_in c.tables.coins)
  pub undos : c.undos ≡ s.undos
