-- The index stands for a chain of blocks on its base. Chains are lists, the newest block first.
use Rattle.std.specs.Prelude.{◌≡◌, ℕ, ◌+◌, ◌<◌, ◌≤◌, List, [], ◌∷◌, length, None}
use Rattle.block_grammar.specs.Block.{Block, IsBlock}
use Rattle.block_grammar.specs.Merkle.{block_root}
use Rattle.nmc_base.specs.Heights.{highest}
use Rattle.nmc_base.specs.declared.limits.TheConstants.{LONGEST_BLOCK}
use Rattle.nmc_base.specs.declared.chain_ends.Base.{Base}
use Rattle.chain_names.specs.Log.{Log, behind_coinbase, transactions_in, log_of}
use Rattle.chain_names.specs.Coins.{Maps}
use Rattle.chain_names.specs.Index.{index_maps, next_height, refused_in}
use Rattle.chain_names.specs.Tables.{queued_in, queue_of}
use Rattle.chain_names.specs.Sound.{IsBeginning}
use Rattle.chain_names.specs.UndoOf.{hash_in, AreUndos}
use Rattle.name_tables.specs.Tables.{maps_by}
use Rattle.chain_state.specs.Chain.{Indexed}

-- the hash of the newest block, or of the base
abbrev pub hash_of : Base → List (List ℕ) → List ℕ
hash_of base [] = base.hash.0
hash_of base (block ∷ blocks) = hash_in block

-- The bytes are a valid block on these: there are no more than a block may have, it stands on the newest, the chain may
-- grow, its root is that of its transactions, and the log refuses none of them.
pub record IsValidOn (base : Base) (start : Log) (blocks : List (List ℕ)) (bytes : List ℕ) : Type 0 where
  pub block : Block
  pub is_block : IsBlock bytes block
  pub short : length bytes ≤ LONGEST_BLOCK
  pub on_tip : block.header.fields.previous ≡ hash_of base blocks
  pub low : base.height + length blocks < highest
  pub root : block.header.fields.root ≡ block_root block
  pub unrefused : refused_in base.profile (next_height base.height blocks) 1 (behind_coinbase (transactions_in bytes)) (log_of start base.height blocks) ≡ None

-- the base and the start list are ones, and each block is valid on those below it
abbrev pub AreValid : Base → Log → List (List ℕ) → Type 0
AreValid base start [] = IsBeginning base.profile start base.height
AreValid base start (block ∷ blocks) = IsValidOn base start blocks block × AreValid base start blocks

-- what the chain's log says of coins and names
abbrev pub chain_maps : Base → Log → List (List ℕ) → Maps
chain_maps base start blocks = index_maps base.profile start base.height blocks

-- Base and tip are the chain's, the tables of coins and names say what the chain's log says, the queue is that of these
-- coins, and each block has what undoes it.
pub record StandsForChain (base : Base) (start : Log) (blocks : List (List ℕ)) (c : Indexed) : Type 0 where
  pub base_is : c.base ≡ base
  pub height : c.tip.height ≡ base.height + length blocks
  pub hash : c.tip.hash.0 ≡ hash_of base blocks
  pub maps : maps_by c.tables ≡ chain_maps base start blocks
  pub queue : queued_in c.tables.queue ≡ queue_of (chain_maps base start blocks).coins
  pub undos : AreUndos base.profile start base.height blocks c.undos
  pub valid : AreValid base start blocks
