-- The chain of blocks that an index follows.
use Rattle.std.specs.Prelude.{ℕ, ◌+◌, List, [], ◌∷◌, length, drop}
use Rattle.block_grammar.specs.Block.{block_hash}
use Rattle.chain_names.specs.Log.{Log}
use Rattle.nmc_base.specs.declared.chain_ends.Base.{Base}

-- where the index starts, the makes that stand before the first block, and the blocks, the newest first
pub record Chain : Type 0 where
  pub base : Base
  pub start : Log
  pub blocks : List (List ℕ)

abbrev pub height_of : Chain → ℕ
height_of chain = chain.base.height + length chain.blocks

-- the hash of the newest block, or the base's
abbrev pub newest_hash : Base → List (List ℕ) → List ℕ
newest_hash base [] = base.hash.0
newest_hash base (block ∷ blocks) = block_hash block

abbrev pub tip_hash : Chain → List ℕ
tip_hash chain = newest_hash chain.base chain.blocks

abbrev pub with_block : Chain → List ℕ → Chain
with_block chain block = record { base = chain.base; start = chain.start; blocks = block ∷ chain.blocks }

abbrev pub without_newest : Chain → Chain
without_newest chain = record { base = chain.base; start = chain.start; blocks = drop 1 chain.blocks }
