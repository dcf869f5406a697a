-- The blocks of a run, on its base.
use Rattle.std.specs.Prelude.{ℕ, zero, suc, List, [], ◌∷◌}
use Rattle.nmc_base.specs.declared.chain_ends.Profile.TheVariants.{Regtest}
use Rattle.chain_names.specs.Coins.{Maps}
use Rattle.chain_names.specs.Index.{index_maps}
use Rattle.chain_names.specs.State.{IsState}
use Rattle.generated_chain.specs.Blocks.{block_on, drawn_stand, number_at, tip_at}
use Rattle.generated_validity.specs.Agreeing.{Agrees}

-- the bytes of the block behind so many blocks
abbrev pub block_behind : (seed blocks : ℕ) → List ℕ
block_behind seed blocks = block_on (tip_at seed blocks) (number_at seed blocks) (drawn_stand seed blocks)

-- so many blocks, the newest first
unfoldable pub blocks_behind : (seed blocks : ℕ) → List (List ℕ)
blocks_behind seed zero = []
blocks_behind seed (suc blocks) = block_behind seed blocks ∷ blocks_behind seed blocks

-- the coins and histories behind them
abbrev pub maps_behind : (seed blocks : ℕ) → Maps
maps_behind seed blocks = index_maps Regtest [] 0 (blocks_behind seed blocks)

-- what holds behind them, as long as no two txids are one
pub record Reaches (seed blocks : ℕ) : Type 0 where
  pub state : IsState Regtest blocks (maps_behind seed blocks)
  pub agrees : Agrees seed blocks (maps_behind seed blocks)
