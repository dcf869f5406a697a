-- The blocks of a run, each about one name.
use Rattle.std.specs.Prelude.{ℕ, zero, suc, ◌+◌, ◌==◌, if◌then◌else◌, List, replicate, codes, Option}
use Rattle.nmc_base.specs.declared.chain_ends.Base.{Base}
use Rattle.nmc_base.specs.declared.chain_ends.Profile.TheVariants.{Regtest}
use Rattle.nmc_base.specs.declared.chain_ends.Tip.{Tip}
use Rattle.block_grammar.specs.Block.{block_text, block_hash}
use Rattle.block_maker.specs.Generated.{Making, generated_block}
use Rattle.generated_chain.specs.Draws.{state_behind, number_drawn}
use Rattle.generated_chain.specs.Stands.{unknown, deed_at, making_by, stand_behind}
use Rattle.generated_chain.specs.declared.stand.Stand.{Stand}

-- where a run starts, and the host of its index
abbrev pub run_base : Base
run_base = record { profile = Regtest; height = 0; hash = record { 0 = replicate 32 0 } }

abbrev pub run_host : List ℕ
run_host = codes "ns.example."

-- what the block on a tip makes, which is about a name that stands so
abbrev pub making_on : Tip → (number : ℕ) → Stand → Option Making
making_on tip number stand = making_by (tip.height + 1) number (deed_at (tip.height + 1) stand)

-- the bytes of this block
abbrev pub block_on : Tip → (number : ℕ) → Stand → List ℕ
block_on tip number stand = block_text (generated_block tip (making_on tip number stand))

-- the tip with these bytes on it
abbrev pub tip_with : Tip → List ℕ → Tip
tip_with tip bytes = record { height = tip.height + 1; hash = record { 0 = block_hash bytes } }

-- ---- behind the blocks of a run, so many

-- the name that the next block is about; each block is one draw
abbrev pub number_at : (seed blocks : ℕ) → ℕ
number_at seed blocks = number_drawn (state_behind seed (blocks + 1))

-- how a name stands
unfoldable pub stand_at : (seed number blocks : ℕ) → Stand
stand_at seed number zero = unknown
stand_at seed number (suc blocks) =
    if number_at seed blocks == number then stand_behind (blocks + 1) number (stand_at seed number blocks)
    else stand_at seed number blocks

-- how the name stands that the next block is about
abbrev pub drawn_stand : (seed blocks : ℕ) → Stand
drawn_stand seed blocks = stand_at seed (number_at seed blocks) blocks

-- the tip
unfoldable pub tip_at : (seed blocks : ℕ) → Tip
tip_at seed zero = record { height = run_base.height; hash = run_base.hash }
tip_at seed (suc blocks) =
    tip_with (tip_at seed blocks) (block_on (tip_at seed blocks) (number_at seed blocks) (drawn_stand seed blocks))
