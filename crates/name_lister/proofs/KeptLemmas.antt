-- What is kept of a chain, by the index that stands for it.
use Rattle.std.proofs.Common.{ℕ, List, ◌∷◌, Option, Some, None}
use Rattle.chain_state.specs.Chain.{Indexed}
use Rattle.chain_commands.specs.Chain.{Chain, with_block, without_newest}
use Rattle.index_commands.specs.Standing as chains
use Rattle.listing_sessions.specs.Pinned.{IsMirrorOn}
use Rattle.sliced_save.specs.Mirror.{Mirrored}
use Rattle.sliced_save.proofs.IndexMirror.{chain_now, chain_without, index_now, index_without}
use Rattle.name_lister.specs.Kept.{IsMirrorNow, IsMirrorBefore}

pub mirror_on : (chain : Chain) (c : Indexed) (mirror : Option Mirrored) → chains.StandsFor c chain → IsMirrorNow c mirror → IsMirrorOn chain mirror
mirror_on chain c None s is = tt
mirror_on chain c (Some m) s is = chain_now chain.base chain.start chain.blocks c m s is

pub mirror_now : (chain : Chain) (c : Indexed) (mirror : Option Mirrored) → chains.StandsFor c chain → IsMirrorOn chain mirror → IsMirrorNow c mirror
mirror_now chain c None s is = tt
mirror_now chain c (Some m) s is = index_now chain.base chain.start chain.blocks c m s is

-- of the chain below the index's newest block
pub mirror_before : (chain : Chain) (block : List ℕ) (c : Indexed) (mirror : Option Mirrored) → chains.StandsFor c (with_block chain block) → IsMirrorOn chain mirror → IsMirrorBefore c mirror
mirror_before chain block c None s is = tt
mirror_before chain block c (Some m) s is = index_without chain.base chain.start (block ∷ chain.blocks) c m s is

-- of the index's chain without its newest block
pub mirror_without : (chain : Chain) (c : Indexed) (mirror : Option Mirrored) → chains.StandsFor c chain → IsMirrorBefore c mirror → IsMirrorOn (without_newest chain) mirror
mirror_without chain c None s is = tt
mirror_without chain c (Some m) s is = chain_without chain.base chain.start chain.blocks c m s is
