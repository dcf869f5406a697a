-- Sound states, and the chains that are accepted on a base.
use Rattle.std.specs.Prelude.{◌≡◌, ℕ, suc, ◌<◌, ◌≤◌, ◌^◌, List, [], ◌∷◌, length, None}
use Rattle.std.specs.List.{AllByRecursion}
use Rattle.block_grammar.specs.Block.{Block, IsBlock, count_outputs}
use Rattle.block_grammar.specs.Transaction.{Transaction}
use Rattle.nmc_base.specs.declared.chain_ends.Profile.{Profile}
use Rattle.chain_names.specs.declared.coin.Item.{Item}
use Rattle.chain_names.specs.Coins.{Maps}
use Rattle.chain_names.specs.Changes.{first_refused, undone}
use Rattle.chain_names.specs.Index.{next_height, refused_in}
use Rattle.chain_names.specs.Log.{Log, behind_coinbase, transactions_in, log_of}
use Rattle.chain_names.specs.Start.{IsStart}
use Rattle.chain_names.specs.Undo.{UndoRecord}
use Rattle.nmc_base.specs.Heights.{highest}
use Rattle.nmc_base.specs.declared.limits.TheConstants.{LONGEST_BLOCK}
use Rattle.chain_names.specs.State.{IsState}
use Rattle.chain_names.specs.Fits.{FitsState}
use Rattle.chain_names.specs.Limits.{IsWithinLimits}

-- an item's own height is that of its registration
abbrev pub BeginsRegistration : Item → Type 0
BeginsRegistration item = item.registered ≡ item.height

-- the base alone: no coin and no item is higher than it, as the state says, and each item begins its registration
pub record IsBaseState (profile : Profile) (base tip : ℕ) (maps : Maps) : Type 0 where
  pub at_base : tip ≡ base
  pub state : IsState profile tip maps
  pub registered : (name : List ℕ) → AllByRecursion BeginsRegistration (maps.names name)

-- the tip's undo record fits the state, and below it is one height less
pub record IsTipState (profile : Profile) (tip below : ℕ) (u : UndoRecord) (maps : Maps) : Type 0 where
  pub above : tip ≡ suc below
  pub state : IsState profile tip maps
  pub limits : IsWithinLimits u
  pub fits : FitsState profile tip u maps

-- A state is sound where each undo record fits, from the newest to the oldest, and each state on the way down to the base
-- is one.
abbrev pub IsSound : Profile → ℕ → ℕ → Maps → List UndoRecord → Type 0
IsSound profile base tip maps [] = IsBaseState profile base tip maps
IsSound profile base tip maps (u ∷ us) = (below : ℕ) × IsTipState profile tip below u maps × IsSound profile base below (undone u.ops u.expired maps) us

-- The transactions may be those of the next block: it is no higher than any chain may be, they have fewer than 2^32 outputs in
-- all, and none is refused, from whichever index they are counted.
pub record MayFollow (profile : Profile) (tip : ℕ) (transactions : List Transaction) (maps : Maps) : Type 0 where
  pub low : suc tip ≤ highest
  pub few : count_outputs transactions < 2 ^ 32
  pub index : ℕ
  pub unrefused : first_refused profile (suc tip) index transactions maps ≡ None

-- ---- accepted chains

-- the bytes on these blocks: they are a block of at most 8,388,608 bytes, which is no higher than any chain may be, and none
-- of its transactions is refused
pub record IsAccepted (profile : Profile) (start : Log) (base : ℕ) (block : List ℕ) (blocks : List (List ℕ)) : Type 0 where
  pub low : next_height base blocks ≤ highest
  pub content : Block
  pub is_block : IsBlock block content
  pub short : length block ≤ LONGEST_BLOCK
  pub unrefused : refused_in profile (next_height base blocks) 1 (behind_coinbase (transactions_in block)) (log_of start base blocks) ≡ None

-- a chain may begin so
pub record IsBeginning (profile : Profile) (start : Log) (base : ℕ) : Type 0 where
  pub low : base ≤ highest
  pub starts : IsStart profile base start

-- each block on those below it
abbrev pub AreAccepted : Profile → Log → ℕ → List (List ℕ) → Type 0
AreAccepted profile start base [] = IsBeginning profile start base
AreAccepted profile start base (block ∷ blocks) = IsAccepted profile start base block blocks × AreAccepted profile start base blocks
