-- What a chain refuses: which blocks don't connect, and which hashes don't disconnect. The first condition that holds
-- is the refusal.
use Rattle.std.specs.Prelude.{◌≡◌, ◌≢◌, ℕ, ◌+◌, ◌<◌, ◌≤◌, List, [], length, Some}
use Rattle.block_grammar.specs.Block.{Block}
use Rattle.block_grammar.specs.Merkle.{block_root}
use Rattle.nmc_base.specs.Heights.{highest}
use Rattle.nmc_base.specs.declared.chain_ends.Base.{Base}
use Rattle.nmc_base.specs.declared.hashes.Hash32.{Hash32}
use Rattle.chain_names.specs.Log.{Log, behind_coinbase, transactions_in, log_of}
use Rattle.chain_names.specs.Index.{next_height, refused_in}
use Rattle.chain_state.specs.declared.stage.Refusal.{Refusal}
use Rattle.chain_state.specs.declared.stage.Refusal.TheVariants.{BadBlock, NotOnTip, HeightLimit, MerkleMismatch, Rule, JournalFull}
use Rattle.chain_state.specs.declared.back.BackRefusal.{BackRefusal}
use Rattle.chain_state.specs.declared.back.BackRefusal.TheVariants.{AtBase, NotTip, JournalFull as back_journal_full}
use Rattle.chain_state.specs.Standing.{hash_of}

-- ---- a connect

-- the block stands on the tip
abbrev pub IsOnTip : Base → List (List ℕ) → Block → Type 0
IsOnTip base blocks block = block.header.fields.previous ≡ hash_of base blocks

-- the chain may grow
abbrev pub MayGrow : Base → List (List ℕ) → Type 0
MayGrow base blocks = base.height + length blocks < highest

-- of bytes that are this block. The height limit is met once no height is left; the rule that is broken is the first by
-- the chain's log.
abbrev pub RefusesConnect : Base → Log → List (List ℕ) → List ℕ → Block → Refusal → Type 0
RefusesConnect base start blocks bytes block (BadBlock at) = ⊥
RefusesConnect base start blocks bytes block (NotOnTip tip) = (block.header.fields.previous ≢ hash_of base blocks) × (tip.0 ≡ hash_of base blocks)
RefusesConnect base start blocks bytes block HeightLimit = IsOnTip base blocks block × (highest ≤ base.height + length blocks)
RefusesConnect base start blocks bytes block (MerkleMismatch computed) =
    IsOnTip base blocks block × MayGrow base blocks × (block.header.fields.root ≢ computed.0) × (computed.0 ≡ block_root block)
RefusesConnect base start blocks bytes block (Rule index refusal) =
    IsOnTip base blocks block × MayGrow base blocks × (block.header.fields.root ≡ block_root block)
    × (refused_in base.profile (next_height base.height blocks) 1 (behind_coinbase (transactions_in bytes)) (log_of start base.height blocks) ≡ Some (index, refusal))
RefusesConnect base start blocks bytes block JournalFull = ⊥

-- ---- a disconnect

abbrev pub RefusesDisconnect : Base → List (List ℕ) → Hash32 → BackRefusal → Type 0
RefusesDisconnect base blocks hash AtBase = blocks ≡ []
RefusesDisconnect base blocks hash (NotTip tip) = (blocks ≢ []) × (hash.0 ≢ hash_of base blocks) × (tip.0 ≡ hash_of base blocks)
RefusesDisconnect base blocks hash back_journal_full = ⊥

-- it is allowed: there is a block, and the hash is its own
pub record MayDisconnect (base : Base) (blocks : List (List ℕ)) (hash : Hash32) : Type 0 where
  pub some : blocks ≢ []
  pub hash_is : hash.0 ≡ hash_of base blocks
