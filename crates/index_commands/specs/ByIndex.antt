-- What staging a command answers by the index alone, whatever chain it stands for: its coins are the live coins, its histories the
-- entries.
use Rattle.std.specs.Prelude.{◌≡◌, ◌≢◌, ℕ, ◌<◌, List, []}
use Rattle.block_grammar.specs.Block.{Block, IsBlock}
use Rattle.block_grammar.specs.Fault.{IsFaultPlace}
use Rattle.nmc_base.specs.Heights.{highest}
use Rattle.nmc_base.specs.declared.hashes.Hash32.{Hash32}
use Rattle.chain_state.specs.Chain.{Indexed, SameIndex, StagedIndex, IsStagedOn, IsAbandoned}
use Rattle.chain_state.specs.Stage.{IsRefusal}
use Rattle.chain_state.specs.StageBack.{IsBackRefusal}
use Rattle.chain_state.specs.declared.stage.Refusal.{Refusal}
use Rattle.chain_state.specs.declared.stage.Refusal.TheVariants.{BadBlock, NotOnTip, HeightLimit, MerkleMismatch, Rule, JournalFull}
use Rattle.chain_state.specs.declared.stage.StageOutcome.{StageOutcome}
use Rattle.chain_state.specs.declared.stage.StageOutcome.TheVariants.{Staged, Refused, NoMemory}
use Rattle.chain_state.specs.declared.back.BackRefusal.{BackRefusal}
use Rattle.chain_state.specs.declared.back.BackRefusal.TheVariants as back
use Rattle.chain_state.specs.declared.back.BackOutcome.{BackOutcome}
use Rattle.chain_state.specs.declared.back.BackOutcome.TheVariants.{StagedBack, Refused as back_refused, NoMemory as back_memory}
use Rattle.index_commands.specs.Staged.{OfConnect, OfDisconnect}
use Rattle.index_commands.specs.declared.command.ChainCommand.{ChainCommand}
use Rattle.index_commands.specs.declared.command.ChainCommand.TheVariants.{Connect as a_block, Disconnect as a_hash}
use Rattle.index_commands.specs.declared.staged.CommandOutcome.{CommandOutcome}

-- ---- the bytes of a block

-- they are a block, which is staged so
pub record TakesBlock (index : Indexed) (bytes : List ℕ) (staged : StagedIndex) : Type 0 where
  pub block : Block
  pub is_block : IsBlock bytes block
  pub on : IsStagedOn index block staged

-- they are a block, which has this refusal first
pub record RefusesBlock (index : Indexed) (bytes : List ℕ) (refusal : Refusal) (same : Indexed) : Type 0 where
  pub block : Block
  pub is_block : IsBlock bytes block
  pub refuses : IsRefusal index block refusal
  pub stays : SameIndex same index

-- they are a block that could be staged, but the area is full
pub record RefusesFull (full : Type 0) (index : Indexed) (bytes : List ℕ) (same : Indexed) : Type 0 where
  pub staged : StagedIndex
  pub takes : TakesBlock index bytes staged
  pub is_full : full
  pub stays : IsAbandoned staged same

-- this is their refusal, where the area is as full as this, and the index stays
abbrev pub RefusesBytes : (full : Type 0) → Indexed → List ℕ → Refusal → Indexed → Type 0
RefusesBytes full index bytes (BadBlock at) same = IsFaultPlace bytes at × SameIndex same index
RefusesBytes full index bytes (NotOnTip tip) same = RefusesBlock index bytes (NotOnTip tip) same
RefusesBytes full index bytes HeightLimit same = RefusesBlock index bytes HeightLimit same
RefusesBytes full index bytes (MerkleMismatch computed) same = RefusesBlock index bytes (MerkleMismatch computed) same
RefusesBytes full index bytes (Rule tx refusal) same = RefusesBlock index bytes (Rule tx refusal) same
RefusesBytes full index bytes JournalFull same = RefusesFull full index bytes same

-- they are a block on the tip, below the greatest height: memory is taken for it, and the index stays
pub record LacksMemory (index : Indexed) (bytes : List ℕ) (same : Indexed) : Type 0 where
  pub block : Block
  pub is_block : IsBlock bytes block
  pub on_tip : block.header.fields.previous ≡ index.tip.hash.0
  pub low : index.tip.height < highest
  pub stays : SameIndex same index

abbrev pub StagesOn : (full : Type 0) → Indexed → List ℕ → StageOutcome → Type 0
StagesOn full old bytes (Staged s) = TakesBlock old bytes s
StagesOn full old bytes (Refused same refusal) = RefusesBytes full old bytes refusal same
StagesOn full old bytes (NoMemory same) = LacksMemory old bytes same

-- ---- the hash of the newest block

-- it is the tip's, and a block stands on the base: the index may lose it, and stays so far
pub record MayLose (index : Indexed) (hash : Hash32) (same : Indexed) : Type 0 where
  pub above : index.undos ≢ []
  pub hash_is : hash ≡ index.tip.hash
  pub stays : SameIndex same index

abbrev pub RefusesHash : (full : Type 0) → Indexed → Hash32 → BackRefusal → Indexed → Type 0
RefusesHash full index hash back.AtBase same = IsBackRefusal index hash back.AtBase × SameIndex same index
RefusesHash full index hash (back.NotTip tip) same = IsBackRefusal index hash (back.NotTip tip) × SameIndex same index
RefusesHash full index hash back.JournalFull same = full × MayLose index hash same

abbrev pub StagesBackOn : (full : Type 0) → Indexed → Hash32 → BackOutcome → Type 0
StagesBackOn full old hash (StagedBack s) = MayLose old hash s
StagesBackOn full old hash (back_refused same refusal) = RefusesHash full old hash refusal same
StagesBackOn full old hash (back_memory same) = MayLose old hash same

-- ---- a command of either kind

abbrev pub StagesCommandOn : (full : Type 0) → Indexed → ChainCommand → CommandOutcome → Type 0
StagesCommandOn full old (a_block bytes) outcome = OfConnect (StagesOn full old bytes.now) outcome
StagesCommandOn full old (a_hash hash) outcome = OfDisconnect (StagesBackOn full old hash) outcome
