-- What staging a block answers.
use Rattle.std.specs.Prelude.{◌≡◌, ◌≢◌, ℕ, ◌+◌, ◌*◌, ◌<◌, ◌≤◌, List, [], length, map, Some}
use Rattle.block_grammar.specs.Block.{Block}
use Rattle.block_grammar.specs.Merkle.{block_root}
use Rattle.block_grammar.specs.Transaction.{txid_of}
use Rattle.block_reader.specs.Rows.{seen_row}
use Rattle.nmc_base.specs.Heights.{highest}
use Rattle.nmc_base.specs.declared.hashes.Hash32.{Hash32}
use Rattle.chain_state.specs.Chain.{Indexed, SameIndex, StagedIndex, rule_refused, IsStagedOn}
use Rattle.chain_state.specs.Cost.{touched_by}
use Rattle.name_tables.specs.declared.tables.Tables.{Tables}
use Rattle.chain_state.specs.declared.work.Work.{Work}
use Rattle.chain_state.specs.declared.stage.Refusal.{Refusal}
use Rattle.chain_state.specs.declared.stage.Refusal.TheVariants.{BadBlock, NotOnTip, HeightLimit, MerkleMismatch, Rule, JournalFull}
use Rattle.chain_state.specs.declared.stage.StageOutcome.{StageOutcome}
use Rattle.chain_state.specs.declared.stage.StageOutcome.TheVariants.{Staged, Refused, NoMemory}

-- no work was done yet
pub record Begins (tables : Tables) (height : ℕ) (w : Work) : Type 0 where
  pub tables_are : w.tables ≡ tables
  pub height_is : w.height ≡ height
  pub ops : w.ops.items ≡ []
  pub empty : w.empty.items ≡ []
  pub room : 1 ≤ w.empty.spare

-- the ids of the block's transactions, and their Merkle root
pub record HasIdsAndRoot (block : Block) (ids : List Hash32) (root : Hash32) : Type 0 where
  pub ids_are : seen_row ids ≡ map txid_of block.transactions
  pub root_is : root.0 ≡ block_root block

-- the steps that its commit takes at most
abbrev pub commit_steps : StagedIndex → ℕ
commit_steps s = 2 * length s.whole.work.ops.items + 2 * length s.whole.expired.items

-- the steps that giving it up takes at most
abbrev pub abandon_steps : StagedIndex → ℕ
abandon_steps s = 8 * length s.whole.work.ops.items + 2 * length s.whole.expired.items

-- where a block was staged, with its commit: eight steps for each input, each output and each coin that became due, and eight
abbrev pub IsCheap : Block → StageOutcome → ℕ → ℕ → Type 0
IsCheap block (Staged s) before after = after + commit_steps s ≤ before + 8 * (touched_by block + length s.whole.expired.items) + 8
IsCheap block (Refused c refusal) before after = Unit {0}
IsCheap block (NoMemory c) before after = Unit {0}

-- The first condition that holds. Bytes that are no block and a full journal are refused by the layers above.
abbrev pub IsRefusal : Indexed → Block → Refusal → Type 0
IsRefusal c block (BadBlock at) = ⊥
IsRefusal c block (NotOnTip tip) = (block.header.fields.previous ≢ c.tip.hash.0) × (tip ≡ c.tip.hash)
IsRefusal c block HeightLimit = (block.header.fields.previous ≡ c.tip.hash.0) × (highest ≤ c.tip.height)
IsRefusal c block (MerkleMismatch computed) =
    (block.header.fields.previous ≡ c.tip.hash.0) × (c.tip.height < highest) × (block.header.fields.root ≢ computed.0) × (computed.0 ≡ block_root block)
IsRefusal c block (Rule index refusal) =
    (block.header.fields.previous ≡ c.tip.hash.0) × (c.tip.height < highest) × (block.header.fields.root ≡ block_root block) × (rule_refused c block ≡ Some (index, refusal))
IsRefusal c block JournalFull = ⊥

-- the block is staged, or refused by the first condition that holds, or memory ran out, for which the first two don't hold
abbrev pub Stages : Indexed → Block → StageOutcome → Type 0
Stages old block (Staged s) = IsStagedOn old block s
Stages old block (Refused c refusal) = SameIndex c old × IsRefusal old block refusal
Stages old block (NoMemory c) = SameIndex c old × (block.header.fields.previous ≡ old.tip.hash.0) × (old.tip.height < highest)
