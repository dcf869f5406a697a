-- Connects: when the bytes of a block are refused, with what, and what they leave.
use Rattle.std.specs.Prelude.{◌≡◌, ◌≢◌, ℕ, ◌≤◌, List, [], Option, Some}
use Rattle.std.specs.Int.{w32, to_le_bytes}
use Rattle.block_grammar.specs.Block.{Block, IsBlock}
use Rattle.block_grammar.specs.Merkle.{block_root}
use Rattle.block_grammar.specs.Fault.{IsFaultPlace}
use Rattle.chain_names.specs.declared.refusal.RuleRefusal.{RuleRefusal}
use Rattle.chain_names.specs.Log.{behind_coinbase, log_of}
use Rattle.chain_names.specs.Changes.{Refused}
use Rattle.chain_names.specs.Index.{next_height, refused_in}
use Rattle.chain_names.specs.Refusals.{number_of}
use Rattle.nmc_base.specs.Heights.{highest}
use Rattle.chain_commands.specs.Chain.{Chain, tip_hash, height_of}
use Rattle.chain_commands.specs.Event.{Connect}
use Rattle.chain_commands.specs.RunState.{RunState, chain_of, IsFull}
use Rattle.feed_frames.specs.Replies.{Reply}
use Rattle.chain_commands.specs.Refusals.{Refusals, IsFirst, HasNoneBelow, Answers, LeavesDone}

pub data Refusal : Type 0 where
  -- no block; the place of the fault
  BadBlock : ℕ → Refusal
  -- the previous hash isn't the tip's; the tip's hash
  NotOnTip : List ℕ → Refusal
  -- the tip has the greatest height
  HeightLimit : Refusal
  -- the header's Merkle root isn't that of the transactions, which is told
  MerkleMismatch : List ℕ → Refusal
  -- a transaction breaks a rule on names; its index, the coinbase being 0, and the rule
  Rule : ℕ → RuleRefusal → Refusal
  -- the journal has no room for the block
  JournalFull : Refusal

-- some block is spelled by the bytes, and its previous hash is another one
pub record IsOffTip (tip bytes : List ℕ) : Type 0 where
  pub block : Block
  pub is_block : IsBlock bytes block
  pub off : block.header.fields.previous ≢ tip

-- some block is spelled by the bytes, its header has another root, and this is the root of its transactions
pub record HasOtherRoot (bytes computed : List ℕ) : Type 0 where
  pub block : Block
  pub is_block : IsBlock bytes block
  pub other : block.header.fields.root ≢ block_root block
  pub computed_is : computed ≡ block_root block

-- The first transaction of the chain's next block that breaks a rule, the coinbase aside. The coins that it may spend
-- and the names that stand are read off the log of the chain's blocks and of the transactions before it.
abbrev pub refused_on : Chain → Block → Option Refused
refused_on chain block =
    refused_in chain.base.profile (next_height chain.base.height chain.blocks) 1 (behind_coinbase block.transactions)
    (log_of chain.start chain.base.height chain.blocks)

-- some block is spelled by the bytes, and this is the first of its transactions that breaks a rule
pub record BreaksRule (chain : Chain) (bytes : List ℕ) (index : ℕ) (refusal : RuleRefusal) : Type 0 where
  pub block : Block
  pub is_block : IsBlock bytes block
  pub refused : refused_on chain block ≡ Some (index, refusal)

-- the condition of a refusal alone, wherever it stands in the order
abbrev pub Holds : (full : Type 0) → Chain → List ℕ → Refusal → Type 0
Holds full chain bytes (BadBlock place) = IsFaultPlace bytes place
Holds full chain bytes (NotOnTip tip) = IsOffTip (tip_hash chain) bytes × (tip ≡ tip_hash chain)
Holds full chain bytes HeightLimit = highest ≤ height_of chain
Holds full chain bytes (MerkleMismatch computed) = HasOtherRoot bytes computed
Holds full chain bytes (Rule index refusal) = BreaksRule chain bytes index refusal
Holds full chain bytes JournalFull = full

abbrev pub order_of : Refusal → ℕ
order_of (BadBlock place) = 0
order_of (NotOnTip tip) = 1
order_of HeightLimit = 2
order_of (MerkleMismatch computed) = 3
order_of (Rule index refusal) = 4
order_of JournalFull = 5

abbrev pub refusal_reply : Refusal → Reply
refusal_reply (BadBlock place) = record { code = 1; payload = to_le_bytes w32 place }
refusal_reply (NotOnTip tip) = record { code = 2; payload = tip }
refusal_reply HeightLimit = record { code = 4; payload = [] }
refusal_reply (MerkleMismatch computed) = record { code = 3; payload = computed }
refusal_reply (Rule index refusal) = record { code = number_of refusal; payload = to_le_bytes w32 index }
refusal_reply JournalFull = record { code = 5; payload = [] }

-- the root takes memory, and so does what comes behind it
abbrev pub connects : Refusals Refusal
connects = record { order = order_of; places = 6; before_memory = 3; reply_of = refusal_reply }

-- the refusal of the bytes on the chain, where the journal is as full as this
abbrev pub Refuses : (full : Type 0) → Chain → List ℕ → Refusal → Type 0
Refuses full chain bytes refusal = IsFirst (Holds full chain bytes) order_of refusal

abbrev pub IsValid : (full : Type 0) → Chain → List ℕ → Type 0
IsValid full chain bytes = HasNoneBelow (Holds full chain bytes) order_of connects.places

abbrev pub TakesMemory : (full : Type 0) → Chain → List ℕ → Type 0
TakesMemory full chain bytes = HasNoneBelow (Holds full chain bytes) order_of connects.before_memory

-- from the old state the machine may give this reply to the bytes and go on to the new state
abbrev pub Connects : RunState → List ℕ → Reply → RunState → Type 0
Connects old bytes reply new =
    Answers connects (Holds (IsFull old (Connect bytes)) (chain_of old) bytes) (LeavesDone old (Connect bytes)) old reply new
