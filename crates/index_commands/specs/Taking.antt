-- The commands that an index takes, and what comes of them, whatever chain it stands for: its coins are the live coins, its
-- histories the entries. Lists of commands have the newest first.
use Rattle.std.specs.Prelude.{◌≡◌, ◌≢◌, ℕ, ◌≤◌, List, [], ◌∷◌, Some}
use Rattle.block_grammar.specs.Block.{Block, IsBlock}
use Rattle.block_grammar.specs.Fault.{IsFaultPlace}
use Rattle.nmc_base.specs.Heights.{highest}
use Rattle.chain_names.specs.declared.refusal.RuleRefusal.{RuleRefusal}
use Rattle.chain_state.specs.Chain.{Indexed, SameIndex, StagedIndex, rule_refused, IsConnected}
use Rattle.chain_state.specs.StageBack.{IsDisconnected}
use Rattle.chain_commands.specs.Event.{Command, Connect, Disconnect}
use Rattle.chain_commands.specs.Connecting.{Refusal, BadBlock, NotOnTip, HeightLimit, MerkleMismatch, Rule, JournalFull, IsOffTip, HasOtherRoot}
use Rattle.chain_commands.specs.Disconnecting as back
use Rattle.chain_commands.specs.Disconnecting.{BackRefusal}
use Rattle.index_commands.specs.ByIndex.{TakesBlock}
use Rattle.index_commands.specs.Records.{HasSize}

-- ---- what the index refuses: the conditions of the machine, each by the index

-- some block is spelled by the bytes, and this is the first of its transactions that breaks a rule
pub record BreaksRuleOn (index : Indexed) (bytes : List ℕ) (tx : ℕ) (refusal : RuleRefusal) : Type 0 where
  pub block : Block
  pub is_block : IsBlock bytes block
  pub refused : rule_refused index block ≡ Some (tx, refusal)

abbrev pub HoldsOn : Indexed → List ℕ → Refusal → Type 0
HoldsOn index bytes (BadBlock place) = IsFaultPlace bytes place
HoldsOn index bytes (NotOnTip tip) = IsOffTip index.tip.hash.0 bytes × (tip ≡ index.tip.hash.0)
HoldsOn index bytes HeightLimit = highest ≤ index.tip.height
HoldsOn index bytes (MerkleMismatch computed) = HasOtherRoot bytes computed
HoldsOn index bytes (Rule tx refusal) = BreaksRuleOn index bytes tx refusal
HoldsOn index bytes JournalFull = ⊥

abbrev pub HoldsBackOn : Indexed → List ℕ → BackRefusal → Type 0
HoldsBackOn index hash back.AtBase = index.undos ≡ []
HoldsBackOn index hash (back.NotTip tip) = (hash ≢ index.tip.hash.0) × (tip ≡ index.tip.hash.0)
HoldsBackOn index hash back.JournalFull = ⊥

-- no condition holds
abbrev pub HasNone : {R : Type 0} → (R → Type 0) → Type 0
HasNone {R = R} Holds = (refusal : R) → ¬ (Holds refusal)

-- the index takes the command: it has no refusal, and the size that such a command has
abbrev pub IsTakenBy : Indexed → Command → Type 0
IsTakenBy index (Connect bytes) = HasNone (HoldsOn index bytes) × HasSize (Connect bytes)
IsTakenBy index (Disconnect hash) = HasNone (HoldsBackOn index hash) × HasSize (Disconnect hash)

-- ---- what comes of it

-- the new index is the old one with the block of these bytes
pub record TakesConnect (index : Indexed) (bytes : List ℕ) (new : Indexed) : Type 0 where
  pub short : HasSize (Connect bytes)
  pub staged : StagedIndex
  pub takes : TakesBlock index bytes staged
  pub connected : IsConnected staged new

-- the new index is the old one without its newest block, which has this hash
pub record TakesDisconnect (index : Indexed) (hash : List ℕ) (new : Indexed) : Type 0 where
  pub long : HasSize (Disconnect hash)
  pub hash_is : hash ≡ index.tip.hash.0
  pub disconnected : IsDisconnected index new

abbrev pub TakesCommand : Indexed → Command → Indexed → Type 0
TakesCommand index (Connect bytes) new = TakesConnect index bytes new
TakesCommand index (Disconnect hash) new = TakesDisconnect index hash new

-- ---- one after the other

-- from the first index on the commands were taken one after the other, and led to this index
abbrev pub LeadsTo : Indexed → List Command → Indexed → Type 0
LeadsTo first [] index = SameIndex index first
LeadsTo first (command ∷ commands) index = (below : Indexed) × LeadsTo first commands below × TakesCommand below command index

-- each command is taken at its turn, by the index that those before it lead to
abbrev pub AreTaken : Indexed → List Command → Type 0
AreTaken first [] = Unit {0}
AreTaken first (command ∷ commands) = AreTaken first commands × ((index : Indexed) → LeadsTo first commands index → IsTakenBy index command)
