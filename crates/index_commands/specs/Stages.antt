-- What staging a command answers, of every chain that the index stands for.
use Rattle.std.specs.Prelude.{ℕ, ◌+◌, ◌<◌, ◌≤◌, List}
use Rattle.chain_state.specs.Chain.{Indexed, SameIndex, IsConnected, IsAbandoned}
use Rattle.chain_state.specs.StageBack.{IsDisconnected}
use Rattle.chain_state.specs.declared.stage.StageOutcome.{StageOutcome}
use Rattle.chain_state.specs.declared.stage.StageOutcome.TheVariants.{Staged, Refused, NoMemory}
use Rattle.chain_state.specs.declared.back.BackOutcome.{BackOutcome}
use Rattle.chain_state.specs.declared.back.BackOutcome.TheVariants.{StagedBack, Refused as back_refused, NoMemory as back_memory}
use Rattle.chain_commands.specs.Chain.{Chain}
use Rattle.chain_commands.specs.Event.{Command, Connect, Disconnect}
use Rattle.chain_commands.specs.RunState.{record_length, after_command}
use Rattle.chain_commands.specs.Refusals.{Refusals, IsFirst, HasNoneBelow}
use Rattle.chain_commands.specs.Connecting.{Refusal, Holds, connects}
use Rattle.chain_commands.specs.Disconnecting.{BackRefusal, HoldsBack, disconnects}
use Rattle.index_commands.specs.Standing.{StandsFor}
use Rattle.index_commands.specs.Views.{refusal_of, back_refusal_of}
use Rattle.index_commands.specs.Staged.{OfConnect, OfDisconnect, IfStaged}
use Rattle.index_commands.specs.declared.command.ChainCommand.{ChainCommand}
use Rattle.index_commands.specs.declared.command.ChainCommand.TheVariants.{Connect as a_block, Disconnect as a_hash}
use Rattle.index_commands.specs.declared.staged.CommandOutcome.{CommandOutcome}

-- ---- of each kind of command, by its refusals and the condition of each

-- the command is valid on the chain: it is done by the commit, and the chain stays as it was where it is abandoned
pub record IsStagedFor {M : Type 0} (refusals : Refusals M) (Holds : M → Type 0) (chain : Chain) (command : Command) (Commits Abandons : Indexed → Type 0) : Type 0 where
  pub valid : HasNoneBelow Holds refusals.order refusals.places
  pub commits : (new : Indexed) → Commits new → StandsFor new (after_command chain command)
  pub abandons : (same : Indexed) → Abandons same → StandsFor same chain

-- this is the refusal of the command on the chain, and the chain stays
pub record IsRefusedFor {M : Type 0} (refusals : Refusals M) (Holds : M → Type 0) (chain : Chain) (refusal : M) (same : Indexed) : Type 0 where
  pub refuses : IsFirst Holds refusals.order refusal
  pub stands : StandsFor same chain

-- no refusal is found before memory is taken, and the chain stays
pub record LacksMemoryFor {M : Type 0} (refusals : Refusals M) (Holds : M → Type 0) (chain : Chain) (same : Indexed) : Type 0 where
  pub takes_memory : HasNoneBelow Holds refusals.order refusals.before_memory
  pub stands : StandsFor same chain

-- an area of this length would be longer than the most with the command's record
abbrev pub IsFullWith : (area most : ℕ) → Command → Type 0
IsFullWith area most command = most < area + record_length command

-- ---- the bytes of a block

abbrev pub HoldsIn : (area most : ℕ) → Chain → List ℕ → Refusal → Type 0
HoldsIn area most chain bytes = Holds (IsFullWith area most (Connect bytes)) chain bytes

abbrev pub StagesFor : (area most : ℕ) → Chain → List ℕ → StageOutcome → Type 0
StagesFor area most chain bytes (Staged s) = IsStagedFor connects (HoldsIn area most chain bytes) chain (Connect bytes) (IsConnected s) (IsAbandoned s)
StagesFor area most chain bytes (Refused same refusal) = IsRefusedFor connects (HoldsIn area most chain bytes) chain (refusal_of refusal) same
StagesFor area most chain bytes (NoMemory same) = LacksMemoryFor connects (HoldsIn area most chain bytes) chain same

abbrev pub StagesBytes : (area most : ℕ) → Indexed → List ℕ → StageOutcome → Type 0
StagesBytes area most old bytes outcome = (chain : Chain) → StandsFor old chain → StagesFor area most chain bytes outcome

-- ---- the hash of the newest block

abbrev pub HoldsBackIn : (area most : ℕ) → Chain → List ℕ → BackRefusal → Type 0
HoldsBackIn area most chain hash = HoldsBack (IsFullWith area most (Disconnect hash)) chain hash

abbrev pub StagesBackFor : (area most : ℕ) → Chain → List ℕ → BackOutcome → Type 0
StagesBackFor area most chain hash (StagedBack s) = IsStagedFor disconnects (HoldsBackIn area most chain hash) chain (Disconnect hash) (IsDisconnected s) (λ same. SameIndex same s)
StagesBackFor area most chain hash (back_refused same refusal) = IsRefusedFor disconnects (HoldsBackIn area most chain hash) chain (back_refusal_of refusal) same
StagesBackFor area most chain hash (back_memory same) = LacksMemoryFor disconnects (HoldsBackIn area most chain hash) chain same

abbrev pub StagesHash : (area most : ℕ) → Indexed → List ℕ → BackOutcome → Type 0
StagesHash area most old hash outcome = (chain : Chain) → StandsFor old chain → StagesBackFor area most chain hash outcome

-- ---- a command of either kind

abbrev pub StagesCommand : (area most : ℕ) → Indexed → ChainCommand → CommandOutcome → Type 0
StagesCommand area most old (a_block bytes) outcome = OfConnect (StagesBytes area most old bytes.now) outcome
StagesCommand area most old (a_hash hash) outcome = OfDisconnect (StagesHash area most old hash.0) outcome

-- what is staged has room in the area
abbrev pub Fits : (area most : ℕ) → Command → CommandOutcome → Type 0
Fits area most command outcome = IfStaged (λ s. area + record_length command ≤ most) outcome
