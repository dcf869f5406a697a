-- A command that was staged, of each kind, and what came of staging it.
use Rattle.std.specs.Prelude.{ℕ}
use Rattle.chain_state.specs.Chain.{Indexed, SameIndex, IsConnected, IsAbandoned}
use Rattle.chain_state.specs.Stage.{commit_steps}
use Rattle.chain_state.specs.StageBack.{IsDisconnected, back_commit_steps}
use Rattle.chain_state.specs.declared.stage.Refusal.TheVariants.{JournalFull}
use Rattle.chain_state.specs.declared.stage.StageOutcome.{StageOutcome}
use Rattle.chain_state.specs.declared.stage.StageOutcome.TheVariants as block
use Rattle.chain_state.specs.declared.back.BackRefusal.TheVariants.{JournalFull as back_full}
use Rattle.chain_state.specs.declared.back.BackOutcome.{BackOutcome}
use Rattle.chain_state.specs.declared.back.BackOutcome.TheVariants as hash
use Rattle.index_commands.specs.declared.staged.StagedCommand.{StagedCommand}
use Rattle.index_commands.specs.declared.staged.StagedCommand.TheVariants.{Connect, Disconnect}
use Rattle.index_commands.specs.declared.staged.CommandRefusal.{CommandRefusal}
use Rattle.index_commands.specs.declared.staged.CommandRefusal.TheVariants.{Connect as connect_refused, Disconnect as disconnect_refused}
use Rattle.index_commands.specs.declared.staged.CommandOutcome.{CommandOutcome}
use Rattle.index_commands.specs.declared.staged.CommandOutcome.TheVariants.{Staged, Refused, NoMemory}

-- ---- of each kind

abbrev pub CommitsStaged : StagedCommand → Indexed → Type 0
CommitsStaged (Connect s) new = IsConnected s new
CommitsStaged (Disconnect s) new = IsDisconnected s new

abbrev pub AbandonsStaged : StagedCommand → Indexed → Type 0
AbandonsStaged (Connect s) same = IsAbandoned s same
AbandonsStaged (Disconnect s) same = SameIndex same s

abbrev pub steps_of_commit : StagedCommand → ℕ
steps_of_commit (Connect s) = commit_steps s
steps_of_commit (Disconnect s) = back_commit_steps s.undos

-- the refusal of a full journal
abbrev pub full_of : StagedCommand → CommandRefusal
full_of (Connect s) = connect_refused JournalFull
full_of (Disconnect s) = disconnect_refused back_full

-- ---- an outcome of one kind

-- it is one of staging a block, of which P holds
abbrev pub OfConnect : (StageOutcome → Type 0) → CommandOutcome → Type 0
OfConnect P (Staged (Connect s)) = P (block.Staged s)
OfConnect P (Staged (Disconnect s)) = ⊥
OfConnect P (Refused same (connect_refused refusal)) = P (block.Refused same refusal)
OfConnect P (Refused same (disconnect_refused refusal)) = ⊥
OfConnect P (NoMemory same) = P (block.NoMemory same)

-- it is one of staging a disconnect, of which P holds
abbrev pub OfDisconnect : (BackOutcome → Type 0) → CommandOutcome → Type 0
OfDisconnect P (Staged (Connect s)) = ⊥
OfDisconnect P (Staged (Disconnect s)) = P (hash.StagedBack s)
OfDisconnect P (Refused same (connect_refused refusal)) = ⊥
OfDisconnect P (Refused same (disconnect_refused refusal)) = P (hash.Refused same refusal)
OfDisconnect P (NoMemory same) = P (hash.NoMemory same)

-- P holds of what was staged
abbrev pub IfStaged : (StagedCommand → Type 0) → CommandOutcome → Type 0
IfStaged P (Staged s) = P s
IfStaged P (Refused same refusal) = Unit {0}
IfStaged P (NoMemory same) = Unit {0}
