-- What a command costs, in steps on the tables, where it is staged or accepted.
use Rattle.std.specs.Prelude.{ℕ, ◌+◌, ◌*◌, ◌≤◌, List, [], ◌∷◌, length}
use Rattle.block_grammar.specs.Block.{Block, IsBlock}
use Rattle.chain_names.specs.Undo.{UndoRecord}
use Rattle.chain_state.specs.Cost.{touched_by}
use Rattle.chain_state.specs.Chain.{Indexed}
use Rattle.chain_state.specs.Stage.{commit_steps}
use Rattle.chain_state.specs.StageBack.{newest_work, IsBackCheap}
use Rattle.chain_state.specs.declared.stage.StageOutcome.{StageOutcome}
use Rattle.chain_state.specs.declared.stage.StageOutcome.TheVariants.{Staged, Refused, NoMemory}
use Rattle.chain_commands.specs.Event.{Command, Connect, Disconnect}
use Rattle.index_commands.specs.Staged.{OfConnect, OfDisconnect}
use Rattle.index_commands.specs.declared.command.ChainCommand.{ChainCommand}
use Rattle.index_commands.specs.declared.command.ChainCommand.TheVariants.{Connect as a_block, Disconnect as a_hash}
use Rattle.index_commands.specs.declared.staged.CommandOutcome.{CommandOutcome}

-- a block takes eight steps, with its commit, for each input and each output behind its coinbase and for each coin that
-- expires with it, and eight
abbrev pub IsCheapBlock : List ℕ → StageOutcome → ℕ → ℕ → Type 0
IsCheapBlock bytes (Staged s) before after = (block : Block) → IsBlock bytes block
    → after + commit_steps s ≤ before + 8 * (touched_by block + length s.whole.expired.items) + 8
IsCheapBlock bytes (Refused same refusal) before after = Unit {0}
IsCheapBlock bytes (NoMemory same) before after = Unit {0}

-- a disconnect twelve, likewise, for each operation of the block and for each coin that expired with it, and eight
abbrev pub IsCheapStage : Indexed → ChainCommand → CommandOutcome → ℕ → ℕ → Type 0
IsCheapStage old (a_block bytes) outcome before after = OfConnect (λ staged. IsCheapBlock bytes.now staged before after) outcome
IsCheapStage old (a_hash hash) outcome before after = OfDisconnect (λ staged. IsBackCheap old staged before after) outcome

-- how many coins expired with the newest block
abbrev pub newest_expired : List UndoRecord → ℕ
newest_expired [] = 0
newest_expired (undo ∷ below) = length undo.expired

-- an accepted block takes so many steps in all
abbrev pub IsCheapConnect : List ℕ → Indexed → ℕ → ℕ → Type 0
IsCheapConnect bytes new before after = (block : Block) → IsBlock bytes block → after ≤ before + 8 * (touched_by block + newest_expired new.undos) + 8

-- an accepted disconnect takes twelve for each operation of the block and for each coin that expired with it, and eight
abbrev pub IsCheapDisconnect : Indexed → ℕ → ℕ → Type 0
IsCheapDisconnect old before after = after ≤ before + 12 * newest_work old.undos + 8

abbrev pub IsCheap : Indexed → Command → Indexed → ℕ → ℕ → Type 0
IsCheap old (Connect bytes) new before after = IsCheapConnect bytes new before after
IsCheap old (Disconnect hash) new before after = IsCheapDisconnect old before after
