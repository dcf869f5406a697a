-- What the commands and refusals of the code are in the machine.
use Rattle.std.specs.Prelude.{◌≤◌, length, ⊤}
use Rattle.nmc_base.specs.declared.limits.TheConstants.{LONGEST_BLOCK}
use Rattle.chain_commands.specs.Event as machine
use Rattle.index_commands.specs.declared.command.ChainCommand.{ChainCommand}
use Rattle.index_commands.specs.declared.command.ChainCommand.TheVariants.{Connect, Disconnect}
use Rattle.chain_state.specs.declared.stage.Refusal.{Refusal}
use Rattle.chain_state.specs.declared.stage.Refusal.TheVariants.{BadBlock, NotOnTip, HeightLimit, MerkleMismatch, Rule, JournalFull}
use Rattle.chain_state.specs.declared.back.BackRefusal.{BackRefusal}
use Rattle.chain_state.specs.declared.back.BackRefusal.TheVariants.{AtBase, NotTip, JournalFull as back_full}
use Rattle.chain_commands.specs.Connecting as connecting
use Rattle.chain_commands.specs.Disconnecting as disconnecting

abbrev pub refusal_of : Refusal → connecting.Refusal
refusal_of (BadBlock at) = connecting.BadBlock at
refusal_of (NotOnTip tip) = connecting.NotOnTip tip.0
refusal_of HeightLimit = connecting.HeightLimit
refusal_of (MerkleMismatch computed) = connecting.MerkleMismatch computed.0
refusal_of (Rule tx refusal) = connecting.Rule tx refusal
refusal_of JournalFull = connecting.JournalFull

abbrev pub back_refusal_of : BackRefusal → disconnecting.BackRefusal
back_refusal_of AtBase = disconnecting.AtBase
back_refusal_of (NotTip tip) = disconnecting.NotTip tip.0
back_refusal_of back_full = disconnecting.JournalFull

abbrev pub command_of : ChainCommand → machine.Command
command_of (Connect block) = machine.Connect block.now
command_of (Disconnect hash) = machine.Disconnect hash.0

-- a block has at most the greatest length
abbrev pub IsWithinLimits : ChainCommand → Type 0
IsWithinLimits (Connect block) = length block.now ≤ LONGEST_BLOCK
IsWithinLimits (Disconnect hash) = ⊤
