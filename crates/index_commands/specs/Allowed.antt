-- The commands that a chain allows. Lists of commands have the newest first.
use Rattle.std.specs.Prelude.{List, [], ◌∷◌}
use Rattle.chain_commands.specs.Chain.{Chain}
use Rattle.chain_commands.specs.Event.{Command, Connect, Disconnect}
use Rattle.chain_commands.specs.RunState.{after_commands}
use Rattle.chain_commands.specs.Connecting.{IsValid}
use Rattle.chain_commands.specs.Disconnecting.{IsValidBack}
use Rattle.index_commands.specs.Records.{HasSize}

-- the command has no refusal on the chain but that of a full journal, and the size that such a command has
abbrev pub IsAllowed : Chain → Command → Type 0
IsAllowed chain (Connect block) = IsValid ⊥ chain block × HasSize (Connect block)
IsAllowed chain (Disconnect hash) = IsValidBack ⊥ chain hash × HasSize (Disconnect hash)

-- each at its turn
abbrev pub AreAllowed : Chain → List Command → Type 0
AreAllowed first [] = Unit {0}
AreAllowed first (command ∷ commands) = AreAllowed first commands × IsAllowed (after_commands first commands) command
