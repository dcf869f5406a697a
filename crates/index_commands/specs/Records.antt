-- The record of a command, as the area keeps it. Lists of commands have the newest first, as those of a run state.
use Rattle.std.specs.Prelude.{◌≡◌, ℕ, ◌≤◌, List, [], ◌∷◌, ◌++◌, length}
use Rattle.nmc_base.specs.declared.limits.TheConstants.{LONGEST_BLOCK}
use Rattle.chain_commands.specs.Event.{Command, Connect, Disconnect}

-- a command's record: its kind, and the block or the hash
abbrev pub record_of : Command → List ℕ
record_of (Connect block) = 1 ∷ block
record_of (Disconnect hash) = 2 ∷ hash

-- the kind, and what stands behind it
abbrev pub head_of : Command → ℕ
head_of (Connect block) = 1
head_of (Disconnect hash) = 2

abbrev pub body_of : Command → List ℕ
body_of (Connect block) = block
body_of (Disconnect hash) = hash

-- the records in the order of the file, the oldest first
abbrev pub records_of : List Command → List (List ℕ)
records_of [] = []
records_of (command ∷ commands) = records_of commands ++ record_of command ∷ []

-- the size that such a command has
abbrev pub HasSize : Command → Type 0
HasSize (Connect block) = length block ≤ LONGEST_BLOCK
HasSize (Disconnect hash) = length hash ≡ 32
