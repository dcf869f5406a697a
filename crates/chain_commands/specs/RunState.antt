-- What the machine knows: where it started, and the commands that it accepted.
use Rattle.std.specs.Prelude.{ℕ, ◌+◌, ◌<◌, ◌^◌, List, [], ◌∷◌, length}
use Rattle.chain_names.specs.Log.{Log}
use Rattle.nmc_base.specs.declared.chain_ends.Base.{Base}
use Rattle.chain_commands.specs.Chain.{Chain, with_block, without_newest}
use Rattle.chain_commands.specs.Event.{Command, Connect, Disconnect}

-- The base with its host, and the start list; the connects and disconnects that were accepted, the newest first: those
-- that a save holds, and those since; how many saves were selected; and the text that the last of them saved, of the index
-- behind the commands that it holds. Where nothing was saved it is that of the start list's index, and empty where this list is.
pub record RunState : Type 0 where
  pub base : Base
  pub host : List ℕ
  pub start : Log
  pub saved : List Command
  pub since : List Command
  pub selections : ℕ
  pub text : List ℕ

-- the chain that a command without a refusal leaves: with the block, or without the newest one
abbrev pub after_command : Chain → Command → Chain
after_command chain (Connect block) = with_block chain block
after_command chain (Disconnect hash) = without_newest chain

-- the newest command stands first
abbrev pub after_commands : Chain → List Command → Chain
after_commands chain [] = chain
after_commands chain (command ∷ commands) = after_command (after_commands chain commands) command

abbrev pub on_base : Base → Log → Chain
on_base base start = record { base = base; start = start; blocks = [] }

-- the chain that the last save holds
abbrev pub saved_chain : RunState → Chain
saved_chain run = after_commands (on_base run.base run.start) run.saved

abbrev pub chain_of : RunState → Chain
chain_of run = after_commands (saved_chain run) run.since

-- ---- the area that keeps the commands

-- what a command takes in the journal: its gate, its kind, and a length before a block
abbrev pub record_length : Command → ℕ
record_length (Connect block) = 6 + length block
record_length (Disconnect hash) = 38

abbrev pub grown_by : List Command → ℕ → ℕ
grown_by [] area = area
grown_by (command ∷ commands) area = record_length command + grown_by commands area

-- the length of the saved text in 8 bytes, this text, the records of the commands since, and a closed gate
abbrev pub area_of : RunState → ℕ
area_of run = grown_by run.since (9 + length run.text)

-- no area is longer
abbrev pub longest_area : ℕ
longest_area = 2 ^ 42

-- there is no room for the command's record
abbrev pub IsFull : RunState → Command → Type 0
IsFull run command = longest_area < area_of run + record_length command

-- ---- run states

abbrev pub accepted : RunState → Command → RunState
accepted run command = record {
  base = run.base;
  host = run.host;
  start = run.start;
  saved = run.saved;
  since = command ∷ run.since;
  selections = run.selections;
  text = run.text;
}

-- the oldest command stands first
abbrev pub all_accepted : RunState → List Command → RunState
all_accepted run [] = run
all_accepted run (command ∷ commands) = all_accepted (accepted run command) commands
