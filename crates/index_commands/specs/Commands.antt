-- The commands of an area: behind its front the records, each that of a command that the index takes at its turn. Lists of commands
-- have the newest first, as those of a run state.
use Rattle.std.specs.Prelude.{ℕ, ◌<◌, List, ◌++◌, length}
use Rattle.gate_journal.specs.Gate.{IsRecordAt, IsClosed}
use Rattle.gate_journal.specs.Records.{HasRecordsTo, records_text}
use Rattle.chain_state.specs.Chain.{Indexed}
use Rattle.chain_commands.specs.Event.{Command}
use Rattle.index_commands.specs.Records.{record_of, records_of}
use Rattle.index_commands.specs.Taking.{IsTakenBy, LeadsTo}

-- the front, and the records of these commands, up to the gate behind them
abbrev pub area_text : List ℕ → List Command → List ℕ
area_text front commands = front ++ records_text (records_of commands)

-- the place of that gate
abbrev pub gate_behind : List ℕ → List Command → ℕ
gate_behind front commands = length (area_text front commands)

-- Behind this front the file has the records of these commands, and the gate behind the last one lies inside the file and below the
-- limit. What stands at that gate is not said.
pub record HasCommands (front : List ℕ) (limit : ℕ) (file : List ℕ) (commands : List Command) : Type 0 where
  pub records : HasRecordsTo (gate_behind front commands) front (records_of commands) file
  pub within : gate_behind front commands < limit

-- there is a gate at this place, and it is closed
pub record IsShut (file : List ℕ) (gate : ℕ) : Type 0 where
  pub inside : gate < length file
  pub closed : IsClosed file gate

-- where the commands of an area begin: the text before its first gate, and the index from which they lead
pub record Origin : Type 0 where
  pub front : List ℕ
  pub index : Indexed

-- the area has these commands so far, and they lead from the first index to this one
pub record AreRead (first : Origin) (limit : ℕ) (file : List ℕ) (commands : List Command) (index : Indexed) : Type 0 where
  pub has : HasCommands first.front limit file commands
  pub leads : LeadsTo first.index commands index

-- behind those stands the record of one more command, which this index takes
pub record IsNext (front : List ℕ) (limit : ℕ) (file : List ℕ) (commands : List Command) (index : Indexed) (command : Command) : Type 0 where
  pub stands : IsRecordAt file (gate_behind front commands) limit (record_of command)
  pub taken : IsTakenBy index command
