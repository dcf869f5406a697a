-- The area of a run state, and a run state with one command more.
use Rattle.std.proofs.Common.{◌≡◌, ◌+◌, ◌≤◌, List, ℕ, length, ◌∙◌, ap, arith, length-append}
use Rattle.std.specs.Int.{w64, to_le_bytes}
use Rattle.gate_journal.specs.Records.{image_front}
use Rattle.chain_commands.specs.Event.{Command}
use Rattle.chain_commands.specs.RunState.{RunState, saved_chain, chain_of, area_of, grown_by, record_length, accepted, longest_area}
use Rattle.chain_commands.proofs.SavingLemmas.{command_keeps}
use Rattle.index_commands.specs.Allowed.{IsAllowed}
use Rattle.index_commands.specs.Records.{records_of}
use Rattle.index_commands.proofs.SizeLemmas.{allowed_sizes}
use Rattle.index_commands.specs.Commands.{gate_behind}
use Rattle.index_commands.specs.Keeping.{HoldsRecords}
use Rattle.index_commands.proofs.AreaLemmas.{area_size}
use Rattle.gate_journal.specs.Records.{IsArea}
use Rattle.name_store.specs.Stands.{IsRunState}

-- the length of an image stands before it in 8 bytes
pub front_size : (image : List ℕ) → length (image_front image) ≡ 8 + length image
front_size image = omega (arith, length-append (to_le_bytes w64 (length image)) image)

-- the gate behind the records is the last byte of the area
pub area_is : (run : RunState) → IsRunState run → area_of run ≡ gate_behind (image_front run.text) run.since + 1
area_is run is =
    ap (grown_by run.since) (omega (arith, front_size run.text)) ∙ area_size (image_front run.text) run.since (allowed_sizes (saved_chain run) run.since is.allowed)

-- an area of a run state holds the records of its commands
pub holds_commands : (run : RunState) (file : List ℕ) → IsRunState run → IsArea run.text (records_of run.since) file → HoldsRecords (area_of run) run.text (records_of run.since) file
holds_commands run file is area = record { is_area = area; length_is = area_is run is }

-- a command that is allowed on the chain, and has room
pub state_with : (run : RunState) (command : Command) → IsRunState run → IsAllowed (chain_of run) command → area_of run + record_length command ≤ longest_area → IsRunState (accepted run command)
state_with run command is allowed room = record {
  begun = is.begun;
  wide = is.wide;
  has_saved = command_keeps run command is.has_saved;
  valid = is.valid;
  allowed_before = is.allowed_before;
  allowed = (is.allowed, allowed);
  fits = omega (arith, room);
}
