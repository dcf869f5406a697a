-- What `serve` asked its port, where its frames and replies led, and what its files stand for.
use Rattle.std.specs.Prelude.{◌≡◌, ◌⊎◌, Bool, IsTrue, List, [], Some}
use Rattle.fault_counts.specs.Faults.{NeverFell, Rose}
use Rattle.byte_io.specs.Port.{Note, PortSeen, Adds, NotesFault}
use Rattle.disk_model.specs.DiskSeen.{DiskSeen, bytes_in}
use Rattle.port_loop.specs.Stretches.{AnswersStreams}
use Rattle.port_loop.specs.Transcript.{PollTranscript}
use Rattle.port_loop.specs.declared.attending.Ending.{Ending}
use Rattle.port_loop.specs.declared.attending.Ending.TheVariants as endings
use Rattle.chain_commands.specs.Event.{last_kind}
use Rattle.chain_commands.specs.RunState.{RunState}
use Rattle.name_store.specs.Stands.{Stands}
use Rattle.bridge_core.specs.Bridged.{Bridged}
use Rattle.bridge_core.specs.Opening.{IsUnbegun, HasOpened, WritesNothing, EndsWell}
use Rattle.bridge_core.specs.Reached.{Beginning, Reached, Broken}
use Rattle.bridge_core.specs.declared.bridge.Turned.{Turned}
use Rattle.bridge_core.specs.declared.bridge.Turned.TheVariants.{On}
use Rattle.bridge_core.specs.declared.status.Status.{Status}
use Rattle.bridge_core.specs.declared.status.Status.TheVariants.{Done, DiskFault, PortFault}
use Rattle.bridge_commands.specs.declared.words.Plan.{Plan}

-- what `serve` is handed, as contracts see it
pub record ServeSeen : Type 0 where
  pub port : PortSeen
  pub disk : DiskSeen

abbrev pub serve_seen : PortSeen → DiskSeen → ServeSeen
serve_seen port disk = record { port = port; disk = disk }

-- a bridge that has ended is a fault of the disk
abbrev pub status_of_ending : Ending → Status
status_of_ending endings.Done = Done
status_of_ending endings.Ended = DiskFault

-- The files were opened, the port was bound to the two numbers, and the loop over its polls ended so, from the bridge that was
-- opened: no frame had changed it. Over each client's stream, from the piece with which the client came to be held, its messages got their
-- replies, and nothing else; and a stream was closed exactly where its piece was refused.
pub record ServesSo {D : Type 0} (tells : Bool) (seen : D → DiskSeen) (disk : D) (old new : ServeSeen) (plan : Plan) (how : Ending) : Type 0 where
  pub start : Beginning D
  pub start_is : start.before ≡ old.disk
  pub opened : HasOpened tells old.disk (seen start.opened) start.bridge
  pub bound : new.port.bound ≡ Some (plan.udp, plan.feed)
  pub notes : List Note
  pub added : Adds old.port.notes new.port.notes notes
  pub at_first : Reached tells seen start [] [] (On start.bridge, start.opened)
  pub last : Turned
  pub transcript : PollTranscript last_kind (Reached tells seen) (Broken tells seen) plan.turns notes (On start.bridge, start.opened) how (last, disk)
  pub streams : AnswersStreams last_kind (Reached tells seen) (Broken tells seen) plan.turns notes (On start.bridge, start.opened) how (last, disk) transcript

-- the files were opened, and nothing came of it
pub record StaysOpened (tells : Bool) (old new : DiskSeen) : Type 0 where
  pub bridge : Bridged
  pub opened : HasOpened tells old new bridge

-- Each status with its cause. Where no poll was made nothing was written to the files; and the port was asked nothing, or there was a fault as
-- it was to be bound, behind the opening.
pub data ServeEnds {D : Type 0} (tells : Bool) (seen : D → DiskSeen) (disk : D) (old new : ServeSeen) (plan : Plan) : Status → Type 0 where
  ended : (how : Ending) → ServesSo tells seen disk old new plan how → ServeEnds tells seen disk old new plan (status_of_ending how)
  unbound : NotesFault old.port new.port [] → StaysOpened tells old.disk new.disk → ServeEnds tells seen disk old new plan PortFault
  unbegun : (status : Status) → new.port ≡ old.port → WritesNothing tells old.disk new.disk → IsUnbegun tells old.disk new.disk status
      → ServeEnds tells seen disk old new plan status

-- no count of faults fell; how it ended; and on files that stand for a run state, where the disk doesn't fail, all polls are
-- made, or memory ran out, or the port couldn't be bound
pub record Serves {D : Type 0} (tells : Bool) (seen : D → DiskSeen) (disk : D) (old new : ServeSeen) (plan : Plan) (status : Status) : Type 0 where
  pub port_later : NeverFell old.port.faults new.port.faults
  pub disk_later : NeverFell old.disk.faults new.disk.faults
  pub ending : ServeEnds tells seen disk old new plan status
  pub complete : IsTrue tells → (run : RunState) → Stands (bytes_in old.disk) run → ¬ (Rose old.disk.faults new.disk.faults)
      → EndsWell status ⊎ (status ≡ PortFault)
