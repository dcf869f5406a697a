-- What `dump` writes, and what it leaves of the files.
use Rattle.std.specs.Prelude.{◌≡◌, Bool, false, IsTrue, Result, Ok, Err}
use Rattle.fault_counts.specs.Faults.{NeverFell, Rose}
use Rattle.byte_io.specs.Sink.{SinkSeen}
use Rattle.disk_model.specs.DiskSeen.{DiskSeen, bytes_in}
use Rattle.name_report.specs.Report.{reported_by, Reports}
use Rattle.name_report.specs.declared.reporting.ReportFault.{ReportFault}
use Rattle.name_report.specs.declared.reporting.ReportFault.TheVariants as reports
use Rattle.chain_commands.specs.RunState.{RunState}
use Rattle.name_store.specs.Stands.{Stands}
use Rattle.name_store.specs.Stored.{StandsFor}
use Rattle.bridge_core.specs.Bridged.{Bridged}
use Rattle.bridge_core.specs.Reporting.{reported_of}
use Rattle.bridge_core.specs.Opening.{IsUnbegun, HasOpened, WritesNothing, EndsWell}
use Rattle.bridge_core.specs.declared.status.Status.{Status}
use Rattle.bridge_core.specs.declared.status.Status.TheVariants.{Done, SinkFault, NoMemory}

-- what `dump` is handed, as contracts see it
pub record DumpSeen : Type 0 where
  pub sink : SinkSeen
  pub disk : DiskSeen

abbrev pub dump_seen : SinkSeen → DiskSeen → DumpSeen
dump_seen sink disk = record { sink = sink; disk = disk }

-- the status of a report that ended so
abbrev pub status_of_report : Result (Unit {0}) ReportFault → Status
status_of_report (Ok done) = Done
status_of_report (Err reports.SinkFault) = SinkFault
status_of_report (Err reports.NoMemory) = NoMemory

-- The files were opened, and the report of the index ended so: of every run state that the bridge's store stands for, as that of each that
-- the files stood for.
pub record DumpsSo (tells : Bool) (old new : DumpSeen) (result : Result (Unit {0}) ReportFault) : Type 0 where
  pub bridge : Bridged
  pub opened : HasOpened tells old.disk new.disk bridge
  pub report : Reports (reported_by bridge.store.index) old.sink new.sink result
  pub of_runs : (run : RunState) → StandsFor bridge.store run → Reports (reported_of run) old.sink new.sink result

-- Each status with its cause: the sink took the whole report, or a part of it, or nothing was written.
pub data DumpEnds (tells : Bool) (old new : DumpSeen) : Status → Type 0 where
  reported : (result : Result (Unit {0}) ReportFault) → DumpsSo tells old new result → DumpEnds tells old new (status_of_report result)
  unbegun : (status : Status) → new.sink ≡ old.sink → WritesNothing tells old.disk new.disk → IsUnbegun tells old.disk new.disk status → DumpEnds tells old new status

-- no count of faults rose, and the sink took a byte at least of the last piece
pub record NothingFailed (old new : DumpSeen) : Type 0 where
  pub sink : ¬ (Rose old.sink.faults new.sink.faults)
  pub moving : new.sink.stalled ≡ false
  pub disk : ¬ (Rose old.disk.faults new.disk.faults)

-- no count of faults fell; nothing was written to the files; how it ended; and on files that stand for a run state, where nothing failed, the
-- report was written or memory ran out
pub record Dumps (tells : Bool) (old new : DumpSeen) (status : Status) : Type 0 where
  pub sink_later : NeverFell old.sink.faults new.sink.faults
  pub disk_later : NeverFell old.disk.faults new.disk.faults
  pub writes_nothing : WritesNothing tells old.disk new.disk
  pub ending : DumpEnds tells old new status
  pub complete : IsTrue tells → (run : RunState) → Stands (bytes_in old.disk) run → NothingFailed old new → EndsWell status
