-- What a dump comes to, by what came of its report, or why its files weren't opened.
use Rattle.std.proofs.Common.{◌≡◌, Bool, true, false, Ok, Err, Result, sym, subst, ◌∙◌}
use Rattle.std.proofs.lemmas.Bool.{true≢false}
use Rattle.fault_counts.specs.Faults.{NeverFell}
use Rattle.fault_counts.proofs.FaultLemmas.{NeverFell_refl}
use Rattle.byte_io.specs.Sink.{SinkSeen}
use Rattle.frame_loop.specs.Causes.{SinkCause, failing, stalling}
use Rattle.name_report.specs.declared.reporting.ReportFault.{ReportFault}
use Rattle.name_report.specs.declared.reporting.ReportFault.TheVariants as reports
use Rattle.name_store.specs.declared.faults.OpenFault.{OpenFault}
use Rattle.bridge_core.specs.Opening.{status_of_fault, EndsWell, is_done, lacks_memory}
use Rattle.bridge_core.proofs.OpeningLemmas.{Unbegun, cause_of, begins_well}
use Rattle.bridge_commands.specs.Dumping.{DumpSeen, DumpsSo, status_of_report, reported, unbegun, NothingFailed, Dumps}

module _ (old new : DumpSeen) where
  not_stalled : {P : Type 0} → new.sink.stalled ≡ true → new.sink.stalled ≡ false → P
  not_stalled is is_not = absurd (true≢false (sym is ∙ is_not))

  no_cause : SinkCause old.sink new.sink → NothingFailed old new → ⊥
  no_cause (failing failed rose) well = well.sink rose
  no_cause (stalling stalled) well = not_stalled stalled well.moving

module _ (tells : Bool) (old new : DumpSeen) where
  sink_later : (result : Result (Unit {0}) ReportFault) → DumpsSo tells old new result → NeverFell old.sink.faults new.sink.faults
  sink_later (Ok did) d = d.report.took.later
  sink_later (Err reports.SinkFault) d = d.report.took.later
  sink_later (Err reports.NoMemory) d = subst (λ (k : SinkSeen). NeverFell old.sink.faults k.faults) (sym d.report) (NeverFell_refl old.sink.faults)

  ends_well : (result : Result (Unit {0}) ReportFault) → DumpsSo tells old new result → NothingFailed old new → EndsWell (status_of_report result)
  ends_well (Ok did) d well = is_done
  ends_well (Err reports.SinkFault) d well = absurd (no_cause old new d.report.took.cause well)
  ends_well (Err reports.NoMemory) d well = lacks_memory

  pub dumps_report : (result : Result (Unit {0}) ReportFault) → DumpsSo tells old new result → Dumps tells old new (status_of_report result)
  dumps_report result d = record {
    sink_later = sink_later result d;
    disk_later = d.opened.later;
    writes_nothing = d.opened.writes_nothing;
    ending = reported result d;
    complete = λ told run stands well. ends_well result d well;
  }

  -- the files couldn't be opened
  pub dumps_unbegun : (fault : OpenFault) → new.sink ≡ old.sink → Unbegun tells old.disk new.disk fault → Dumps tells old new (status_of_fault fault)
  dumps_unbegun fault same u = record {
    sink_later = subst (λ (k : SinkSeen). NeverFell old.sink.faults k.faults) (sym same) (NeverFell_refl old.sink.faults);
    disk_later = u.never_fell;
    writes_nothing = u.writes_nothing;
    ending = unbegun (status_of_fault fault) same u.writes_nothing (cause_of tells old.disk new.disk fault u);
    complete = λ told run stands well. begins_well tells old.disk new.disk fault u told run stands well.disk;
  }
