-- Where a self-test begins, and what comes of it.
use Rattle.std.proofs.Common.{◌≡◌, ℕ, true, List, [], ◌∷◌, Result, Ok, Err, refl, arith}
use Rattle.std.specs.Prelude.{codes}
use Rattle.byte_io.specs.Sink.{SinkSeen}
use Rattle.disk_model.specs.DiskSeen.{bytes_in}
use Rattle.domain_text.specs.Host.IsHost.{absolute}
use Rattle.domain_text.specs.Names.{wire_of}
use Rattle.memory_disk.specs.MemoryLog.{DiskLog, fresh_log, memory_seen}
use Rattle.memory_disk.specs.Sound.{shows_seen}
use Rattle.generated_chain.specs.Blocks.{run_base, run_host}
use Rattle.name_report.specs.declared.reporting.ReportFault.{ReportFault}
use Rattle.name_report.specs.declared.reporting.ReportFault.TheVariants as reports
use Rattle.name_store.specs.Host.{IsHostOf}
use Rattle.name_store.specs.Stands.{Stands, begun_on}
use Rattle.bridge_core.specs.Bridged.{Bridged}
use Rattle.bridge_core.specs.Opening.{HasOpened}
use Rattle.bridge_core.specs.Reached.{Beginning}
use Rattle.bridge_core.specs.declared.status.Status.{Status}
use Rattle.bridge_core.specs.declared.status.Status.TheVariants.{Done}
use Rattle.bridge_commands.specs.Dumping.{status_of_report}
use Rattle.bridge_commands.specs.Making.{Inits}
use Rattle.bridge_commands.specs.SelfTest.{IsStopped, lacking, failing, HasPlayed, IsSummary, SelfTests, told, cut, unwritten, failed, Starts, StopsWith, no_memory, refused, Sums, Writes, summary_text}
use Rattle.bridge_commands.specs.declared.course.Course.{Course}
use Rattle.bridge_commands.specs.declared.summary.Summary.{Summary}
use Rattle.bridge_commands.specs.declared.words.Trial.{Trial}

-- ---- the host

abbrev host_labels : List (List ℕ)
host_labels = codes "ns" ∷ (codes "example" ∷ [])

abbrev pub host_name : List ℕ
host_name = wire_of host_labels

pub is_host : IsHostOf run_host host_name
is_host = record {
  absolute = record {
    labels = host_labels;
    host = absolute (codes "ns.example") refl refl (record { some = λ e. cc; are = refl; spelled = refl });
    on_wire = refl;
    fits = omega arith;
  };
  short = omega arith;
}

-- ---- where it begins

-- files that were made stand for the base as they are read
pub made_stands : (old : DiskLog) (disk : DiskLog) → Inits true run_base run_host (memory_seen old) (memory_seen disk) Done → Stands (bytes_in (memory_seen disk)) (begun_on run_base run_host)
made_stands old disk made = made.made refl refl (bytes_in (memory_seen disk)) (λ file low. shows_seen disk file)

pub starts_by : (before opened : DiskLog) (bridge : Bridged) → Inits true run_base run_host (memory_seen (fresh_log ([] ∷ ([] ∷ ([] ∷ []))) [])) (memory_seen before) Done
    → HasOpened true (memory_seen before) (memory_seen opened) bridge → Starts (record { before = memory_seen before; opened = opened; bridge = bridge })
starts_by before opened bridge made o =
    let stands = made_stands (fresh_log ([] ∷ ([] ∷ ([] ∷ []))) []) before made in
    record { made = made; opened = o; begins = record { stands = (o.opened refl).follows (begun_on run_base run_host) stands; files = λ told. stands } }

-- ---- what comes of it

pub stopped_so : (trial : Trial) (start : Beginning DiskLog) (status : Status) → Starts start → StopsWith true memory_seen start trial status → IsStopped trial status
stopped_so trial start status starts no_memory = lacking
stopped_so trial start status starts (refused block fails) = failing block (record { start = start; starts = starts; fails = fails })

pub summed_so : (trial : Trial) (start : Beginning DiskLog) (course : Course) (disk : DiskLog) (s : Summary) → Starts start → (played : HasPlayed true memory_seen start trial course disk)
    → Sums trial course played.plays.leads.new s → IsSummary trial s
summed_so trial start course disk s starts played sums = record { start = start; starts = starts; course = course; disk = disk; played = played; sums = sums }

module _ (trial : Trial) (old new : SinkSeen) where
  pub tests_told : (s : Summary) (written : Result (Unit {0}) ReportFault) → IsSummary trial s → Writes (summary_text s) old new written → SelfTests trial old new (status_of_report written)
  tests_told s (Ok done) is wrote = told s is wrote
  tests_told s (Err reports.SinkFault) is wrote = cut s is wrote
  tests_told s (Err reports.NoMemory) is wrote = unwritten wrote

  pub tests_stopped : (status : Status) → IsStopped trial status → new ≡ old → SelfTests trial old new status
  tests_stopped status lacking same = unwritten same
  tests_stopped status (failing block fails) same = failed block fails same
