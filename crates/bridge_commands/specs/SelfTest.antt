-- What `selftest` writes: the summary of a run of a generated chain, over files that are made on a disk in memory.
use Rattle.std.specs.Prelude.{◌≡◌, ℕ, suc, ◌+◌, ◌≤◌, Bool, true, List, [], ◌∷◌, ◌++◌, codes, Result, Ok, Err}
use Rattle.std.specs.Fmt.{decimal}
use Rattle.byte_io.specs.Sink.{SinkSeen}
use Rattle.disk_model.specs.DiskSeen.{DiskSeen}
use Rattle.frame_loop.specs.Delivery.{TookAll, TookPart}
use Rattle.feed_frames.specs.Replies.{Reply}
use Rattle.nmc_base.specs.Hash.{display_text}
use Rattle.memory_disk.specs.MemoryLog.{DiskLog, fresh_log, memory_seen}
use Rattle.chain_commands.specs.Chain.{tip_hash}
use Rattle.chain_commands.specs.RunState.{RunState, chain_of}
use Rattle.chain_commands.specs.Event.{Event}
use Rattle.bridge_core.specs.Leaving.{accepted_saves}
use Rattle.bridge_core.specs.Step.{Run}
use Rattle.generated_chain.specs.Blocks.{run_base, run_host}
use Rattle.generated_chain.specs.Events.{events_of, round_at, generated_events}
use Rattle.generated_validity.specs.Carried.{HaveOneTxid}
use Rattle.name_report.specs.Counts.{AreCounts}
use Rattle.name_report.specs.Report.{reported_by}
use Rattle.name_report.specs.declared.reporting.ReportFault.{ReportFault}
use Rattle.name_report.specs.declared.reporting.ReportFault.TheVariants as reports
use Rattle.name_store.specs.Stands.{begun_on}
use Rattle.bridge_core.specs.Bridged.{Bridged}
use Rattle.bridge_core.specs.Opening.{HasOpened}
use Rattle.bridge_core.specs.Reached.{Beginning, Begins, Passes, LeadsTo}
use Rattle.bridge_core.specs.declared.status.Status.{Status}
use Rattle.bridge_core.specs.declared.status.Status.TheVariants.{Done, SinkFault, NoMemory, TestFailed}
use Rattle.bridge_commands.specs.Making.{Inits}
use Rattle.bridge_commands.specs.Playing.{AreTaken, StopsIn, answers_in}
use Rattle.bridge_commands.specs.declared.course.Course.{Course}
use Rattle.bridge_commands.specs.declared.summary.Summary.{Summary}
use Rattle.bridge_commands.specs.declared.words.Trial.{Trial}

-- ---- the text

-- Eight lines, each with its line feed; the hash in the order in which people write it.
abbrev pub summary_text : Summary → List ℕ
summary_text s =
    codes "blocks " ++ decimal s.blocks ++ codes "\ntip " ++ display_text s.tip.0 ++ codes "\nnames " ++ decimal s.names ++ codes "\nserved " ++ decimal s.served
    ++ codes "\nanswers " ++ decimal s.answers ++ codes "\nhits " ++ decimal s.hits ++ codes "\nmissed " ++ decimal s.missed ++ codes "\nsaves " ++ decimal s.saves ++ codes "\n"

-- ---- the run

-- the events of so many rounds of the trial
abbrev pub events_behind : Trial → ℕ → List Event
events_behind trial rounds = generated_events rounds trial.seed

-- A run begins at this bridge on this disk: it was opened there, on files of the run's base and its host without a command.
pub record BeginsAt {D : Type 0} (tells : Bool) (seen : D → DiskSeen) (start : Beginning D) (bridge : Bridged) (disk : D) : Type 0 where
  pub opened : HasOpened tells start.before (seen start.opened) start.bridge
  pub begins : Begins tells start (begun_on run_base run_host)
  pub bridge_is : bridge ≡ start.bridge
  pub disk_is : disk ≡ start.opened

-- Behind so many rounds: their events got these replies, each command and each save an acceptance. So the machine gives these replies, from
-- the run state of the base without a command, and the bridge stands for what they lead to.
pub record Plays {D : Type 0} (tells : Bool) (seen : D → DiskSeen) (start : Beginning D) (trial : Trial) (rounds : ℕ) (replies : List Reply) (bridge : Bridged) (disk : D) : Type 0 where
  pub passes : Passes tells seen start (events_behind trial rounds) replies bridge disk
  pub leads : LeadsTo tells seen start passes (begun_on run_base run_host)
  pub taken : AreTaken (events_behind trial rounds) replies

-- All rounds were played, and this was counted. Of each block's two questions the first is no hit, as the block outdates the answers that
-- are kept; the second is one, unless memory was wanting to keep the answer to the first.
pub record HasPlayed {D : Type 0} (tells : Bool) (seen : D → DiskSeen) (start : Beginning D) (trial : Trial) (course : Course) (disk : D) : Type 0 where
  pub replies : List Reply
  pub plays : Plays tells seen start trial trial.blocks replies course.bridge disk
  pub answers : course.answers ≡ answers_in (events_behind trial trial.blocks) replies
  pub saves : course.saves ≡ accepted_saves (events_behind trial trial.blocks) replies
  pub hits_at_most : course.bridge.answers.cache.hits ≤ trial.blocks
  pub hits_at_least : trial.blocks ≤ course.bridge.answers.cache.hits + course.bridge.answers.cache.missed

-- Why an event was refused, behind so many rounds and a front of this one's events, which led to this run state: of the blocks up to this
-- one two carry name transactions that differ and have one txid.
pub record IsCaused (trial : Trial) (rounds : ℕ) (replies : List Reply) (front : List Event) (answered : List Reply) : Type 0 where
  pub run : RunState
  pub runs : Run (begun_on run_base run_host) (events_behind trial rounds ++ front) (replies ++ answered) run
  pub cause : HaveOneTxid trial.seed (suc rounds)

-- The rounds before that of this block were played, and in this one an event was refused.
pub record FailsAt {D : Type 0} (tells : Bool) (seen : D → DiskSeen) (start : Beginning D) (trial : Trial) (block : ℕ) : Type 0 where
  pub rounds : ℕ
  pub block_is : block ≡ rounds + 1
  pub within : block ≤ trial.blocks
  pub replies : List Reply
  pub bridge : Bridged
  pub disk : D
  pub plays : Plays tells seen start trial rounds replies bridge disk
  pub stops : StopsIn tells seen (bridge, disk) (events_of (round_at trial.seed rounds))
  pub caused : IsCaused trial rounds replies stops.front stops.replies

-- the status of a run that has no summary
pub data StopsWith {D : Type 0} (tells : Bool) (seen : D → DiskSeen) (start : Beginning D) (trial : Trial) : Status → Type 0 where
  no_memory : StopsWith tells seen start trial NoMemory
  refused : (block : ℕ) → FailsAt tells seen start trial block → StopsWith tells seen start trial (TestFailed block)

-- what playing all rounds comes to
abbrev pub PlaysTo : {D : Type 0} → Bool → (D → DiskSeen) → Beginning D → Trial → (after : D) → Result Course Status → Type 0
PlaysTo tells seen start trial after (Ok course) = HasPlayed tells seen start trial course after
PlaysTo tells seen start trial after (Err status) = StopsWith tells seen start trial status

-- ---- in memory

-- The files of the run's base and its host were made on a disk in memory, whose three files were empty, and the bridge was opened on them.
pub record Starts (start : Beginning DiskLog) : Type 0 where
  pub made : Inits true run_base run_host (memory_seen (fresh_log ([] ∷ ([] ∷ ([] ∷ []))) [])) start.before Done
  pub opened : HasOpened true start.before (memory_seen start.opened) start.bridge
  pub begins : Begins true start (begun_on run_base run_host)

-- the summary of what was counted, of the bridge, and of the run state that it stands for
pub record Sums (trial : Trial) (course : Course) (run : RunState) (s : Summary) : Type 0 where
  pub blocks : s.blocks ≡ trial.blocks
  pub tip : s.tip.0 ≡ tip_hash (chain_of run)
  pub counts : AreCounts (reported_by course.bridge.store.index) (record { names = s.names; served = s.served })
  pub answers : s.answers ≡ course.answers
  pub hits : s.hits ≡ course.bridge.answers.cache.hits
  pub missed : s.missed ≡ course.bridge.answers.cache.missed
  pub saves : s.saves ≡ course.saves

-- all rounds were played, and the summary is that of the run
pub record IsSummary (trial : Trial) (s : Summary) : Type 0 where
  pub start : Beginning DiskLog
  pub starts : Starts start
  pub course : Course
  pub disk : DiskLog
  pub played : HasPlayed true memory_seen start trial course disk
  pub sums : Sums trial course played.plays.leads.new s

-- an event of this block was refused
pub record HasFailed (trial : Trial) (block : ℕ) : Type 0 where
  pub start : Beginning DiskLog
  pub starts : Starts start
  pub fails : FailsAt true memory_seen start trial block

-- the status with which a run in memory ends that has no summary
pub data IsStopped (trial : Trial) : Status → Type 0 where
  lacking : IsStopped trial NoMemory
  failing : (block : ℕ) → HasFailed trial block → IsStopped trial (TestFailed block)

-- what a run comes to
abbrev pub Comes : Trial → Result Summary Status → Type 0
Comes trial (Ok summary) = IsSummary trial summary
Comes trial (Err status) = IsStopped trial status

-- ---- what is written

-- the sink took the whole text, or a part of it; without memory nothing was written
abbrev pub Writes : List ℕ → SinkSeen → SinkSeen → Result (Unit {0}) ReportFault → Type 0
Writes text old new (Ok done) = TookAll old new text
Writes text old new (Err reports.SinkFault) = TookPart old new text
Writes text old new (Err reports.NoMemory) = new ≡ old

-- Each status with its cause: the sink took the whole summary, or a part of it; or memory ran out, or an event was refused, and nothing was written.
pub data SelfTests (trial : Trial) (old new : SinkSeen) : Status → Type 0 where
  told : (s : Summary) → IsSummary trial s → TookAll old new (summary_text s) → SelfTests trial old new Done
  cut : (s : Summary) → IsSummary trial s → TookPart old new (summary_text s) → SelfTests trial old new SinkFault
  unwritten : new ≡ old → SelfTests trial old new NoMemory
  failed : (block : ℕ) → HasFailed trial block → new ≡ old → SelfTests trial old new (TestFailed block)
