-- What a run over a stream comes to, by how its loop ended, or why its files weren't opened.
use Rattle.std.proofs.Common.{◌≡◌, ℕ, Bool, List, ◌∷◌, ◌++◌, [], refl, sym, subst}
use Rattle.fault_counts.specs.Faults.{NeverFell, Rose}
use Rattle.fault_counts.proofs.FaultLemmas.{NeverFell_refl}
use Rattle.disk_model.specs.DiskSeen.{DiskSeen}
use Rattle.feed_frames.specs.Frames.{Frame}
use Rattle.feed_frames.specs.Replies.{Reply}
use Rattle.frame_loop.specs.Transcript as loops
use Rattle.frame_loop.specs.Transcript.{Transcript, passed}
use Rattle.frame_loop.specs.Determined as outcomes
use Rattle.frame_loop.specs.declared.following.Ending.{Ending}
use Rattle.frame_loop.specs.declared.following.Ending.TheVariants as endings
use Rattle.frame_loop.proofs.DeterminedLemmas as loop_outcomes
use Rattle.chain_commands.specs.Event.{last_kind}
use Rattle.name_store.specs.declared.faults.OpenFault.{OpenFault}
use Rattle.name_store.specs.declared.faults.OpenFault.TheVariants as faults
use Rattle.bridge_core.specs.Reached.{Beginning, HasReached, Reached, Broken}
use Rattle.bridge_core.specs.Determined.{Outside, IsDecided, IsDetermined, whole, bad, cut, over, uninitialised, damaged, lacking}
use Rattle.bridge_core.specs.Opening.{status_of_fault, HasOpened, EndsWell, is_done}
use Rattle.bridge_core.specs.Streaming.{Leads, status_of_ending, unbegun, ended, Streams}
use Rattle.bridge_core.specs.declared.status.Status.{Status}
use Rattle.bridge_core.specs.declared.bridge.Turned.{Turned}
use Rattle.bridge_core.specs.declared.bridge.Turned.TheVariants.{On, Ended}
use Rattle.bridge_core.proofs.OpeningLemmas.{Unbegun, cause_of, begins_well}

-- What answers the frames of a run, whatever it is: the kinds that it reads, and where frames and replies lead it, or led to its end;
-- wherever they lead, no count of the disk's faults fell, and where they led to the end the disk failed.
pub record Answering (D X : Type 0) : Type 1 where
  pub kinds : ℕ
  pub Reached : Leads D X
  pub Broken : Leads D X
  pub seen : D → DiskSeen
  pub reached_later : (begun : Beginning D) (frames : List Frame) (replies : List Reply) (now : X × D) → Reached begun frames replies now
      → NeverFell begun.before.faults (seen now.1).faults
  pub broken_later : (begun : Beginning D) (frames : List Frame) (replies : List Reply) (now : X × D) → Broken begun frames replies now
      → NeverFell begun.before.faults (seen now.1).faults
  pub broken_rose : (begun : Beginning D) (frames : List Frame) (replies : List Reply) (now : X × D) → Broken begun frames replies now
      → Rose begun.before.faults (seen now.1).faults

-- a run over a stream, as contracts see it
pub record Scene (D : Type 0) : Type 0 where
  pub tells : Bool
  pub disk : D
  pub old : Outside
  pub new : Outside
  pub limit : ℕ

module _ {D X : Type 0} (a : Answering D X) (s : Scene D) where
  abbrev pub StreamsSo : Status → Type 0
  StreamsSo = Streams a.kinds a.Reached a.Broken s.tells a.seen s.disk s.old s.new s.limit

  -- the loop over the stream, from a bridge whose files were opened
  pub record Loop : Type 0 where
    pub begun : Beginning D
    pub begun_is : begun.before ≡ s.old.disk
    pub opened : HasOpened s.tells s.old.disk (a.seen begun.opened) begun.bridge
    pub how : Ending
    pub last : X
    pub transcript : Transcript a.kinds (a.Reached begun) (a.Broken begun) s.old.streams s.new.streams s.limit how (last, s.disk)
    pub source_later : NeverFell s.old.streams.source.faults s.new.streams.source.faults
    pub sink_later : NeverFell s.old.streams.sink.faults s.new.streams.sink.faults
    pub now : a.seen s.disk ≡ s.new.disk

  module _ (l : Loop) where
    abbrev Reaches : List Frame → List Reply → X × D → Type 0
    Reaches = a.Reached l.begun

    abbrev Breaks : List Frame → List Reply → X × D → Type 0
    Breaks = a.Broken l.begun

    abbrev EndedBy : Ending → Type 0
    EndedBy how = loops.Ends a.kinds Reaches Breaks s.old.streams s.new.streams s.limit (passed l.transcript.read l.transcript.written) how (l.last, s.disk)

    -- the counts of the disk at the start and at the end
    around : (P : (before after : DiskSeen) → Type 0) → P l.begun.before (a.seen s.disk) → P s.old.disk s.new.disk
    around P p = subst (λ (d : DiskSeen). P d s.new.disk) l.begun_is (subst (λ (d : DiskSeen). P l.begun.before d) l.now p)

    reached_before : (frames : List Frame) (replies : List Reply) → Reaches frames replies (l.last, s.disk) → NeverFell l.begun.before.faults (a.seen s.disk).faults
    reached_before frames replies r = a.reached_later l.begun frames replies (l.last, s.disk) r

    ended_later : (how : Ending) → EndedBy how → NeverFell l.begun.before.faults (a.seen s.disk).faults
    ended_later endings.Done e = reached_before e.answered.frames e.answered.replies e.answered.reached
    ended_later (endings.BadFrame offset) e = reached_before e.answered.frames e.answered.replies e.answered.reached
    ended_later (endings.CutFrame offset) e = reached_before e.answered.frames e.answered.replies e.answered.reached
    ended_later endings.SourceFault e = reached_before e.answered.frames e.answered.replies e.answered.reached
    ended_later endings.InputLimit e = reached_before e.answered.frames e.answered.replies e.answered.reached
    ended_later endings.SinkFault e = reached_before e.interrupted.frames (e.interrupted.replies ++ e.interrupted.last ∷ []) e.interrupted.reached
    ended_later endings.Ended e = a.broken_later l.begun e.broken_off.frames (e.broken_off.replies ++ e.broken_off.last ∷ []) (l.last, s.disk) e.broken_off.broken

    disk_later : NeverFell s.old.disk.faults s.new.disk.faults
    disk_later = around (λ before after. NeverFell before.faults after.faults) (ended_later l.how l.transcript.ending)

    rose_by : EndedBy endings.Ended → Rose l.begun.before.faults (a.seen s.disk).faults
    rose_by e = a.broken_rose l.begun e.broken_off.frames (e.broken_off.replies ++ e.broken_off.last ∷ []) (l.last, s.disk) e.broken_off.broken

    fault_rose : l.how ≡ endings.Ended → Rose s.old.disk.faults s.new.disk.faults
    fault_rose is = around (λ before after. Rose before.faults after.faults) (rose_by (subst (λ (how : Ending). EndedBy how) is l.transcript.ending))

    loop_determined : outcomes.IsDetermined a.kinds s.old.streams s.new.streams s.limit l.how
    loop_determined = loop_outcomes.determined Reaches Breaks s.old.streams s.new.streams s.limit l.how (l.last, s.disk) l.transcript

    decided : {bytes : List ℕ} {frames : List Frame} {rest : List ℕ} {how : Ending} → ¬ (how ≡ endings.Ended) → outcomes.IsOutcome a.kinds s.limit bytes frames rest how
        → IsDecided a.kinds s.limit bytes frames rest (status_of_ending how)
    decided not_ended (outcomes.whole o) = whole o
    decided not_ended (outcomes.bad offset o) = bad offset o
    decided not_ended (outcomes.cut offset o) = cut offset o
    decided not_ended (outcomes.over o) = over o
    decided not_ended outcomes.broken = absurd (not_ended refl)

    completed : {how : Ending} → ¬ (how ≡ endings.Ended) → outcomes.EndsWell how → EndsWell (status_of_ending how)
    completed not_ended outcomes.all_answered = is_done
    completed not_ended outcomes.ended_before = absurd (not_ended refl)

    pub streams_loop : StreamsSo (status_of_ending l.how)
    streams_loop = record {
      source_later = l.source_later;
      sink_later = l.sink_later;
      disk_later = disk_later;
      ending = ended l.how (record { start = l.begun; start_is = l.begun_is; opened = l.opened; last = l.last; transcript = l.transcript });
      determined = λ bytes frames rest left split is_rest well. decided (λ is. well.disk (fault_rose is)) (loop_determined bytes frames rest left split is_rest well.streams);
      complete = λ told run stands bytes frames left split below well.
          completed (λ is. well.disk (fault_rose is)) (loop_outcomes.complete s.old.streams s.new.streams s.limit l.how loop_determined bytes frames left split below well.streams);
    }

  -- ---- files that weren't opened

  determined_unbegun : (fault : OpenFault) → Unbegun s.tells s.old.disk s.new.disk fault → IsDetermined a.kinds s.old s.new s.limit (status_of_fault fault)
  determined_unbegun faults.Uninitialised u = λ bytes frames rest left split is_rest well. uninitialised
  determined_unbegun (faults.Damaged file at) u = λ bytes frames rest left split is_rest well. damaged file at
  determined_unbegun faults.DiskFault u = λ bytes frames rest left split is_rest well. absurd (well.disk (u.cause refl).rose)
  determined_unbegun faults.NoMemory u = λ bytes frames rest left split is_rest well. lacking

  -- the files couldn't be opened, or memory ran out
  pub streams_unbegun : (fault : OpenFault) → s.new.streams ≡ s.old.streams → Unbegun s.tells s.old.disk s.new.disk fault → StreamsSo (status_of_fault fault)
  streams_unbegun fault same u = record {
    source_later = subst (λ (t : loops.Streams). NeverFell s.old.streams.source.faults t.source.faults) (sym same) (NeverFell_refl s.old.streams.source.faults);
    sink_later = subst (λ (t : loops.Streams). NeverFell s.old.streams.sink.faults t.sink.faults) (sym same) (NeverFell_refl s.old.streams.sink.faults);
    disk_later = u.never_fell;
    ending = unbegun (status_of_fault fault) (record { streams = same; writes_nothing = u.writes_nothing; cause = cause_of s.tells s.old.disk s.new.disk fault u });
    determined = determined_unbegun fault u;
    complete = λ told run stands bytes frames left split below well. begins_well s.tells s.old.disk s.new.disk fault u told run stands well.disk;
  }

-- ---- a bridge

abbrev pub reached_later : {D : Type 0} (tells : Bool) (seen : D → DiskSeen) (begun : Beginning D) (frames : List Frame) (replies : List Reply) (last : Turned) (disk : D)
    → HasReached tells seen begun frames replies last disk → NeverFell begun.before.faults (seen disk).faults
reached_later tells seen begun frames replies (On bridge) disk r = r.later
reached_later tells seen begun frames replies Ended disk r = absurd r

abbrev pub bridge_answers : {D : Type 0} (tells : Bool) (seen : D → DiskSeen) → Answering D Turned
bridge_answers tells seen = record {
  kinds = last_kind;
  Reached = Reached tells seen;
  Broken = Broken tells seen;
  seen = seen;
  reached_later = λ begun frames replies now r. reached_later tells seen begun frames replies now.0 now.1 r;
  broken_later = λ begun frames replies now b. b.later;
  broken_rose = λ begun frames replies now b. b.rose.rose;
}
