-- What a run begins at, behind the opening of its files; and why one doesn't begin.
use Rattle.std.proofs.Common.{◌≡◌, inl, Bool, [], None, Err, refl, sym, subst, arith}
use Rattle.std.specs.Prelude.{IsTrue}
use Rattle.fault_counts.specs.Faults.{NeverFell, Rose}
use Rattle.disk_model.specs.Moments as moments
use Rattle.disk_model.specs.DiskSeen.{DiskSeen, HasFailed, bytes_in}
use Rattle.disk_model.proofs.MomentLemmas.{weaken}
use Rattle.disk_model.proofs.ImageLemmas.{KeepsSettled-images}
use Rattle.gate_journal.specs.Records.{IsArea}
use Rattle.chain_commands.specs.RunState.{RunState}
use Rattle.image_slots.specs.Selections.{HasSelections, selected_by}
use Rattle.index_commands.specs.Records.{records_of}
use Rattle.name_store.specs.Header.{header_text}
use Rattle.name_store.specs.Opening.{IsSynced, OpenAnswer, OpensFor}
use Rattle.name_store.specs.declared.faults.OpenFault.{OpenFault}
use Rattle.name_store.specs.declared.faults.OpenFault.TheVariants as faults
use Rattle.name_store.specs.Stands.{Stands}
use Rattle.name_store.specs.Stored.{Stored, StandsFor}
use Rattle.bridge_core.specs.Bridge.{AreFilesOf}
use Rattle.bridge_core.specs.Opening.{status_of_fault, HasOpened, WritesNothing, IsUnbegun, uninitialised, damaged, disk_fault, no_memory, EndsWell, lacks_memory}
use Rattle.bridge_core.specs.Bridged as bridges
use Rattle.bridge_core.specs.Bridged.{Bridged}
use Rattle.bridge_core.specs.Reached.{bridge_machine, start_of, Beginning, Begins, LeadsTo, IsReached}
use Rattle.bridge_core.specs.Runs as runs
use Rattle.bridge_core.specs.Runs.{Machine, Start, none_yet, asked, LeavesOldOrFront, IsMachine}
use Rattle.bridge_core.proofs.BridgedLemmas.{stands_first}
use Rattle.bridge_core.proofs.FileLemmas.{files_of}
use Rattle.bridge_core.proofs.ReachedLemmas.{is_machine}
use Rattle.bridge_core.proofs.RunLemmas.{front_of_all}

-- ---- a bridge that was opened

-- what reads give of the files stands for the run state where they are alike
stands_alike : (old new : DiskSeen) (run : RunState) → IsSynced old new → Stands (bytes_in old) run → Stands (bytes_in new) run
stands_alike old new run synced stands = record {
  selections = subst (HasSelections (header_text run.base run.host) run.selections) (sym (synced.alike 0 (omega arith))) stands.selections;
  area = subst (IsArea run.text (records_of run.since)) (sym (synced.alike (selected_by run.selections) (omega arith))) stands.area;
  is_state = stands.is_state;
}

-- What answers the events of any machine begins with the store of a bridge that was opened, and stands for the state that each run
-- begins at.
module _ {S E X D : Type 0} (m : Machine S E X D) (laws : IsMachine m) (begun : Start X D) (bridge : Bridged) (o : HasOpened m.tells begun.before (m.seen begun.opened) bridge)
    (same : m.store_of begun.first ≡ bridge.store) (stands : (run : RunState) → runs.Begins m begun run → m.StandsFor begun.first (m.begin run)) where
  files_first : (run : RunState) → runs.Begins m begun run → IsTrue m.tells → AreFilesOf (m.run_of (m.begin run)) (m.seen begun.opened).moments.now
  files_first run b told =
      subst (λ (at : RunState). AreFilesOf at (m.seen begun.opened).moments.now) (sym (laws.begins_at run))
      (files_of bridge.store (m.seen begun.opened) (o.opened told).on_disk run (subst (λ (store : Stored). StandsFor store run) same b.stands)
      (stands_alike begun.before (m.seen begun.opened) run (o.synced told) (b.files told)))

  abbrev no_turn : runs.Passes m begun [] [] begun.first begun.opened
  no_turn = none_yet

  pub first_led : (run : RunState) → runs.Begins m begun run → runs.LeadsTo m no_turn run
  first_led run b = record {
    new = m.begin run;
    runs = laws.no_step (m.begin run);
    stands = stands run b;
    files = λ told. files_first run b told;
    any_moment = λ told. weaken (LeavesOldOrFront m begun.before run (asked [] [] None)) (λ files kept image_is is. inl (KeepsSettled-images begun.before.moments.now files image_is kept is)) (o.writes_nothing.any_moment told);
    acknowledged = λ told. moments.start (λ image_is is. inl (front_of_all m run 0 (omega arith) (laws.no_step (m.begin run)) ((files_first run b told).each image_is is)));
  }

  pub first_behind : runs.IsReached m begun [] [] begun.first begun.opened
  first_behind = record {
    events = [];
    frames_are = refl;
    passes = no_turn;
    later = o.later;
    each = λ run b. first_led run b;
  }

-- so a bridge does
module _ {D : Type 0} (tells : Bool) (seen : D → DiskSeen) (begun : Beginning D) (o : HasOpened tells begun.before (seen begun.opened) begun.bridge) where
  stands_behind : (run : RunState) → Begins tells begun run → bridges.StandsFor begun.bridge run
  stands_behind run b = stands_first begun.bridge run o.empty b.stands

  pub leads_first : (run : RunState) → Begins tells begun run → LeadsTo tells seen begun none_yet run
  leads_first run b = first_led (bridge_machine tells seen) (is_machine tells seen) (start_of begun) begun.bridge o refl stands_behind run b

  pub first_reached : IsReached tells seen begun [] [] begun.bridge begun.opened
  first_reached = first_behind (bridge_machine tells seen) (is_machine tells seen) (start_of begun) begun.bridge o refl stands_behind

-- ---- files that weren't opened

pub record Unbegun (tells : Bool) (old new : DiskSeen) (fault : OpenFault) : Type 0 where
  pub writes_nothing : WritesNothing tells old new
  pub answer : IsTrue tells → OpenAnswer (bytes_in old) new.moments.now (Err fault)
  pub follows : IsTrue tells → (run : RunState) → Stands (bytes_in old) run → OpensFor run (Err fault)
  pub never_fell : NeverFell old.faults new.faults
  pub cause : fault ≡ faults.DiskFault → HasFailed old new

module _ (tells : Bool) (old new : DiskSeen) where
  pub cause_of : (fault : OpenFault) → Unbegun tells old new fault → IsUnbegun tells old new (status_of_fault fault)
  cause_of faults.Uninitialised u = uninitialised u.answer
  cause_of (faults.Damaged file at) u = damaged file at u.answer
  cause_of faults.DiskFault u = disk_fault (u.cause refl)
  cause_of faults.NoMemory u = no_memory

  -- on files that stand for a run state, where the disk didn't fail, memory ran out
  pub begins_well : (fault : OpenFault) → Unbegun tells old new fault → IsTrue tells → (run : RunState) → Stands (bytes_in old) run → ¬ (Rose old.faults new.faults)
      → EndsWell (status_of_fault fault)
  begins_well faults.Uninitialised u told run stands well = absurd (u.follows told run stands)
  begins_well (faults.Damaged file at) u told run stands well = absurd (u.follows told run stands)
  begins_well faults.DiskFault u told run stands well = absurd (well (u.cause refl).rose)
  begins_well faults.NoMemory u told run stands well = lacks_memory

pub memory_not_fault : {P : Type 0} → faults.NoMemory ≡ faults.DiskFault → P
memory_not_fault e = cc
