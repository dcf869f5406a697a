-- What a run of `serve` comes to, by how its polls ended, or why none was made.
use Rattle.std.proofs.Common.{◌≡◌, inl, inr, Bool, List, [], ◌++◌, refl, sym, subst, ◌∙◌}
use Rattle.std.specs.Prelude.{◌⊎◌}
use Rattle.std.proofs.lemmas.List.{append-nil}
use Rattle.fault_counts.specs.Faults.{NeverFell, Rose}
use Rattle.fault_counts.proofs.FaultLemmas.{NeverFell_refl, NeverFell_trans}
use Rattle.byte_io.specs.Port.{Note, PortSeen, Adds, BindsTo, NotesFault}
use Rattle.disk_model.specs.DiskSeen.{DiskSeen}
use Rattle.port_loop.proofs.StretchLemmas.{answers_streams}
use Rattle.port_loop.specs.Transcript.{PollTranscript, Attends}
use Rattle.port_loop.specs.declared.attending.Ending.{Ending}
use Rattle.port_loop.specs.declared.attending.Ending.TheVariants as endings
use Rattle.chain_commands.specs.Event.{last_kind}
use Rattle.name_store.specs.declared.faults.OpenFault.{OpenFault}
use Rattle.bridge_core.specs.Bridged.{Bridged}
use Rattle.bridge_core.specs.Opening.{status_of_fault, HasOpened, EndsWell, is_done}
use Rattle.bridge_core.specs.Reached.{Beginning, IsReached, Reached, Broken}
use Rattle.bridge_core.specs.declared.bridge.Turned.{Turned}
use Rattle.bridge_core.specs.declared.bridge.Turned.TheVariants.{On}
use Rattle.bridge_core.specs.declared.status.Status.TheVariants.{PortFault}
use Rattle.bridge_core.proofs.OpeningLemmas.{Unbegun, cause_of, begins_well}
use Rattle.bridge_core.proofs.DeterminedLemmas.{reached_later}
use Rattle.bridge_commands.specs.Serving.{ServeSeen, ended, unbound, unbegun, Serves, status_of_ending}
use Rattle.bridge_commands.specs.declared.words.Plan.{Plan}

-- a run of `serve`, as contracts see it
pub record Scene (D : Type 0) : Type 0 where
  pub tells : Bool
  pub seen : D → DiskSeen
  pub disk : D
  pub old : ServeSeen
  pub new : ServeSeen
  pub plan : Plan

-- the loop over the polls of a bridge whose files were opened, and whose port was bound
pub record Loop {D : Type 0} (s : Scene D) : Type 0 where
  pub begun : Beginning D
  pub begun_is : begun.before ≡ s.old.disk
  pub opened : HasOpened s.tells s.old.disk (s.seen begun.opened) begun.bridge
  pub mid : PortSeen
  pub binds : BindsTo s.old.port mid s.plan.udp s.plan.feed
  pub reached : IsReached s.tells s.seen begun [] [] begun.bridge begun.opened
  pub how : Ending
  pub last : Turned
  pub attends : Attends last_kind (Reached s.tells s.seen) (Broken s.tells s.seen) mid s.new.port s.plan.turns (On begun.bridge, begun.opened) how (last, s.disk)
  pub now : s.seen s.disk ≡ s.new.disk

module _ {D : Type 0} (s : Scene D) (l : Loop s) where
  abbrev EndsBy : Ending → Type 0
  EndsBy how = PollTranscript last_kind (Reached s.tells s.seen) (Broken s.tells s.seen) s.plan.turns l.attends.notes (On l.begun.bridge, l.begun.opened) how (l.last, s.disk)

  added : Adds s.old.port.notes s.new.port.notes l.attends.notes
  added = λ after told.
      let had = l.attends.noted.added after told in
      let bound = l.binds.added had.before had.told in
      record { before = bound.before; told = bound.told; after_is = had.after_is ∙ subst (λ (b : List Note). b ++ l.attends.notes ≡ bound.before ++ l.attends.notes) (sym (bound.after_is ∙ append-nil bound.before)) refl }

  -- the counts of the disk at the start and at the end
  around : (P : (before after : DiskSeen) → Type 0) → P l.begun.before (s.seen s.disk) → P s.old.disk s.new.disk
  around P p = subst (λ (d : DiskSeen). P d s.new.disk) l.begun_is (subst (λ (d : DiskSeen). P l.begun.before d) l.now p)

  later_by : (how : Ending) → EndsBy how → NeverFell l.begun.before.faults (s.seen s.disk).faults
  later_by endings.Done e = reached_later s.tells s.seen l.begun e.frames e.replies l.last s.disk (e.leads.from l.begun [] [] l.reached)
  later_by endings.Ended e = (e.leads.from l.begun [] [] l.reached).later

  complete_by : (how : Ending) → EndsBy how → ¬ (Rose s.old.disk.faults s.new.disk.faults) → EndsWell (status_of_ending how) ⊎ (status_of_ending how ≡ PortFault)
  complete_by endings.Done e well = inl is_done
  complete_by endings.Ended e well = absurd (well (around (λ before after. Rose before.faults after.faults) (e.leads.from l.begun [] [] l.reached).rose.rose))

  pub serves_polls : Serves s.tells s.seen s.disk s.old s.new s.plan (status_of_ending l.how)
  serves_polls =
      let e = l.attends.transcript in
      record {
        port_later = NeverFell_trans s.old.port.faults l.mid.faults s.new.port.faults l.binds.later l.attends.noted.later;
        disk_later = around (λ before after. NeverFell before.faults after.faults) (later_by l.how e);
        ending = ended l.how (record {
          start = l.begun;
          start_is = l.begun_is;
          opened = l.opened;
          bound = l.attends.noted.bound ∙ l.binds.bound;
          notes = l.attends.notes;
          added = added;
          at_first = l.reached;
          last = l.last;
          transcript = e;
          streams = answers_streams last_kind (Reached s.tells s.seen) (Broken s.tells s.seen) s.plan.turns l.attends.notes (On l.begun.bridge, l.begun.opened) l.how (l.last, s.disk) e;
        });
        complete = λ told run stands well. complete_by l.how e well;
      }

module _ {D : Type 0} (s : Scene D) where
  -- the port couldn't be bound
  pub serves_unbound : NotesFault s.old.port s.new.port [] → (bridge : Bridged) → HasOpened s.tells s.old.disk s.new.disk bridge
      → Serves s.tells s.seen s.disk s.old s.new s.plan PortFault
  serves_unbound fault bridge opened = record {
    port_later = fault.noted.later;
    disk_later = opened.later;
    ending = unbound fault (record { bridge = bridge; opened = opened });
    complete = λ told run stands well. inr refl;
  }

  -- the files couldn't be opened, or memory ran out
  pub serves_unbegun : (fault : OpenFault) → s.new.port ≡ s.old.port → Unbegun s.tells s.old.disk s.new.disk fault
      → Serves s.tells s.seen s.disk s.old s.new s.plan (status_of_fault fault)
  serves_unbegun fault same u = record {
    port_later = subst (λ (p : PortSeen). NeverFell s.old.port.faults p.faults) (sym same) (NeverFell_refl s.old.port.faults);
    disk_later = u.never_fell;
    ending = unbegun (status_of_fault fault) same u.writes_nothing (cause_of s.tells s.old.disk s.new.disk fault u);
    complete = λ told run stands well. inl (begins_well s.tells s.old.disk s.new.disk fault u told run stands well);
  }
