-- The files of a run state while another area is drafted.
use Rattle.std.proofs.Common.{◌≡◌, ℕ, inl, sym, ap, subst}
use Rattle.disk_model.specs.Changes.{LeavesOthers}
use Rattle.disk_model.specs.DiskSeen.{DiskSeen}
use Rattle.disk_model.specs.FileState.{FileState}
use Rattle.disk_model.specs.Moments.{Files, EachMoment}
use Rattle.disk_model.proofs.MomentLemmas.{last_moment, weaken}
use Rattle.gate_journal.specs.Records.{IsArea}
use Rattle.chain_commands.specs.RunState.{RunState}
use Rattle.image_files.proofs.SaveLemmas.{not_drafted, apart}
use Rattle.image_slots.specs.Selections.{HasSelections, selected_by, drafted_by}
use Rattle.index_commands.specs.Records.{records_of}
use Rattle.name_store.specs.Header.{header_text}
use Rattle.name_store.specs.Saves.{SparesSelected}
use Rattle.name_store.specs.Stands.{Stands, EachStands}
use Rattle.name_store.specs.Stored.{Stored, StandsFor}
use Rattle.bridge_core.specs.Bridge.{AreFilesOf}
use Rattle.bridge_core.specs.Runs.{KeepsFiles}

-- what changes no file but the drafted one spares the selected area
pub spares : (store : Stored) (old new : Files) → LeavesOthers (drafted_by store.slots.count) old new → SparesSelected store old new
spares store old new same = same (selected_by store.slots.count) (apart store.slots.count)

module _ (store : Stored) (run : RunState) (s : StandsFor store run) where
  -- what reads give stands for the run state still
  read_beside : (old new : Files) → LeavesOthers (drafted_by store.slots.count) old new → Stands (λ file. (old file).bytes) run → Stands (λ file. (new file).bytes) run
  read_beside old new same stands =
      let selected : (new (selected_by run.selections)).bytes ≡ (old (selected_by run.selections)).bytes =
      subst (λ (n : ℕ). (new (selected_by n)).bytes ≡ (old (selected_by n)).bytes) s.selections (ap (λ (f : FileState). f.bytes) (spares store old new same)) in
      record {
        selections = subst (HasSelections (header_text run.base run.host) run.selections) (sym (ap (λ (f : FileState). f.bytes) (same 0 (not_drafted store.slots.count)))) stands.selections;
        area = subst (IsArea run.text (records_of run.since)) (sym selected) stands.area;
        is_state = stands.is_state;
      }

  -- and so do the files, where whatever a crash left meanwhile did
  pub files_beside : (before after : DiskSeen) → AreFilesOf run before.moments.now → EachMoment (LeavesOthers (drafted_by store.slots.count) before.moments.now) before.moments after.moments
      → EachMoment (λ files. EachStands files run) before.moments after.moments → KeepsFiles run run before after
  files_beside before after stood same kept = record {
    files = record { read = read_beside before.moments.now after.moments.now (last_moment same) stood.read; each = last_moment kept };
    any_moment = weaken _ (λ files each image_is is. inl (each image_is is)) kept;
  }
