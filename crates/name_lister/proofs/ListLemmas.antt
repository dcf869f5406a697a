-- A lister as what answers the frames of a run over a stream, and what its run begins at.
use Rattle.std.proofs.Common.{◌≡◌, ℕ, Bool, List, [], refl}
use Rattle.fault_counts.specs.Faults.{NeverFell}
use Rattle.disk_model.specs.DiskSeen.{DiskSeen}
use Rattle.feed_frames.specs.Frames.{Frame}
use Rattle.feed_frames.specs.Replies.{Reply}
use Rattle.chain_commands.specs.RunState.{RunState}
use Rattle.bridge_core.specs.Bridged as bridges
use Rattle.bridge_core.specs.Opening.{HasOpened}
use Rattle.bridge_core.specs.Reached.{Beginning}
use Rattle.bridge_core.proofs.BridgedLemmas.{stands_first}
use Rattle.bridge_core.proofs.DeterminedLemmas.{Answering}
use Rattle.bridge_core.proofs.OpeningLemmas.{first_behind}
use Rattle.name_lister.specs.Event.{last_list_kind}
use Rattle.name_lister.specs.Lister.{Listed, StandsFor}
use Rattle.name_lister.specs.Reached.{HasReached, Reached, Broken, ListBeginning, IsFirst, IsListReached, list_machine, start_at, with_pages}
use Rattle.name_lister.specs.Step.{beginning}
use Rattle.name_lister.specs.declared.lister.ListTurned.{ListTurned}
use Rattle.name_lister.specs.declared.lister.ListTurned.TheVariants.{On, Ended}
use Rattle.name_lister.proofs.ReachLemmas.{is_list_machine}

abbrev pub reached_later : {D : Type 0} (tells : Bool) (seen : D → DiskSeen) (start : ListBeginning D) (frames : List Frame) (replies : List Reply) (last : ListTurned) (disk : D)
    → HasReached tells seen start frames replies last disk → NeverFell start.begun.before.faults (seen disk).faults
reached_later tells seen start frames replies (On lister) disk r = r.reached.later
reached_later tells seen start frames replies Ended disk r = absurd r

abbrev pub lister_answers : {D : Type 0} (size : ℕ) (tells : Bool) (seen : D → DiskSeen) → Answering D ListTurned
lister_answers size tells seen = record {
  kinds = last_list_kind;
  Reached = λ begun. Reached tells seen (with_pages size begun);
  Broken = λ begun. Broken tells seen (with_pages size begun);
  seen = seen;
  reached_later = λ begun frames replies now r. reached_later tells seen (with_pages size begun) frames replies now.0 now.1 r;
  broken_later = λ begun frames replies now b. b.broken.later;
  broken_rose = λ begun frames replies now b. b.broken.rose.rose;
}

module _ {D : Type 0} (tells : Bool) (seen : D → DiskSeen) (size : ℕ) (before : DiskSeen) (opened : D) (lister : Listed) where
  abbrev pub begun_at : Beginning D
  begun_at = record { before = before; opened = opened; bridge = lister.bridge }

  -- no frame was read yet
  pub first_list_reached : HasOpened tells before (seen opened) lister.bridge → lister.page ≡ size
      → ((run : RunState) → bridges.StandsFor lister.bridge run → StandsFor lister (beginning run)) → IsListReached tells seen (with_pages size begun_at) [] [] lister opened
  first_list_reached o page begins =
      let first : IsFirst (with_pages size begun_at) lister = record { bridge_is = refl; page_is = page; stands = begins } in
      record {
        first = lister;
        is_first = first;
        reached = first_behind (list_machine size tells seen) (is_list_machine size tells seen) (start_at (with_pages size begun_at) lister) lister.bridge o refl
            (λ run b. record { page = page; stands = begins run (stands_first lister.bridge run o.empty b.stands) });
      }
