use Rattle.disk_model.proofs.MomentLemmas.{last_moment}
use Rattle.name_store.proofs.DraftingLemmas.{draft_of_stays, draft_stays}
use Rattle.file_trials.proofs.store.slices.disconnect.Goals as goal

pub returns-in-Done : goal.returns-in-Done
returns-in-Done g c = λ image written going.
    let before = g.D.Disk.seen c.args.disk.now in
    let after = g.D.Disk.seen c.execute.new.disk in
    let old = c.args.begun.0 in
    let draft = c.args.begun.1 in
    let grows = c.in-Done.ensures.grows in
    record {
      is_draft = draft_of_stays _ old c.in-Done.store draft grows going.is_draft;
      size = going.size;
      written_is = going.written_is;
      on_disk = λ told. c.in-Done.ensures.leaves.still_on told;
      drafted = λ told.
          draft_stays _ old c.in-Done.store draft image before.moments.now after.moments.now grows (going.on_disk told) (last_moment (c.in-Done.ensures.leaves.others told)) (c.in-Done.ensures.adds told) going.is_draft (going.drafted told);
    }
