use Rattle.std.proofs.Common.{rules, ◌≡◌, ◌+◌, ◌++◌, length, sym, subst}
use Rattle.disk_model.specs.FileState.{put}
use Rattle.disk_model.specs.Moments.{EachMoment}
use Rattle.disk_model.specs.Changes.{Changes, AfterWrite}
use Rattle.disk_model.specs.DiskSeen.{bytes_in}
use Rattle.image_slots.specs.Drafted.{Drafted, DraftHolds}
use Rattle.image_slots.proofs.DraftLemmas.{leaves, holds_more}
use Rattle.image_slots.proofs.draft.Draft.add.Goals as goal

pub returns-in_err-write_at : goal.returns-in_err-write_at
returns-in_err-write_at g c =
    let draft = c.args.self.now in
    let old = (g.D.Disk.seen c.args.disk.now).moments in
    let new = (g.D.Disk.seen c.write_at.new.self).moments in
    let piece = c.args.bytes.now in
    record {
      ok = search rules;
      err = search rules;
      holds = search rules;
      others = λ tells. leaves draft.file _ old new (subst (λ (d : Drafted). EachMoment (Changes d.file (AfterWrite (8 + d.written) (length piece)) old.now) old new) c.self.view_is (c.write_at.ensures.time tells));
      alone = search rules;
      ends = search rules;
    }

pub returns : goal.returns
returns g c =
    let draft = c.args.self.now in
    let old = g.D.Disk.seen c.args.disk.now in
    let new = g.D.Disk.seen c.write_at.new.self in
    let piece = c.args.bytes.now in
    record {
      ok = search rules;
      err = search rules;
      holds = λ tells pieces holds.
          let wrote = subst (λ (d : Drafted). bytes_in new d.file ≡ put (bytes_in old d.file) (8 + d.written) piece) c.self.view_is (c.in_ok-write_at.ensures.written tells) in
          subst (λ (d : Drafted). DraftHolds (record d { written = d.written + length piece }) (pieces ++ piece) (bytes_in new d.file)) (sym c.self.view_is)
          (holds_more draft pieces (bytes_in old draft.file) holds piece (bytes_in new draft.file) wrote);
      others = λ tells.
          leaves draft.file _ old.moments new.moments (subst (λ (d : Drafted). EachMoment (Changes d.file (AfterWrite (8 + d.written) (length piece)) old.moments.now) old.moments new.moments) c.self.view_is (c.write_at.ensures.time tells));
      alone = search rules;
      ends = search rules;
    }
