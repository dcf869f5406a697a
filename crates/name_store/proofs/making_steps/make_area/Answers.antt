use Rattle.std.proofs.Common.{rules, List, ℕ, ◌∙◌, ap}
use Rattle.disk_model.specs.Changes.{AfterWrite, AfterCut, AfterSync}
use Rattle.disk_model.specs.FileState.{put}
use Rattle.disk_model.specs.DiskSeen.{file_in, bytes_in}
use Rattle.name_store.specs.MakingSteps.{empty_area}
use Rattle.name_store.proofs.StepLemmas.{leaves, leaves_more, settled_ok}
use Rattle.name_store.proofs.making_steps.make_area.Goals as goal

pub returns-in_err-cut : goal.returns-in_err-cut
returns-in_err-cut g c = record {
  made = search rules;
  any_moment = λ tells. leaves 1 (AfterCut 0) (g.D.Disk.seen c.args.disk.now).moments (g.D.Disk.seen c.cut.new.self).moments (c.cut.ensures.time tells);
  ends = search rules;
}

pub returns-in_err-write_at : goal.returns-in_err-write_at
returns-in_err-write_at g c = record {
  made = search rules;
  any_moment = λ tells.
      let old = (g.D.Disk.seen c.args.disk.now).moments in
      let m1 = (g.D.Disk.seen c.cut.new.self).moments in
      let m2 = (g.D.Disk.seen c.write_at.new.self).moments in
      leaves_more 1 (AfterWrite 0 9) old m1 m2 (leaves 1 (AfterCut 0) old m1 (c.cut.ensures.time tells)) (c.write_at.ensures.time tells);
  ends = search rules;
}

pub returns : goal.returns
returns g c =
    let d1 = g.D.Disk.seen c.cut.new.self in
    let d2 = g.D.Disk.seen c.write_at.new.self in
    let d3 = g.D.Disk.seen c.sync.new.self in
    record {
      made = λ tells. settled_ok c.sync.result (file_in d3 1) (bytes_in d2 1) empty_area (c.sync.ensures.settled tells) (c.sync.ensures.same tells)
          (c.in_ok-write_at.ensures.written tells ∙ ap (λ (l : List ℕ). put l 0 empty_area) (c.in_ok-cut.ensures.cut tells));
      any_moment = λ tells.
          let old = (g.D.Disk.seen c.args.disk.now).moments in
          let m1 = d1.moments in
          let m2 = d2.moments in
          leaves_more 1 AfterSync old m2 d3.moments (leaves_more 1 (AfterWrite 0 9) old m1 m2 (leaves 1 (AfterCut 0) old m1 (c.cut.ensures.time tells)) (c.write_at.ensures.time tells)) (c.sync.ensures.time tells);
      ends = search rules;
    }
