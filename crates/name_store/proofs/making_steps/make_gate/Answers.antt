use Rattle.std.proofs.Common.{rules, List, ℕ, [], ◌∷◌, ◌∙◌, ap}
use Rattle.disk_model.specs.FileState.{put}
use Rattle.disk_model.specs.DiskSeen.{file_in, bytes_in}
use Rattle.name_store.proofs.StepLemmas.{short_first, short_synced, short_written, settled_ok}
use Rattle.name_store.proofs.making_steps.make_gate.Goals as goal

pub returns-in_err-cut : goal.returns-in_err-cut
returns-in_err-cut g c = record {
  made = search rules;
  any_moment = λ tells. short_first 0 (g.D.Disk.seen c.args.disk.now).moments (g.D.Disk.seen c.cut.new.self).moments (c.cut.ensures.time tells);
  ends = search rules;
}

pub returns-in_err-sync : goal.returns-in_err-sync
returns-in_err-sync g c = record {
  made = search rules;
  any_moment = λ tells.
      let old = (g.D.Disk.seen c.args.disk.now).moments in
      let m1 = (g.D.Disk.seen c.cut.new.self).moments in
      short_synced 0 old m1 (g.D.Disk.seen c.sync.new.self).moments (short_first 0 old m1 (c.cut.ensures.time tells)) (c.sync.ensures.time tells);
  ends = search rules;
}

pub returns-in_err-write_at : goal.returns-in_err-write_at
returns-in_err-write_at g c = record {
  made = search rules;
  any_moment = λ tells.
      let old = (g.D.Disk.seen c.args.disk.now).moments in
      let m1 = (g.D.Disk.seen c.cut.new.self).moments in
      let m2 = (g.D.Disk.seen c.sync.new.self).moments in
      let m3 = (g.D.Disk.seen c.write_at.new.self).moments in
      short_written 0 old m2 m3 (short_synced 0 old m1 m2 (short_first 0 old m1 (c.cut.ensures.time tells)) (c.sync.ensures.time tells)) (c.write_at.ensures.time tells);
  ends = search rules;
}

pub returns : goal.returns
returns g c =
    let d2 = g.D.Disk.seen c.sync.new.self in
    let d3 = g.D.Disk.seen c.write_at.new.self in
    let d4 = g.D.Disk.seen c.sync-2.new.self in
    record {
      made = λ tells. settled_ok c.sync-2.result (file_in d4 0) (bytes_in d3 0) (0 ∷ []) (c.sync-2.ensures.settled tells) (c.sync-2.ensures.same tells)
          (c.in_ok-write_at.ensures.written tells ∙ ap (λ (l : List ℕ). put l 0 (0 ∷ [])) (c.in_ok-sync.ensures.same tells ∙ c.in_ok-cut.ensures.cut tells));
      any_moment = λ tells.
          let old = (g.D.Disk.seen c.args.disk.now).moments in
          let m1 = (g.D.Disk.seen c.cut.new.self).moments in
          let m2 = d2.moments in
          let m3 = d3.moments in
          short_synced 0 old m3 d4.moments (short_written 0 old m2 m3 (short_synced 0 old m1 m2 (short_first 0 old m1 (c.cut.ensures.time tells)) (c.sync.ensures.time tells)) (c.write_at.ensures.time tells)) (c.sync-2.ensures.time tells);
      ends = search rules;
    }
