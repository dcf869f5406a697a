use Rattle.std.proofs.Common.{rules, List, ℕ, [], ◌∷◌, ◌++◌, ◌∙◌, ap, arith}
use Rattle.disk_model.specs.FileState.{put}
use Rattle.disk_model.specs.DiskSeen.{file_in, bytes_in}
use Rattle.gate_journal.proofs.WriteLemmas.{keeps_written}
use Rattle.name_store.specs.Header.{header_fields}
use Rattle.name_store.specs.MakingSteps.{closed_header}
use Rattle.name_store.proofs.StepLemmas.{settled_ok, put_behind, keeps_synced}
use Rattle.name_store.proofs.making_steps.make_fields.Goals as goal

pub returns-in_err-write_at : goal.returns-in_err-write_at
returns-in_err-write_at g c = record {
  made = search rules;
  any_moment = λ tells. keeps_written 0 1 (g.D.Disk.seen c.args.disk.now).moments (g.D.Disk.seen c.write_at.new.self).moments 1 _ (omega arith) (c.write_at.ensures.time tells);
  ends = search rules;
}

pub returns : goal.returns
returns g c =
    let d0 = g.D.Disk.seen c.args.disk.now in
    let d1 = g.D.Disk.seen c.write_at.new.self in
    let d2 = g.D.Disk.seen c.sync.new.self in
    let fields = header_fields c.args.base.now c.args.host.now ++ 0 ∷ [] in
    record {
      made = λ tells. settled_ok c.sync.result (file_in d2 0) (bytes_in d1 0) (closed_header c.args.base.now c.args.host.now) (c.sync.ensures.settled tells) (c.sync.ensures.same tells)
          (c.in_ok-write_at.ensures.written tells ∙ ap (λ (l : List ℕ). put (bytes_in d0 0) 1 l) c.add_fields-end.ensures.bytes ∙ ap (λ (l : List ℕ). put l 1 fields) (c.requires.at_gate tells).are
          ∙ put_behind fields);
      any_moment = λ tells. keeps_synced 0 1 d0.moments d1.moments d2.moments (keeps_written 0 1 d0.moments d1.moments 1 _ (omega arith) (c.write_at.ensures.time tells)) (c.sync.ensures.time tells);
      ends = search rules;
    }
