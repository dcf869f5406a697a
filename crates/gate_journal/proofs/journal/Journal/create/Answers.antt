use Rattle.std.proofs.Common.{rules, ◌≡◌, [], ◌∷◌, sym, ◌∙◌, subst}
use Rattle.std.specs.Prelude.{IsTrue}
use Rattle.disk_model.specs.FileState.{put}
use Rattle.disk_model.specs.DiskSeen.{file_in, bytes_in}
use Rattle.gate_journal.specs.Stand.{Stand, IsAtGate}
use Rattle.gate_journal.proofs.WriteLemmas.{written_then_synced}
use Rattle.gate_journal.proofs.AppendLemmas.{created}
use Rattle.gate_journal.proofs.journal.Journal.create.Goals as goal

pub returns-in_err-sync : goal.returns-in_err-sync
returns-in_err-sync g c = record {
  ok = search rules;
  at_gate = search rules;
  text = search rules;
  whole = search rules;
  any_moment = λ tells. written_then_synced c.args.file c.args.at 1 (g.D.Disk.seen c.args.disk.now).moments (g.D.Disk.seen c.write_at.new.self).moments (g.D.Disk.seen c.sync.new.self).moments
      (c.write_at.ensures.time tells) (c.sync.ensures.time tells);
  ends = search rules;
}

pub returns : goal.returns
returns g c =
    let old = g.D.Disk.seen c.args.disk.now in
    let new = g.D.Disk.seen c.sync.new.self in
    let file = c.args.file in
    let is : (tells : IsTrue g.D.Disk.tells) → bytes_in new file ≡ put (bytes_in old file) c.args.at (0 ∷ []) = λ tells. c.in_ok-sync.ensures.same tells ∙ c.in_ok-write_at.ensures.written tells in
    let made = λ (tells : IsTrue g.D.Disk.tells). created c.args.at (bytes_in old file) (bytes_in new file) (c.requires.inside tells) (is tells) in
    record {
      ok = search rules;
      at_gate = λ tells. subst (λ (journal : Stand). IsAtGate journal (file_in new file)) (sym c.at_gate.ensures)
          (record { settled = c.in_ok-sync.ensures.settled tells; inside = (made tells).0; closed = (made tells).1 });
      text = λ tells. (made tells).2;
      whole = is;
      any_moment = λ tells. written_then_synced file c.args.at 1 old.moments (g.D.Disk.seen c.write_at.new.self).moments new.moments (c.write_at.ensures.time tells) (c.sync.ensures.time tells);
      ends = search rules;
    }
