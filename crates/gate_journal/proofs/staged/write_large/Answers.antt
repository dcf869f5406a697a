use Rattle.std.proofs.Common.{◌≡◌, ℕ, ◌+◌, List, [], ◌∷◌, length, ◌∙◌, ap, subst, arith}
use Rattle.std.specs.Prelude.{OnOk}
use Rattle.disk_model.specs.FileState.{put}
use Rattle.disk_model.specs.DiskSeen.{bytes_in}
use Rattle.gate_journal.proofs.WriteLemmas.{put_three, keeps_written, keeps_more}
use Rattle.gate_journal.proofs.staged.write_large.Goals as goal

pub returns-in_err-write_at-clause-any_moment : goal.returns-in_err-write_at-clause-any_moment
returns-in_err-write_at-clause-any_moment g c = λ tells.
    keeps_written c.args.file c.args.at (g.D.Disk.seen c.args.disk.now).moments (g.D.Disk.seen c.write_at.new.self).moments c.args.at _ (omega arith) (c.write_at.ensures.time tells)

pub returns-in_err-write_at-2-clause-any_moment : goal.returns-in_err-write_at-2-clause-any_moment
returns-in_err-write_at-2-clause-any_moment g c = λ tells.
    let old = (g.D.Disk.seen c.args.disk.now).moments in
    let first = keeps_written c.args.file c.args.at old (g.D.Disk.seen c.write_at.new.self).moments c.args.at _ (omega arith) (c.write_at.ensures.time tells) in
    keeps_more c.args.file c.args.at old (g.D.Disk.seen c.write_at.new.self).moments (g.D.Disk.seen c.write_at-2.new.self).moments first (keeps_written c.args.file c.args.at (g.D.Disk.seen c.write_at.new.self).moments (g.D.Disk.seen c.write_at-2.new.self).moments _ _ (omega arith) (c.write_at-2.ensures.time tells))

pub returns-clause-any_moment : goal.returns-clause-any_moment
returns-clause-any_moment g c = λ tells.
    let old = (g.D.Disk.seen c.args.disk.now).moments in
    let first = keeps_written c.args.file c.args.at old (g.D.Disk.seen c.write_at.new.self).moments c.args.at _ (omega arith) (c.write_at.ensures.time tells) in
    let second = keeps_more c.args.file c.args.at old (g.D.Disk.seen c.write_at.new.self).moments (g.D.Disk.seen c.write_at-2.new.self).moments first (keeps_written c.args.file c.args.at (g.D.Disk.seen c.write_at.new.self).moments (g.D.Disk.seen c.write_at-2.new.self).moments _ _ (omega arith) (c.write_at-2.ensures.time tells)) in
    keeps_more c.args.file c.args.at old (g.D.Disk.seen c.write_at-2.new.self).moments (g.D.Disk.seen c.write_at-3.new.self).moments second (keeps_written c.args.file c.args.at (g.D.Disk.seen c.write_at-2.new.self).moments (g.D.Disk.seen c.write_at-3.new.self).moments _ _ (omega arith) (c.write_at-3.ensures.time tells))

pub returns-clause-written : goal.returns-clause-written
returns-clause-written g c = λ tells.
    let file = c.args.file in
    let s = bytes_in (g.D.Disk.seen c.args.disk.now) file in
    let start = c.args.start.now in
    let body = c.args.body.now in
    let at = c.args.at in
    let both : bytes_in (g.D.Disk.seen c.write_at-2.new.self) file ≡ put (put s at start) (at + length start) body =
    c.in_ok-write_at-2.ensures.written tells ∙ ap (λ (l : List ℕ). put l (at + length start) body) (c.in_ok-write_at.ensures.written tells) in
    subst (λ (l : List ℕ). OnOk c.write_at-3.result (bytes_in (g.D.Disk.seen c.write_at-3.new.self) file ≡ l))
    (ap (λ (l : List ℕ). put l (at + length start + length body) (0 ∷ [])) both ∙ put_three s start body (0 ∷ []) at (c.requires.inside tells)) (c.write_at-3.ensures.written tells)
