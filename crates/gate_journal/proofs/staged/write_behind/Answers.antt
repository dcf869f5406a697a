use Rattle.std.proofs.Common.{arith}
use Rattle.gate_journal.proofs.WriteLemmas.{keeps_written}
use Rattle.gate_journal.proofs.staged.write_behind.Goals as goal

pub returns-clause-any_moment : goal.returns-clause-any_moment
returns-clause-any_moment g c = λ tells.
    keeps_written c.args.file c.args.at (g.D.Disk.seen c.args.disk.now).moments (g.D.Disk.seen c.write_at.new.self).moments c.args.at _ (omega arith) (c.write_at.ensures.time tells)
