use Rattle.gate_journal.proofs.WriteLemmas.{gate_written, gate_synced}
use Rattle.gate_journal.proofs.gate.write_gate.Goals as goal

pub returns-in_err-write_at-clause-any_moment : goal.returns-in_err-write_at-clause-any_moment
returns-in_err-write_at-clause-any_moment g c = λ tells.
    gate_written c.args.file c.args.gate (g.D.Disk.seen c.args.disk.now).moments (g.D.Disk.seen c.write_at.new.self).moments
    (record { inside = c.requires.inside tells; settled = c.requires.settled tells }) (c.write_at.ensures.time tells)

pub returns-clause-any_moment : goal.returns-clause-any_moment
returns-clause-any_moment g c = λ tells.
    gate_synced c.args.file c.args.gate (g.D.Disk.seen c.args.disk.now).moments (g.D.Disk.seen c.write_at.new.self).moments
    (record { inside = c.requires.inside tells; settled = c.requires.settled tells }) (c.write_at.ensures.time tells) (g.D.Disk.seen c.sync.new.self).moments (c.sync.ensures.time tells)
