use Rattle.disk_model.specs.DiskSeen.{bytes_in}
use Rattle.gate_journal.proofs.AppendLemmas.{holds_gate}
use Rattle.gate_journal.proofs.gate.open_gate.Goals as goal

pub returns : goal.returns
returns g c = record {
  opened = c.write_gate.ensures.opened;
  settled = c.write_gate.ensures.settled;
  any_moment = λ tells. holds_gate c.args.file c.args.gate (bytes_in (g.D.Disk.seen c.args.disk.now) c.args.file) (g.D.Disk.seen c.args.disk.now).moments
      (g.D.Disk.seen c.write_gate.new.disk).moments (c.requires.inside tells) (c.write_gate.ensures.any_moment tells);
  ends = c.write_gate.ensures.ends;
}
