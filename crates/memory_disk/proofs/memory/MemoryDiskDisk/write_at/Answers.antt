use Rattle.std.proofs.Common.{length}
use Rattle.memory_disk.specs.Calls.{call_on, written, write_failed}
use Rattle.memory_disk.proofs.KeptLemmas.{write_time, write_seen, touched_failed}
use Rattle.memory_disk.proofs.memory.MemoryDiskDisk.write_at.Goals as goal

pub returns-clause-writes : goal.returns-clause-writes
returns-clause-writes c = record {
  written = λ tells. write_seen c.args.self.now c.keep_write.new.self c.args.file c.args.at c.args.bytes.now
      (call_on c.args.file (write_failed c.args.at (length c.args.bytes.now))) c.keep_write.result c.keep_write.ensures.kept;
  time = λ tells. write_time c.args.self.now c.keep_write.new.self c.args.file c.keep_write.result c.args.at c.args.bytes.now c.requires.inside c.keep_write.ensures.kept;
  call = record { ends = c.keep_write.ensures.ends; changes_are = c.keep_write.ensures.kept.changes };
}

pub returns-clause-touched : goal.returns-clause-touched
returns-clause-touched c =
    touched_failed c.args.self.now c.keep_write.new.self (call_on c.args.file (written c.args.at c.args.bytes.now)) (call_on c.args.file (write_failed c.args.at (length c.args.bytes.now))) c.keep_write.result c.keep_write.ensures.kept
