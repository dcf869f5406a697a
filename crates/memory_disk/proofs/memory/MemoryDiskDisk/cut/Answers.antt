use Rattle.memory_disk.specs.Calls.{call_on, cut_to, cut_failed}
use Rattle.memory_disk.proofs.KeptLemmas.{cut_time, cut_seen, touched_failed}
use Rattle.memory_disk.proofs.memory.MemoryDiskDisk.cut.Goals as goal

pub returns-clause-cuts : goal.returns-clause-cuts
returns-clause-cuts c = record {
  cut = λ tells. cut_seen c.args.self.now c.keep_cut.new.self c.args.file c.args.len (call_on c.args.file (cut_failed c.args.len)) c.keep_cut.result c.keep_cut.ensures.kept;
  time = λ tells. cut_time c.args.self.now c.keep_cut.new.self c.args.file c.keep_cut.result c.args.len c.keep_cut.ensures.kept;
  call = record { ends = c.keep_cut.ensures.ends; changes_are = c.keep_cut.ensures.kept.changes };
}

pub returns-clause-touched : goal.returns-clause-touched
returns-clause-touched c =
    touched_failed c.args.self.now c.keep_cut.new.self (call_on c.args.file (cut_to c.args.len)) (call_on c.args.file (cut_failed c.args.len)) c.keep_cut.result c.keep_cut.ensures.kept
