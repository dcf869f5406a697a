use Rattle.memory_disk.specs.Calls.{call_on, looked}
use Rattle.memory_disk.proofs.KeptLemmas.{sync_time, sync_settles, sync_seen}
use Rattle.memory_disk.proofs.memory.MemoryDiskDisk.sync.Goals as goal

pub returns-clause-syncs : goal.returns-clause-syncs
returns-clause-syncs c = record {
  settled = λ tells. sync_settles c.args.self.now c.keep_sync.new.self c.args.file (call_on c.args.file looked) c.keep_sync.result c.keep_sync.ensures.kept;
  same = λ tells. sync_seen c.args.self.now c.keep_sync.new.self c.args.file (call_on c.args.file looked) c.keep_sync.result c.keep_sync.ensures.kept;
  time = λ tells. sync_time c.args.self.now c.keep_sync.new.self c.args.file c.keep_sync.result c.keep_sync.ensures.kept;
  call = record { ends = c.keep_sync.ensures.ends; changes_are = c.keep_sync.ensures.kept.changes };
}
