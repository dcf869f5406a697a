use Rattle.std.proofs.Common.{take}
use Rattle.disk_model.specs.FileState.{synced_file}
use Rattle.memory_disk.specs.Calls.{file_from, last_sync}
use Rattle.memory_disk.specs.Kept.{calls_of}
use Rattle.memory_disk.specs.Replays.{IsReplayed}
use Rattle.memory_disk.proofs.replay.Replay.after.Given as goal

abbrev pub invariant-loop-call : goal.invariant-loop-call
invariant-loop-call l = IsReplayed l.replay
    (last_sync l.file l.first (synced_file l.first) (calls_of (take l.call-index l.calls)))
    (file_from l.file (synced_file l.first) (calls_of (take l.call-index l.calls)))
