use Rattle.std.proofs.Common.{◌≡◌, ◌+◌, ◌<◌, [], ◌∷◌, ◌++◌, length, take, sym, subst, arith}
use Rattle.disk_model.specs.FileState.{synced_file}
use Rattle.memory_disk.specs.Calls.{file_from, last_sync}
use Rattle.memory_disk.specs.Kept.{call_of, calls_of}
use Rattle.memory_disk.specs.Replays.{IsReplayed}
use Rattle.memory_disk.specs.declared.replay.Replay.{Replay}
use Rattle.memory_disk.proofs.ReplayLemmas.{ReplayedTo, one_more, replay_hit, replay_miss}
use Rattle.memory_disk.proofs.replay.Replay.after.Goals as goal
use Rattle.memory_disk.proofs.replay.Replay.after.Goals.{then-call-file+in_ok-apply, else-call-file}

pub loop-call-preserved : goal.loop-call-preserved
loop-call-preserved c =
    let low : c.loop-call.call-index < length c.args.calls.now = omega arith in
    let first = c.args.first.now in
    let before = calls_of (take c.loop-call.call-index c.args.calls.now) in
    let last = last_sync c.args.file first (synced_file first) before in
    let file = file_from c.args.file (synced_file first) before in
    let later = calls_of (take (c.loop-call.call-index + 1) c.args.calls.now) in
    let later_last = last_sync c.args.file first (synced_file first) later in
    let later_file = file_from c.args.file (synced_file first) later in
    let more : later ≡ before ++ call_of c.call-item.result ∷ [] = one_more c.args.calls.now c.loop-call.call-index c.call-item.result low c.call-item.is in
    elim c.if-call-file.branch [
      | then-call-file+in_ok-apply w ↦
          subst (λ (r : Replay). IsReplayed r later_last later_file) (sym w.replay-is)
          (subst (ReplayedTo w.apply.new.self first c.args.file) (sym more)
          (replay_hit first c.args.file before (call_of c.call-item.result) w.apply.new.self w.if-call-file.true (w.in_ok-apply.ensures last file c.loop-call.invariant)))
      | else-call-file w ↦
          subst (λ (r : Replay). IsReplayed r later_last later_file) (sym w.replay-is)
          (subst (ReplayedTo c.loop-call.replay first c.args.file) (sym more)
          (replay_miss first c.args.file before (call_of c.call-item.result) c.loop-call.replay w.if-call-file.false c.loop-call.invariant))
    ]
