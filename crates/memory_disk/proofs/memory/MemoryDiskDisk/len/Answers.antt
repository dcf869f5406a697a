use Rattle.std.proofs.Common.{◌≡◌, ◌<◌, length, map, sym, ◌∙◌, ap, rules}
use Rattle.std.specs.Prelude.{slice_index_or, if◌then◌else◌, Some, None}
use Rattle.disk_model.specs.Reads.{seen}
use Rattle.memory_disk.specs.Kept.{calls_of, touched_in}
use Rattle.memory_disk.specs.MemoryLog.{DiskLog, moments_after, moments_of}
use Rattle.memory_disk.proofs.StoredLemmas.{stored_at, seen_touched}
use Rattle.memory_disk.proofs.KeptLemmas.{look_time, look_seen}
use Rattle.memory_disk.proofs.memory.MemoryDiskDisk.len.Goals as goal

pub returns-in_err-look-clause-measures : goal.returns-in_err-look-clause-measures
returns-in_err-look-clause-measures c = record {
  size = λ tells. search rules;
  time = λ tells. look_time c.args.self.now c.look.new.self c.args.file c.look.result c.look.ensures.kept;
  call = search rules;
}

pub returns-clause-measures : goal.returns-clause-measures
returns-clause-measures c =
    let inside : c.args.file < length c.self.inside.files = search rules in
    let stored : (slice_index_or c.self.inside.files c.args.file c.index-self-file.result).items ≡ seen (moments_of c.args.self.now) c.args.file =
    stored_at c.self.inside.files c.args.file c.index-self-file.result _ inside (c.self.invariant.bytes c.args.file c.requires)
    ∙ sym (seen_touched (if c.self.inside.is_full then Some (touched_in c.self.inside.touched) else None) (moments_after (map (λ v. v.items) c.self.inside.first) (calls_of c.self.inside.calls.items)) c.args.file)
    ∙ ap (λ (log : DiskLog). seen (moments_of log) c.args.file) c.self.view_is ∙ look_seen c.args.self.now c.look.new.self c.args.file c.args.file c.look.result c.look.ensures.kept in
    record {
      size = λ tells. search rules;
      time = λ tells. look_time c.args.self.now c.look.new.self c.args.file c.look.result c.look.ensures.kept;
      call = search rules;
    }
