use Rattle.std.proofs.Common.{◌≡◌, ℕ, ◌<◌, List, length, map, sym, ◌∙◌, ap, subst, rules}
use Rattle.std.specs.Prelude.{slice_index_or, if◌then◌else◌, Some, None}
use Rattle.disk_model.specs.Reads.{seen, IsRead}
use Rattle.memory_disk.specs.Kept.{calls_of, touched_in}
use Rattle.memory_disk.specs.MemoryLog.{DiskLog, moments_after, moments_of}
use Rattle.memory_disk.proofs.StoredLemmas.{stored_at, seen_touched}
use Rattle.memory_disk.proofs.KeptLemmas.{look_time, look_seen}
use Rattle.memory_disk.proofs.memory.MemoryDiskDisk.read.Goals as goal

pub returns-in_err-look-clause-reads : goal.returns-in_err-look-clause-reads
returns-in_err-look-clause-reads c = record {
  bound = search rules;
  bytes = λ tells. search rules;
  time = λ tells. look_time c.args.self.now c.look.new.self c.args.file c.look.result c.look.ensures.kept;
  call = search rules;
}

pub returns-clause-reads : goal.returns-clause-reads
returns-clause-reads c =
    let inside : c.args.file < length c.self.inside.files = search rules in
    let stored : (slice_index_or c.self.inside.files c.args.file c.index-self-file.result).items ≡ seen (moments_of c.args.self.now) c.args.file =
    stored_at c.self.inside.files c.args.file c.index-self-file.result _ inside (c.self.invariant.bytes c.args.file c.requires)
    ∙ sym (seen_touched (if c.self.inside.is_full then Some (touched_in c.self.inside.touched) else None) (moments_after (map (λ v. v.items) c.self.inside.first) (calls_of c.self.inside.calls.items)) c.args.file)
    ∙ ap (λ (log : DiskLog). seen (moments_of log) c.args.file) c.self.view_is ∙ look_seen c.args.self.now c.look.new.self c.args.file c.args.file c.look.result c.look.ensures.kept in
    record {
      bound = c.read_at.ensures.bound;
      bytes = λ tells. subst (λ (l : List ℕ). IsRead l c.args.at (length c.args.buf.now) c.read_at.result c.read_at.new.buf) (c.deref.ensures.value ∙ stored) c.read_at.ensures.bytes;
      time = λ tells. look_time c.args.self.now c.look.new.self c.args.file c.look.result c.look.ensures.kept;
      call = search rules;
    }
