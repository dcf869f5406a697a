use Rattle.std.proofs.Common.{◌⊎◌, map, subst}
use Rattle.memory_disk.specs.Calls.{call_on}
use Rattle.memory_disk.specs.Kept.{failed_effect}
use Rattle.memory_disk.specs.MemoryLog.{DiskLog, KeptInList, KeptTogether}
use Rattle.memory_disk.proofs.StoredLemmas.{Keeping, log_of, bytes_of, stored_failed, kept_failed}
use Rattle.memory_disk.proofs.memory.MemoryDisk.fail.Goals as goal

pub invariant_of-self : goal.invariant_of-self
invariant_of-self c =
    let was : Keeping = record { calls = c.self.inside.calls.items; is_full = c.self.inside.is_full; touched = c.self.inside.touched } in
    let is_now : Keeping = record { calls = c.keep_failed.new.calls.items; is_full = c.keep_failed.new.is_full; touched = c.keep_failed.new.touched } in
    stored_failed (bytes_of c.self.inside.files) (map (λ v. v.items) c.self.inside.first) was is_now c.args.file c.args.failed
    (record { named = c.requires.file; stored = c.self.invariant; keeps = c.keep_failed.ensures })

pub returns-clause-kept : goal.returns-clause-kept
returns-clause-kept c =
    let failed = call_on c.args.file (failed_effect c.args.failed) in
    let first = map (λ v. v.items) c.self.inside.first in
    let was : Keeping = record { calls = c.self.inside.calls.items; is_full = c.self.inside.is_full; touched = c.self.inside.touched } in
    let is_now : Keeping = record { calls = c.keep_failed.new.calls.items; is_full = c.keep_failed.new.is_full; touched = c.keep_failed.new.touched } in
    let log : DiskLog = log_of first is_now c.self.inside.counts c.self.inside.changes in
    subst (λ (old : DiskLog). KeptInList failed old log ⊎ KeptTogether failed old log) c.self.view_is
    (kept_failed (bytes_of c.self.inside.files) first was is_now c.args.file c.args.failed (record { named = c.requires.file; stored = c.self.invariant; keeps = c.keep_failed.ensures })
    c.self.inside.counts c.self.inside.changes)
