use Rattle.std.proofs.Common.{ℕ, ◌<◌, [], rules}
use Rattle.std.specs.Prelude.{slice_index_or, IfOk}
use Rattle.memory_disk.specs.Chosen.{IsChosen}
use Rattle.memory_disk.specs.MemoryLog.{files_at, synced_at}
use Rattle.memory_disk.proofs.ReplayLemmas.{image_disk}
use Rattle.memory_disk.proofs.memory.MemoryDisk.image.Goals as goal

pub returns-clause-image : goal.returns-clause-image
returns-clause-image c =
    let log = c.args.self.now in
    let chosen : IfOk c.holding.result (λ disk. (file : ℕ) → file < 3
    → IsChosen c.args.choice (files_at log c.args.calls file) (synced_at log c.args.calls file) (slice_index_or disk.first file [])) = search rules in
    image_disk c.args.choice log c.args.calls c.holding.result chosen
