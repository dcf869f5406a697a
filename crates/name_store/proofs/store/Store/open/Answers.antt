use Rattle.disk_model.specs.DiskSeen.{bytes_in}
use Rattle.disk_model.proofs.ImageLemmas.{keeps_unchanged, keeps_then}
use Rattle.disk_model.proofs.MomentLemmas.{last_moment}
use Rattle.image_files.proofs.SaveLemmas.{on_ok}
use Rattle.name_store.proofs.OpenLemmas.{still_synced, opened_before}
use Rattle.name_store.proofs.store.Store.open.Goals as goal

pub returns-in-Ok-clause-answer : goal.returns-in-Ok-clause-answer
returns-in-Ok-clause-answer g c = λ told.
    opened_before (bytes_in (g.D.Disk.seen c.args.disk.now)) (bytes_in (g.D.Disk.seen c.sync_all.new.disk)) (g.D.Disk.seen c.read.new.disk).moments.now c.read.result (c.in-Ok.ensures.synced told).alike
    (c.read.ensures.answer told)

pub returns-in-Ok-clause-synced : goal.returns-in-Ok-clause-synced
returns-in-Ok-clause-synced g c = λ told.
    on_ok c.read.result (still_synced (g.D.Disk.seen c.args.disk.now) (g.D.Disk.seen c.sync_all.new.disk) (g.D.Disk.seen c.read.new.disk) (c.in-Ok.ensures.synced told) (last_moment (c.read.ensures.time told)))

pub returns-in-Ok-clause-time : goal.returns-in-Ok-clause-time
returns-in-Ok-clause-time g c = λ told. keeps_then (c.sync_all.ensures.time told) (keeps_unchanged (c.read.ensures.time told))
