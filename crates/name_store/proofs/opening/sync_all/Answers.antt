use Rattle.disk_model.proofs.ImageLemmas.{keeps_synced, keeps_then}
use Rattle.disk_model.proofs.MomentLemmas.{last_moment}
use Rattle.name_store.proofs.OpenLemmas.{all_synced}
use Rattle.name_store.proofs.opening.sync_all.Goals as goal

pub returns-in_err-sync-clause-time : goal.returns-in_err-sync-clause-time
returns-in_err-sync-clause-time g c = λ tells. keeps_synced 0 (c.sync.ensures.time tells)

pub returns-in_err-sync-2-clause-time : goal.returns-in_err-sync-2-clause-time
returns-in_err-sync-2-clause-time g c = λ tells. keeps_then (keeps_synced 0 (c.sync.ensures.time tells)) (keeps_synced 1 (c.sync-2.ensures.time tells))

pub returns-in_err-sync-3-clause-time : goal.returns-in_err-sync-3-clause-time
returns-in_err-sync-3-clause-time g c = λ tells. keeps_then (keeps_then (keeps_synced 0 (c.sync.ensures.time tells)) (keeps_synced 1 (c.sync-2.ensures.time tells))) (keeps_synced 2 (c.sync-3.ensures.time tells))

pub returns-clause-time : goal.returns-clause-time
returns-clause-time g c = λ tells. keeps_then (keeps_then (keeps_synced 0 (c.sync.ensures.time tells)) (keeps_synced 1 (c.sync-2.ensures.time tells))) (keeps_synced 2 (c.sync-3.ensures.time tells))

pub returns-clause-synced : goal.returns-clause-synced
returns-clause-synced g c = λ tells.
    all_synced (g.D.Disk.seen c.args.disk.now) (g.D.Disk.seen c.sync.new.self) (g.D.Disk.seen c.sync-2.new.self) (g.D.Disk.seen c.sync-3.new.self)
    (record { done = last_moment (c.sync.ensures.time tells); settled = c.in_ok-sync.ensures.settled tells; same = c.in_ok-sync.ensures.same tells })
    (record { done = last_moment (c.sync-2.ensures.time tells); settled = c.in_ok-sync-2.ensures.settled tells; same = c.in_ok-sync-2.ensures.same tells })
    (record { done = last_moment (c.sync-3.ensures.time tells); settled = c.in_ok-sync-3.ensures.settled tells; same = c.in_ok-sync-3.ensures.same tells })
