use Rattle.std.proofs.Common.{rules, ◌≡◌, Err, sym, subst}
use Rattle.std.specs.Prelude.{IsTrue}
use Rattle.image_slots.specs.Calls.{Begins}
use Rattle.image_slots.specs.Slotted.{Slotted}
use Rattle.name_store.specs.Drafting.{Drafting}
use Rattle.name_store.specs.Slicing.{LeavesBegun}
use Rattle.name_store.specs.Stored.{Stored, IsOn}
use Rattle.name_store.specs.declared.drafting.DraftOutcome.TheVariants.{Begun, Refused, Faulted}
use Rattle.name_store.specs.declared.saving.SaveRefusal.TheVariants.{CheckpointLimit, ImageLimit}
use Rattle.name_store.proofs.SliceLemmas.{begun_leaves, unbegun_leaves, refused_leaves}
use Rattle.name_store.proofs.store.Store.begin_draft.Goals as goal

pub returns-in-Ok-clause-leaves : goal.returns-in-Ok-clause-leaves
returns-in-Ok-clause-leaves g c =
    let before = g.D.Disk.seen c.args.disk.now in
    let after = g.D.Disk.seen c.begin.new.disk in
    let old : Stored = record { index = c.store.inside.chain; host = c.store.inside.host; slots = c.store.inside.slots; area = c.store.inside.area } in
    let on = λ (told : IsTrue g.D.Disk.tells). subst (λ (x : Stored). IsOn x before.moments.now) (sym c.store.view_is) (c.requires.on_disk told) in
    let drafting : Drafting = record { draft = c.in-Ok.draft; from = c.store.inside.area } in
    subst (λ (s : Slotted). LeavesBegun g.D.Disk.tells c.args.self before after (Begun (record { index = c.store.inside.chain; host = c.store.inside.host; slots = s; area = c.store.inside.area }) drafting)) (sym c.begin.ensures.same)
    (subst (λ (x : Stored). LeavesBegun g.D.Disk.tells x before after (Begun old drafting)) c.store.view_is (begun_leaves g.D.Disk.tells old before after on c.args.image c.in-Ok.draft c.in-Ok.ensures.begins))

pub returns-in-Err-CheckpointLimit-clause-leaves : goal.returns-in-Err-CheckpointLimit-clause-leaves
returns-in-Err-CheckpointLimit-clause-leaves g c =
    let before = g.D.Disk.seen c.args.disk.now in
    let old : Stored = record { index = c.store.inside.chain; host = c.store.inside.host; slots = c.store.inside.slots; area = c.store.inside.area } in
    let on = λ (told : IsTrue g.D.Disk.tells). subst (λ (x : Stored). IsOn x before.moments.now) (sym c.store.view_is) (c.requires.on_disk told) in
    let same : c.begin.new.disk ≡ c.args.disk.now = search rules in
    let back : Slotted → Stored = λ s. record { index = c.store.inside.chain; host = c.store.inside.host; slots = s; area = c.store.inside.area } in
    subst (λ d. LeavesBegun g.D.Disk.tells c.args.self before (g.D.Disk.seen d) (Refused (back c.begin.new.self) CheckpointLimit)) (sym same)
    (subst (λ (s : Slotted). LeavesBegun g.D.Disk.tells c.args.self before before (Refused (back s) CheckpointLimit)) (sym c.begin.ensures.same)
    (subst (λ (x : Stored). LeavesBegun g.D.Disk.tells x before before (Refused old CheckpointLimit)) c.store.view_is (refused_leaves g.D.Disk.tells old before on CheckpointLimit)))

pub returns-in-Err-ImageLimit-clause-leaves : goal.returns-in-Err-ImageLimit-clause-leaves
returns-in-Err-ImageLimit-clause-leaves g c =
    let before = g.D.Disk.seen c.args.disk.now in
    let old : Stored = record { index = c.store.inside.chain; host = c.store.inside.host; slots = c.store.inside.slots; area = c.store.inside.area } in
    let on = λ (told : IsTrue g.D.Disk.tells). subst (λ (x : Stored). IsOn x before.moments.now) (sym c.store.view_is) (c.requires.on_disk told) in
    let same : c.begin.new.disk ≡ c.args.disk.now = search rules in
    let back : Slotted → Stored = λ s. record { index = c.store.inside.chain; host = c.store.inside.host; slots = s; area = c.store.inside.area } in
    subst (λ d. LeavesBegun g.D.Disk.tells c.args.self before (g.D.Disk.seen d) (Refused (back c.begin.new.self) ImageLimit)) (sym same)
    (subst (λ (s : Slotted). LeavesBegun g.D.Disk.tells c.args.self before before (Refused (back s) ImageLimit)) (sym c.begin.ensures.same)
    (subst (λ (x : Stored). LeavesBegun g.D.Disk.tells x before before (Refused old ImageLimit)) c.store.view_is (refused_leaves g.D.Disk.tells old before on ImageLimit)))

pub returns-in-Err-DiskFault-clause-leaves : goal.returns-in-Err-DiskFault-clause-leaves
returns-in-Err-DiskFault-clause-leaves g c =
    let before = g.D.Disk.seen c.args.disk.now in
    let after = g.D.Disk.seen c.begin.new.disk in
    let old : Stored = record { index = c.store.inside.chain; host = c.store.inside.host; slots = c.store.inside.slots; area = c.store.inside.area } in
    let on = λ (told : IsTrue g.D.Disk.tells). subst (λ (x : Stored). IsOn x before.moments.now) (sym c.store.view_is) (c.requires.on_disk told) in
    let did = subst (λ e. Begins g.D.Disk.tells old.slots c.args.image before after (Err e)) c.in-Err-DiskFault.field-0-is c.in-Err-DiskFault.ensures.begins in
    subst (λ (x : Stored). LeavesBegun g.D.Disk.tells x before after Faulted) c.store.view_is (unbegun_leaves g.D.Disk.tells old before after on c.args.image did)
