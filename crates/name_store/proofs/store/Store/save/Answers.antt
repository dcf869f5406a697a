use Rattle.std.proofs.Common.{rules, ◌≡◌, ◌+◌, Ok, Err, refl, sym, ap, subst}
use Rattle.std.specs.Prelude.{IsTrue}
use Rattle.chain_commands.specs.Saving.{IsSaved}
use Rattle.image_files.specs.SavingIndex.{SaveAnswer}
use Rattle.image_slots.specs.declared.limits.SlotLimits.{SlotLimits}
use Rattle.name_store.specs.declared.saving.SaveRefusal.TheVariants.{CheckpointLimit, ImageLimit}
use Rattle.name_store.specs.declared.store.Outcome.TheVariants.{Done, Refused, NoMemory, Faulted}
use Rattle.name_store.specs.Outcomes.{LeavesDisk, KeepsOn}
use Rattle.name_store.specs.Saves.{Saves, SparesSelected}
use Rattle.name_store.specs.Stored.{Stored, IsOn}
use Rattle.name_store.proofs.OutcomeLemmas.{leaves_refused, leaves_lacking, keeps_refused, keeps_lacking}
use Rattle.name_store.proofs.SaveLemmas.{HasLimits, none_refuses, save_answers, save_leaves, save_keeps, fault_leaves, fault_keeps}
use Rattle.name_store.proofs.StoreLemmas.{IsAlike}
use Rattle.name_store.proofs.store.Store.save.Goals as goal

pub returns-in-Ok-clause-saves : goal.returns-in-Ok-clause-saves
returns-in-Ok-clause-saves g c =
    let before = g.D.Disk.seen c.args.disk.now in
    let after = g.D.Disk.seen c.save_index.new.disk in
    let old : Stored = record { index = c.self.inside.chain; host = c.self.inside.host; slots = c.self.inside.slots; area = c.self.inside.area } in
    let on = λ (told : IsTrue g.D.Disk.tells). subst (λ (x : Stored). IsOn x before.moments.now) (sym c.self.view_is) (c.requires.on_disk told) in
    let limits : HasLimits old = record { selections = ap (λ (l : SlotLimits). l.selections) c.self.invariant.2; image = ap (λ (l : SlotLimits). l.image) c.self.invariant.2 } in
    let new : Stored = record { index = c.self.inside.chain; host = c.self.inside.host; slots = c.save_index.new.slots; area = 9 + c.in-Ok.saved.image } in
    let number = c.in-Ok.saved.number in
    let w = c.in-Ok.ensures.saves.answer in
    subst (λ (x : Stored). Saves c.args.self (Done x c.from.result)) (sym c.of-store.ensures) (subst (λ (x : Stored). Saves x (Done new c.from.result)) c.self.view_is
    (λ run s. (
      none_refuses g.D.Disk.tells old limits before after on c.in-Ok.saved.image c.save_index.new.slots (Ok number) w run s,
      save_answers g.D.Disk.tells old limits before after on c.in-Ok.saved.image c.save_index.new.slots number w c.from.result c.from.ensures run s,
    )))

pub returns-in-Ok-clause-leaves : goal.returns-in-Ok-clause-leaves
returns-in-Ok-clause-leaves g c =
    let before = g.D.Disk.seen c.args.disk.now in
    let after = g.D.Disk.seen c.save_index.new.disk in
    let old : Stored = record { index = c.self.inside.chain; host = c.self.inside.host; slots = c.self.inside.slots; area = c.self.inside.area } in
    let on = λ (told : IsTrue g.D.Disk.tells). subst (λ (x : Stored). IsOn x before.moments.now) (sym c.self.view_is) (c.requires.on_disk told) in
    let limits : HasLimits old = record { selections = ap (λ (l : SlotLimits). l.selections) c.self.invariant.2; image = ap (λ (l : SlotLimits). l.image) c.self.invariant.2 } in
    let new : Stored = record { index = c.self.inside.chain; host = c.self.inside.host; slots = c.save_index.new.slots; area = 9 + c.in-Ok.saved.image } in
    let number = c.in-Ok.saved.number in
    subst (λ (x : Stored). LeavesDisk g.D.Disk.tells (SparesSelected c.args.self) before after (Done x c.from.result)) (sym c.of-store.ensures)
    (subst (λ (x : Stored). LeavesDisk g.D.Disk.tells (SparesSelected x) before after (Done new c.from.result)) c.self.view_is
    (save_leaves g.D.Disk.tells old limits before after on c.in-Ok.saved.image c.save_index.new.slots number c.in-Ok.ensures.saves.answer c.from.result))

pub returns-in-Ok-clause-kept : goal.returns-in-Ok-clause-kept
returns-in-Ok-clause-kept g c =
    let before = g.D.Disk.seen c.args.disk.now in
    let after = g.D.Disk.seen c.save_index.new.disk in
    let old : Stored = record { index = c.self.inside.chain; host = c.self.inside.host; slots = c.self.inside.slots; area = c.self.inside.area } in
    let on = λ (told : IsTrue g.D.Disk.tells). subst (λ (x : Stored). IsOn x before.moments.now) (sym c.self.view_is) (c.requires.on_disk told) in
    let limits : HasLimits old = record { selections = ap (λ (l : SlotLimits). l.selections) c.self.invariant.2; image = ap (λ (l : SlotLimits). l.image) c.self.invariant.2 } in
    let new : Stored = record { index = c.self.inside.chain; host = c.self.inside.host; slots = c.save_index.new.slots; area = 9 + c.in-Ok.saved.image } in
    let number = c.in-Ok.saved.number in
    subst (λ (x : Stored). KeepsOn g.D.Disk.tells c.args.self IsSaved before after (Done x c.from.result)) (sym c.of-store.ensures)
    (subst (λ (x : Stored). KeepsOn g.D.Disk.tells x IsSaved before after (Done new c.from.result)) c.self.view_is
    (save_keeps g.D.Disk.tells old limits before after on c.in-Ok.saved.image c.save_index.new.slots number c.in-Ok.ensures.saves.answer c.from.result))

pub returns-in-Err-CheckpointLimit-clause-leaves : goal.returns-in-Err-CheckpointLimit-clause-leaves
returns-in-Err-CheckpointLimit-clause-leaves g c =
    let before = g.D.Disk.seen c.args.disk.now in
    let old : Stored = record { index = c.self.inside.chain; host = c.self.inside.host; slots = c.self.inside.slots; area = c.self.inside.area } in
    let on = λ (told : IsTrue g.D.Disk.tells). subst (λ (x : Stored). IsOn x before.moments.now) (sym c.self.view_is) (c.requires.on_disk told) in
    let same : c.save_index.new.disk ≡ c.args.disk.now = search rules in
    let back : IsAlike old c.of-store-in-Err-CheckpointLimit.result = subst (IsAlike old) (sym c.of-store-in-Err-CheckpointLimit.ensures) (record { base = refl; host = refl; slots = c.in-Err-CheckpointLimit.ensures.saves.err; area = refl }) in
    subst (λ d. LeavesDisk g.D.Disk.tells (SparesSelected c.args.self) before (g.D.Disk.seen d) (Refused c.of-store-in-Err-CheckpointLimit.result CheckpointLimit)) (sym same)
    (subst (λ (x : Stored). LeavesDisk g.D.Disk.tells (SparesSelected x) before before (Refused c.of-store-in-Err-CheckpointLimit.result CheckpointLimit)) c.self.view_is (leaves_refused old c.of-store-in-Err-CheckpointLimit.result back g.D.Disk.tells before on (SparesSelected old) refl CheckpointLimit))

pub returns-in-Err-CheckpointLimit-clause-kept : goal.returns-in-Err-CheckpointLimit-clause-kept
returns-in-Err-CheckpointLimit-clause-kept g c =
    let before = g.D.Disk.seen c.args.disk.now in
    let old : Stored = record { index = c.self.inside.chain; host = c.self.inside.host; slots = c.self.inside.slots; area = c.self.inside.area } in
    let on = λ (told : IsTrue g.D.Disk.tells). subst (λ (x : Stored). IsOn x before.moments.now) (sym c.self.view_is) (c.requires.on_disk told) in
    let same : c.save_index.new.disk ≡ c.args.disk.now = search rules in
    let back : IsAlike old c.of-store-in-Err-CheckpointLimit.result = subst (IsAlike old) (sym c.of-store-in-Err-CheckpointLimit.ensures) (record { base = refl; host = refl; slots = c.in-Err-CheckpointLimit.ensures.saves.err; area = refl }) in
    subst (λ d. KeepsOn g.D.Disk.tells c.args.self IsSaved before (g.D.Disk.seen d) (Refused c.of-store-in-Err-CheckpointLimit.result CheckpointLimit)) (sym same)
    (subst (λ (x : Stored). KeepsOn g.D.Disk.tells x IsSaved before before (Refused c.of-store-in-Err-CheckpointLimit.result CheckpointLimit)) c.self.view_is (keeps_refused old c.of-store-in-Err-CheckpointLimit.result back g.D.Disk.tells before on IsSaved CheckpointLimit))

pub returns-in-Err-ImageLimit-clause-leaves : goal.returns-in-Err-ImageLimit-clause-leaves
returns-in-Err-ImageLimit-clause-leaves g c =
    let before = g.D.Disk.seen c.args.disk.now in
    let old : Stored = record { index = c.self.inside.chain; host = c.self.inside.host; slots = c.self.inside.slots; area = c.self.inside.area } in
    let on = λ (told : IsTrue g.D.Disk.tells). subst (λ (x : Stored). IsOn x before.moments.now) (sym c.self.view_is) (c.requires.on_disk told) in
    let same : c.save_index.new.disk ≡ c.args.disk.now = search rules in
    let back : IsAlike old c.of-store-in-Err-ImageLimit.result = subst (IsAlike old) (sym c.of-store-in-Err-ImageLimit.ensures) (record { base = refl; host = refl; slots = c.in-Err-ImageLimit.ensures.saves.err; area = refl }) in
    subst (λ d. LeavesDisk g.D.Disk.tells (SparesSelected c.args.self) before (g.D.Disk.seen d) (Refused c.of-store-in-Err-ImageLimit.result ImageLimit)) (sym same)
    (subst (λ (x : Stored). LeavesDisk g.D.Disk.tells (SparesSelected x) before before (Refused c.of-store-in-Err-ImageLimit.result ImageLimit)) c.self.view_is (leaves_refused old c.of-store-in-Err-ImageLimit.result back g.D.Disk.tells before on (SparesSelected old) refl ImageLimit))

pub returns-in-Err-ImageLimit-clause-kept : goal.returns-in-Err-ImageLimit-clause-kept
returns-in-Err-ImageLimit-clause-kept g c =
    let before = g.D.Disk.seen c.args.disk.now in
    let old : Stored = record { index = c.self.inside.chain; host = c.self.inside.host; slots = c.self.inside.slots; area = c.self.inside.area } in
    let on = λ (told : IsTrue g.D.Disk.tells). subst (λ (x : Stored). IsOn x before.moments.now) (sym c.self.view_is) (c.requires.on_disk told) in
    let same : c.save_index.new.disk ≡ c.args.disk.now = search rules in
    let back : IsAlike old c.of-store-in-Err-ImageLimit.result = subst (IsAlike old) (sym c.of-store-in-Err-ImageLimit.ensures) (record { base = refl; host = refl; slots = c.in-Err-ImageLimit.ensures.saves.err; area = refl }) in
    subst (λ d. KeepsOn g.D.Disk.tells c.args.self IsSaved before (g.D.Disk.seen d) (Refused c.of-store-in-Err-ImageLimit.result ImageLimit)) (sym same)
    (subst (λ (x : Stored). KeepsOn g.D.Disk.tells x IsSaved before before (Refused c.of-store-in-Err-ImageLimit.result ImageLimit)) c.self.view_is (keeps_refused old c.of-store-in-Err-ImageLimit.result back g.D.Disk.tells before on IsSaved ImageLimit))

pub returns-in-Err-NoMemory-clause-leaves : goal.returns-in-Err-NoMemory-clause-leaves
returns-in-Err-NoMemory-clause-leaves g c =
    let before = g.D.Disk.seen c.args.disk.now in
    let old : Stored = record { index = c.self.inside.chain; host = c.self.inside.host; slots = c.self.inside.slots; area = c.self.inside.area } in
    let on = λ (told : IsTrue g.D.Disk.tells). subst (λ (x : Stored). IsOn x before.moments.now) (sym c.self.view_is) (c.requires.on_disk told) in
    let same : c.save_index.new.disk ≡ c.args.disk.now = search rules in
    let back : IsAlike old c.of.result = subst (IsAlike old) (sym c.of.ensures) (record { base = refl; host = refl; slots = c.in-Err-NoMemory.ensures.saves.err; area = refl }) in
    subst (λ d. LeavesDisk g.D.Disk.tells (SparesSelected c.args.self) before (g.D.Disk.seen d) (NoMemory c.of.result)) (sym same)
    (subst (λ (x : Stored). LeavesDisk g.D.Disk.tells (SparesSelected x) before before (NoMemory c.of.result)) c.self.view_is (leaves_lacking old c.of.result back g.D.Disk.tells before on (SparesSelected old) refl))

pub returns-in-Err-NoMemory-clause-kept : goal.returns-in-Err-NoMemory-clause-kept
returns-in-Err-NoMemory-clause-kept g c =
    let before = g.D.Disk.seen c.args.disk.now in
    let old : Stored = record { index = c.self.inside.chain; host = c.self.inside.host; slots = c.self.inside.slots; area = c.self.inside.area } in
    let on = λ (told : IsTrue g.D.Disk.tells). subst (λ (x : Stored). IsOn x before.moments.now) (sym c.self.view_is) (c.requires.on_disk told) in
    let same : c.save_index.new.disk ≡ c.args.disk.now = search rules in
    let back : IsAlike old c.of.result = subst (IsAlike old) (sym c.of.ensures) (record { base = refl; host = refl; slots = c.in-Err-NoMemory.ensures.saves.err; area = refl }) in
    subst (λ d. KeepsOn g.D.Disk.tells c.args.self IsSaved before (g.D.Disk.seen d) (NoMemory c.of.result)) (sym same)
    (subst (λ (x : Stored). KeepsOn g.D.Disk.tells x IsSaved before before (NoMemory c.of.result)) c.self.view_is (keeps_lacking old c.of.result back g.D.Disk.tells before on IsSaved))

pub returns-in-Err-DiskFault-clause-saves : goal.returns-in-Err-DiskFault-clause-saves
returns-in-Err-DiskFault-clause-saves g c =
    let before = g.D.Disk.seen c.args.disk.now in
    let after = g.D.Disk.seen c.save_index.new.disk in
    let old : Stored = record { index = c.self.inside.chain; host = c.self.inside.host; slots = c.self.inside.slots; area = c.self.inside.area } in
    let on = λ (told : IsTrue g.D.Disk.tells). subst (λ (x : Stored). IsOn x before.moments.now) (sym c.self.view_is) (c.requires.on_disk told) in
    let limits : HasLimits old = record { selections = ap (λ (l : SlotLimits). l.selections) c.self.invariant.2; image = ap (λ (l : SlotLimits). l.image) c.self.invariant.2 } in
    let w = subst (λ e. SaveAnswer g.D.Disk.tells c.self.inside.chain c.self.inside.slots c.save_index.new.slots before after (Err e)) c.in-Err-DiskFault.field-0-is c.in-Err-DiskFault.ensures.saves.answer in
    subst (λ (x : Stored). Saves x Faulted) c.self.view_is (λ run s. none_refuses g.D.Disk.tells old limits before after on w.0 c.save_index.new.slots (Err (record {})) w.1 run s)

pub returns-in-Err-DiskFault-clause-leaves : goal.returns-in-Err-DiskFault-clause-leaves
returns-in-Err-DiskFault-clause-leaves g c =
    let before = g.D.Disk.seen c.args.disk.now in
    let after = g.D.Disk.seen c.save_index.new.disk in
    let old : Stored = record { index = c.self.inside.chain; host = c.self.inside.host; slots = c.self.inside.slots; area = c.self.inside.area } in
    let on = λ (told : IsTrue g.D.Disk.tells). subst (λ (x : Stored). IsOn x before.moments.now) (sym c.self.view_is) (c.requires.on_disk told) in
    let limits : HasLimits old = record { selections = ap (λ (l : SlotLimits). l.selections) c.self.invariant.2; image = ap (λ (l : SlotLimits). l.image) c.self.invariant.2 } in
    let w = subst (λ e. SaveAnswer g.D.Disk.tells c.self.inside.chain c.self.inside.slots c.save_index.new.slots before after (Err e)) c.in-Err-DiskFault.field-0-is c.in-Err-DiskFault.ensures.saves.answer in
    subst (λ (x : Stored). LeavesDisk g.D.Disk.tells (SparesSelected x) before after Faulted) c.self.view_is
    (fault_leaves g.D.Disk.tells old limits before after on w.0 c.save_index.new.slots (record {}) w.1)

pub returns-in-Err-DiskFault-clause-kept : goal.returns-in-Err-DiskFault-clause-kept
returns-in-Err-DiskFault-clause-kept g c =
    let before = g.D.Disk.seen c.args.disk.now in
    let after = g.D.Disk.seen c.save_index.new.disk in
    let old : Stored = record { index = c.self.inside.chain; host = c.self.inside.host; slots = c.self.inside.slots; area = c.self.inside.area } in
    let on = λ (told : IsTrue g.D.Disk.tells). subst (λ (x : Stored). IsOn x before.moments.now) (sym c.self.view_is) (c.requires.on_disk told) in
    let limits : HasLimits old = record { selections = ap (λ (l : SlotLimits). l.selections) c.self.invariant.2; image = ap (λ (l : SlotLimits). l.image) c.self.invariant.2 } in
    let w = subst (λ e. SaveAnswer g.D.Disk.tells c.self.inside.chain c.self.inside.slots c.save_index.new.slots before after (Err e)) c.in-Err-DiskFault.field-0-is c.in-Err-DiskFault.ensures.saves.answer in
    subst (λ (x : Stored). KeepsOn g.D.Disk.tells x IsSaved before after Faulted) c.self.view_is
    (fault_keeps g.D.Disk.tells old limits before after on w.0 c.save_index.new.slots (record {}) w.1)
