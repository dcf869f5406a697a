use Rattle.std.proofs.Common.{◌≡◌, ◌+◌, refl, sym, subst, arith, ℕ, Ok, Err}
use Rattle.nmc_base.specs.declared.chain_ends.Tip.{Tip}
use Rattle.disk_model.specs.Changes.{LeavesOthers}
use Rattle.chain_commands.specs.RunState.{record_length}
use Rattle.index_commands.specs.Keeping.{Keeps}
use Rattle.index_commands.specs.Records.{record_of}
use Rattle.index_commands.specs.Stages.{IsFullWith}
use Rattle.index_commands.specs.Views.{command_of}
use Rattle.index_commands.specs.declared.staged.CommandRefusal.{CommandRefusal}
use Rattle.index_commands.proofs.AreaLemmas.{kept_size, record_fits}
use Rattle.index_commands.proofs.ByIndexLemmas.{command_base, lacking_base, committed_base, takes_command, cheap_command}
use Rattle.name_store.specs.ByIndex.{ExecutesOn}
use Rattle.name_store.specs.Executing.{Executes, IsCheapIfDone}
use Rattle.name_store.specs.Growing.{AddsRecord, Grows}
use Rattle.name_store.specs.Outcomes.{Adds, KeepsOn, LeavesDisk}
use Rattle.name_store.specs.Stored.{Stored, IsOn, area_file}
use Rattle.name_store.specs.declared.store.Outcome.TheVariants.{Done, Refused, NoMemory, Faulted}
use Rattle.name_store.proofs.OutcomeLemmas.{IsStaged, executes_refused, executes_lacking, executes_faulted, executes_done, next_state, leaves_refused, leaves_lacking, keeps_refused, keeps_lacking, keeps_faulted, keeps_done, leaves_faulted, leaves_done, adds_record, with_index}
use Rattle.name_store.proofs.store.Store.execute_within.Goals as goal

pub returns-in-Refused-clause-executes : goal.returns-in-Refused-clause-executes
returns-in-Refused-clause-executes g c =
    let old : Stored = record { index = c.self.inside.chain; host = c.self.inside.host; slots = c.self.inside.slots; area = c.self.inside.area } in
    subst (λ (x : Stored). Executes c.args.longest x c.args.command (Refused (with_index old c.in-Refused.chain) c.in-Refused.refusal)) c.self.view_is
    (executes_refused c.args.longest old c.args.command c.in-Refused.chain c.in-Refused.refusal c.in-Refused.ensures.stages)

pub returns-in-Refused-clause-leaves : goal.returns-in-Refused-clause-leaves
returns-in-Refused-clause-leaves g c =
    let disk = g.D.Disk.seen c.args.disk.now in
    let old : Stored = record { index = c.self.inside.chain; host = c.self.inside.host; slots = c.self.inside.slots; area = c.self.inside.area } in
    let base = command_base _ c.self.inside.chain c.args.command c.in-Refused.refusal c.in-Refused.chain c.in-Refused.ensures.on_index in
    subst (λ (x : Stored). LeavesDisk g.D.Disk.tells (LeavesOthers (area_file x)) disk disk (Refused (with_index old c.in-Refused.chain) c.in-Refused.refusal)) c.self.view_is
    (leaves_refused old (with_index old c.in-Refused.chain) (record { base = base; host = refl; slots = refl; area = refl }) g.D.Disk.tells disk
    (λ told. subst (λ (x : Stored). IsOn x disk.moments.now) (sym c.self.view_is) (c.requires.on_disk told)) (LeavesOthers (area_file old)) (λ other differ. refl) c.in-Refused.refusal)

pub returns-in-Refused-clause-kept : goal.returns-in-Refused-clause-kept
returns-in-Refused-clause-kept g c =
    let disk = g.D.Disk.seen c.args.disk.now in
    let old : Stored = record { index = c.self.inside.chain; host = c.self.inside.host; slots = c.self.inside.slots; area = c.self.inside.area } in
    let base = command_base _ c.self.inside.chain c.args.command c.in-Refused.refusal c.in-Refused.chain c.in-Refused.ensures.on_index in
    subst (λ (x : Stored). KeepsOn g.D.Disk.tells x (Adds (command_of c.args.command)) disk disk (Refused (with_index old c.in-Refused.chain) c.in-Refused.refusal)) c.self.view_is
    (keeps_refused old (with_index old c.in-Refused.chain) (record { base = base; host = refl; slots = refl; area = refl }) g.D.Disk.tells disk
    (λ told. subst (λ (x : Stored). IsOn x disk.moments.now) (sym c.self.view_is) (c.requires.on_disk told)) (Adds (command_of c.args.command)) c.in-Refused.refusal)

pub returns-in-NoMemory-clause-executes : goal.returns-in-NoMemory-clause-executes
returns-in-NoMemory-clause-executes g c =
    let old : Stored = record { index = c.self.inside.chain; host = c.self.inside.host; slots = c.self.inside.slots; area = c.self.inside.area } in
    subst (λ (x : Stored). Executes c.args.longest x c.args.command (NoMemory (with_index old c.in-NoMemory.chain))) c.self.view_is
    (executes_lacking c.args.longest old c.args.command c.in-NoMemory.chain c.in-NoMemory.ensures.stages)

pub returns-in-NoMemory-clause-leaves : goal.returns-in-NoMemory-clause-leaves
returns-in-NoMemory-clause-leaves g c =
    let disk = g.D.Disk.seen c.args.disk.now in
    let old : Stored = record { index = c.self.inside.chain; host = c.self.inside.host; slots = c.self.inside.slots; area = c.self.inside.area } in
    let base = lacking_base _ c.self.inside.chain c.args.command c.in-NoMemory.chain c.in-NoMemory.ensures.on_index in
    subst (λ (x : Stored). LeavesDisk g.D.Disk.tells (LeavesOthers (area_file x)) disk disk (NoMemory (with_index old c.in-NoMemory.chain))) c.self.view_is
    (leaves_lacking old (with_index old c.in-NoMemory.chain) (record { base = base; host = refl; slots = refl; area = refl }) g.D.Disk.tells disk
    (λ told. subst (λ (x : Stored). IsOn x disk.moments.now) (sym c.self.view_is) (c.requires.on_disk told)) (LeavesOthers (area_file old)) (λ other differ. refl))

pub returns-in-NoMemory-clause-kept : goal.returns-in-NoMemory-clause-kept
returns-in-NoMemory-clause-kept g c =
    let disk = g.D.Disk.seen c.args.disk.now in
    let old : Stored = record { index = c.self.inside.chain; host = c.self.inside.host; slots = c.self.inside.slots; area = c.self.inside.area } in
    let base = lacking_base _ c.self.inside.chain c.args.command c.in-NoMemory.chain c.in-NoMemory.ensures.on_index in
    subst (λ (x : Stored). KeepsOn g.D.Disk.tells x (Adds (command_of c.args.command)) disk disk (NoMemory (with_index old c.in-NoMemory.chain))) c.self.view_is
    (keeps_lacking old (with_index old c.in-NoMemory.chain) (record { base = base; host = refl; slots = refl; area = refl }) g.D.Disk.tells disk
    (λ told. subst (λ (x : Stored). IsOn x disk.moments.now) (sym c.self.view_is) (c.requires.on_disk told)) (Adds (command_of c.args.command)))

pub returns-in-Err-clause-executes : goal.returns-in-Err-clause-executes
returns-in-Err-clause-executes g c =
    let old : Stored = record { index = c.self.inside.chain; host = c.self.inside.host; slots = c.self.inside.slots; area = c.self.inside.area } in
    subst (λ (x : Stored). Executes c.args.longest x c.args.command Faulted) c.self.view_is
    (executes_faulted c.args.longest old c.args.command c.in-Staged.staged (record { low = c.requires.longest; sized = c.in-Staged.ensures.sized; stages = c.in-Staged.ensures.stages }))

pub returns-in-Err-clause-leaves : goal.returns-in-Err-clause-leaves
returns-in-Err-clause-leaves g c =
    let before = g.D.Disk.seen c.args.disk.now in
    let after = g.D.Disk.seen c.keep.new.disk in
    let old : Stored = record { index = c.self.inside.chain; host = c.self.inside.host; slots = c.self.inside.slots; area = c.self.inside.area } in
    let record_is = record_of (command_of c.args.command) in
    let kept = subst (λ (f : ℕ). Keeps g.D.Disk.tells f c.self.inside.area record_is before after (Err c.in-Err.field-0)) c.selected-file.ensures c.in-Err.ensures in
    subst (λ (x : Stored). LeavesDisk g.D.Disk.tells (LeavesOthers (area_file x)) before after Faulted) c.self.view_is (leaves_faulted g.D.Disk.tells before after old record_is c.in-Err.field-0 kept)

pub returns-in-Err-clause-kept : goal.returns-in-Err-clause-kept
returns-in-Err-clause-kept g c =
    let before = g.D.Disk.seen c.args.disk.now in
    let after = g.D.Disk.seen c.keep.new.disk in
    let old : Stored = record { index = c.self.inside.chain; host = c.self.inside.host; slots = c.self.inside.slots; area = c.self.inside.area } in
    let is : IsStaged c.args.longest old c.args.command c.in-Staged.staged = record { low = c.requires.longest; sized = c.in-Staged.ensures.sized; stages = c.in-Staged.ensures.stages } in
    subst (λ (x : Stored). KeepsOn g.D.Disk.tells x (Adds (command_of c.args.command)) before after Faulted) c.self.view_is
    (keeps_faulted g.D.Disk.tells before after (command_of c.args.command) old (next_state c.args.longest old c.args.command c.in-Staged.staged is) c.keep.result
    (λ told. subst (λ (x : Stored). IsOn x before.moments.now) (sym c.self.view_is) (c.requires.on_disk told))
    (subst (λ (f : ℕ). Keeps g.D.Disk.tells f c.self.inside.area (record_of (command_of c.args.command)) before after c.keep.result) c.selected-file.ensures c.keep.ensures))

pub returns-in-Ok-clause-executes : goal.returns-in-Ok-clause-executes
returns-in-Ok-clause-executes g c =
    let command = command_of c.args.command in
    let old : Stored = record { index = c.self.inside.chain; host = c.self.inside.host; slots = c.self.inside.slots; area = c.self.inside.area } in
    let new : Stored = record { index = c.commit.result; host = c.self.inside.host; slots = c.self.inside.slots; area = c.in-Ok.area } in
    let is : IsStaged c.args.longest old c.args.command c.in-Staged.staged = record { low = c.requires.longest; sized = c.in-Staged.ensures.sized; stages = c.in-Staged.ensures.stages } in
    let longer : c.in-Ok.area ≡ c.self.inside.area + record_length command = omega (arith, c.in-Ok.ensures.longer, kept_size command c.in-Staged.ensures.sized) in
    subst (λ r. Executes c.args.longest c.args.self c.args.command r) (sym {b = Done new c.commit.result.tip} c.done.ensures)
    (subst (λ (x : Stored). Executes c.args.longest x c.args.command (Done new c.commit.result.tip)) c.self.view_is
    (executes_done c.args.longest old c.args.command c.in-Staged.staged is new (record { commits = c.commit.ensures.commits; host = refl; slots = refl; area = longer })))

pub returns-in-Ok-clause-leaves : goal.returns-in-Ok-clause-leaves
returns-in-Ok-clause-leaves g c =
    let before = g.D.Disk.seen c.args.disk.now in
    let after = g.D.Disk.seen c.keep.new.disk in
    let record_is = record_of (command_of c.args.command) in
    let old : Stored = record { index = c.self.inside.chain; host = c.self.inside.host; slots = c.self.inside.slots; area = c.self.inside.area } in
    let new : Stored = record { index = c.commit.result; host = c.self.inside.host; slots = c.self.inside.slots; area = c.in-Ok.area } in
    let base = committed_base _ c.self.inside.chain c.args.command c.in-Staged.staged c.commit.result c.in-Staged.ensures.on_index c.commit.ensures.commits in
    subst (λ r. LeavesDisk g.D.Disk.tells (LeavesOthers (area_file c.args.self)) before after r) (sym {b = Done new c.commit.result.tip} c.done.ensures)
    (subst (λ (x : Stored). LeavesDisk g.D.Disk.tells (LeavesOthers (area_file x)) before after (Done new c.commit.result.tip)) c.self.view_is
    (leaves_done g.D.Disk.tells before after old record_is new new.index.tip
    (λ told. subst (λ (x : Stored). IsOn x before.moments.now) (sym c.self.view_is) (c.requires.on_disk told)) (subst (λ (f : ℕ). Keeps g.D.Disk.tells f c.self.inside.area record_is before after (Ok c.in-Ok.area)) c.selected-file.ensures c.in-Ok.ensures)
    (record { base = base; host = refl; slots = refl; area = refl })))

pub returns-in-Ok-clause-kept : goal.returns-in-Ok-clause-kept
returns-in-Ok-clause-kept g c =
    let before = g.D.Disk.seen c.args.disk.now in
    let after = g.D.Disk.seen c.keep.new.disk in
    let command = command_of c.args.command in
    let old : Stored = record { index = c.self.inside.chain; host = c.self.inside.host; slots = c.self.inside.slots; area = c.self.inside.area } in
    let new : Stored = record { index = c.commit.result; host = c.self.inside.host; slots = c.self.inside.slots; area = c.in-Ok.area } in
    let is : IsStaged c.args.longest old c.args.command c.in-Staged.staged = record { low = c.requires.longest; sized = c.in-Staged.ensures.sized; stages = c.in-Staged.ensures.stages } in
    subst (λ r. KeepsOn g.D.Disk.tells c.args.self (Adds command) before after r) (sym {b = Done new c.commit.result.tip} c.done.ensures)
    (subst (λ (x : Stored). KeepsOn g.D.Disk.tells x (Adds command) before after (Done new c.commit.result.tip)) c.self.view_is
    (keeps_done g.D.Disk.tells before after command old (next_state c.args.longest old c.args.command c.in-Staged.staged is) new new.index.tip
    (λ told. subst (λ (x : Stored). IsOn x before.moments.now) (sym c.self.view_is) (c.requires.on_disk told)) (subst (λ (f : ℕ). Keeps g.D.Disk.tells f c.self.inside.area (record_of command) before after (Ok c.in-Ok.area)) c.selected-file.ensures c.in-Ok.ensures)))

pub returns-in-Ok-clause-on_index : goal.returns-in-Ok-clause-on_index
returns-in-Ok-clause-on_index g c =
    let new : Stored = record { index = c.commit.result; host = c.self.inside.host; slots = c.self.inside.slots; area = c.in-Ok.area } in
    subst (λ r. ExecutesOn (IsFullWith c.args.self.area c.args.longest (command_of c.args.command)) c.args.self.index c.args.command r) (sym {b = Done new c.commit.result.tip} c.done.ensures)
    (subst (λ (x : Stored). ExecutesOn (IsFullWith x.area c.args.longest (command_of c.args.command)) x.index c.args.command (Done new c.commit.result.tip)) c.self.view_is
    (record { takes = takes_command _ c.self.inside.chain c.args.command c.in-Staged.ensures.sized c.in-Staged.staged c.commit.result c.in-Staged.ensures.on_index c.commit.ensures.commits; tip_is = refl }))

pub returns-in-Ok-clause-grows : goal.returns-in-Ok-clause-grows
returns-in-Ok-clause-grows g c =
    let command = command_of c.args.command in
    let new : Stored = record { index = c.commit.result; host = c.self.inside.host; slots = c.self.inside.slots; area = c.in-Ok.area } in
    let longer : c.in-Ok.area ≡ c.self.inside.area + record_length command = omega (arith, c.in-Ok.ensures.longer, kept_size command c.in-Staged.ensures.sized) in
    subst (λ r. Grows {T = Tip} {R = CommandRefusal} command c.args.self r) (sym {b = Done new c.commit.result.tip} c.done.ensures)
    (subst (λ (x : Stored). Grows {T = Tip} {R = CommandRefusal} command x (Done new c.commit.result.tip)) c.self.view_is
    (record { slots = refl; area = longer; fits = record_fits command c.in-Staged.ensures.sized }))

pub returns-in-Ok-clause-adds : goal.returns-in-Ok-clause-adds
returns-in-Ok-clause-adds g c = λ told.
    let before = g.D.Disk.seen c.args.disk.now in
    let after = g.D.Disk.seen c.keep.new.disk in
    let command = command_of c.args.command in
    let old : Stored = record { index = c.self.inside.chain; host = c.self.inside.host; slots = c.self.inside.slots; area = c.self.inside.area } in
    let new : Stored = record { index = c.commit.result; host = c.self.inside.host; slots = c.self.inside.slots; area = c.in-Ok.area } in
    let on = subst (λ (x : Stored). IsOn x before.moments.now) (sym c.self.view_is) (c.requires.on_disk told) in
    let kept = subst (λ (f : ℕ). Keeps g.D.Disk.tells f c.self.inside.area (record_of command) before after (Ok c.in-Ok.area)) c.selected-file.ensures c.in-Ok.ensures in
    subst (λ r. AddsRecord {T = Tip} {R = CommandRefusal} command c.args.self before after r) (sym {b = Done new c.commit.result.tip} c.done.ensures)
    (subst (λ (x : Stored). AddsRecord {T = Tip} {R = CommandRefusal} command x before after (Done new c.commit.result.tip)) c.self.view_is (adds_record g.D.Disk.tells told old before after on (record_of command) c.in-Ok.area kept))

pub returns-in-Ok-clause-cost : goal.returns-in-Ok-clause-cost
returns-in-Ok-clause-cost g c =
    let new : Stored = record { index = c.commit.result; host = c.self.inside.host; slots = c.self.inside.slots; area = c.in-Ok.area } in
    subst (λ r. IsCheapIfDone c.args.self.index c.args.command r c.args.steps.now c.commit.new.steps) (sym {b = Done new c.commit.result.tip} c.done.ensures)
    (subst (λ (x : Stored). IsCheapIfDone x.index c.args.command (Done new c.commit.result.tip) c.args.steps.now c.commit.new.steps) c.self.view_is
    (cheap_command c.self.inside.chain c.args.command c.in-Staged.staged c.commit.result c.args.steps.now c.stage.new.steps c.commit.new.steps c.in-Staged.ensures.cost c.commit.ensures.commits c.commit.ensures.cost))
