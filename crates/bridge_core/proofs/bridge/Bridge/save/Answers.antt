use Rattle.std.proofs.Common.{refl, subst}
use Rattle.chain_commands.specs.Event.{Save}
use Rattle.name_store.specs.Saves.{save_refusal_of}
use Rattle.bridge_core.specs.Bridge.{AnswersEvent}
use Rattle.bridge_core.specs.Bridged.{Bridged, bridged}
use Rattle.bridge_core.specs.declared.bridge.Turned.TheVariants.{On, Ended}
use Rattle.bridge_core.proofs.CodeLemmas.{save_undone}
use Rattle.bridge_core.proofs.TurnLemmas.{a_save, is_save, request_done, request_refused, request_lacking, request_faulted}
use Rattle.bridge_core.proofs.bridge.Bridge.save.Goals as goal

pub returns-in-Done : goal.returns-in-Done
returns-in-Done g c =
    let tells = g.D.Disk.tells in
    let seen = g.D.Disk.seen in
    let by = c.in-Done.ensures in
    subst (λ (old : Bridged). AnswersEvent tells seen old c.args.disk.now Save c.tell_saved.new.reply (On (bridged c.in-Done.store c.self.inside.desk)) c.save.new.disk) c.self.view_is
    (request_done (record { tells = tells; seen = seen; old = bridged c.self.inside.store c.self.inside.desk; before = c.args.disk.now; after = c.save.new.disk; reply = c.tell_saved.new.reply }) a_save is_save (bridged c.in-Done.store c.self.inside.desk) c.in-Done.number
    (record { answers = by.saves; undone = by.undone; leaves = by.leaves; kept = by.kept }) c.tell_saved.ensures refl)

pub returns-in-Refused : goal.returns-in-Refused
returns-in-Refused g c =
    let tells = g.D.Disk.tells in
    let seen = g.D.Disk.seen in
    let by = c.in-Refused.ensures in
    subst (λ (old : Bridged). AnswersEvent tells seen old c.args.disk.now Save c.refuse_save.new.reply (On (bridged c.in-Refused.store c.self.inside.desk)) c.save.new.disk) c.self.view_is
    (request_refused (record { tells = tells; seen = seen; old = bridged c.self.inside.store c.self.inside.desk; before = c.args.disk.now; after = c.save.new.disk; reply = c.refuse_save.new.reply }) a_save is_save (bridged c.in-Refused.store c.self.inside.desk) c.in-Refused.refusal c.in-Refused.refusal
    (record { answers = by.saves; undone = by.undone; leaves = by.leaves; kept = by.kept }) c.refuse_save.ensures (save_undone c.refuse_save.new.reply (save_refusal_of c.in-Refused.refusal) c.refuse_save.ensures) refl)

pub returns-in-NoMemory : goal.returns-in-NoMemory
returns-in-NoMemory g c =
    let tells = g.D.Disk.tells in
    let seen = g.D.Disk.seen in
    let by = c.in-NoMemory.ensures in
    subst (λ (old : Bridged). AnswersEvent tells seen old c.args.disk.now Save c.lack_memory.new.reply (On (bridged c.in-NoMemory.store c.self.inside.desk)) c.save.new.disk) c.self.view_is
    (request_lacking (record { tells = tells; seen = seen; old = bridged c.self.inside.store c.self.inside.desk; before = c.args.disk.now; after = c.save.new.disk; reply = c.lack_memory.new.reply }) a_save is_save (bridged c.in-NoMemory.store c.self.inside.desk)
    (record { answers = by.saves; undone = by.undone; leaves = by.leaves; kept = by.kept }) c.lack_memory.ensures refl)

pub returns-in-Faulted : goal.returns-in-Faulted
returns-in-Faulted g c =
    let tells = g.D.Disk.tells in
    let seen = g.D.Disk.seen in
    let by = c.in-Faulted.ensures in
    subst (λ (old : Bridged). AnswersEvent tells seen old c.args.disk.now Save c.tell_fault.new.reply Ended c.save.new.disk) c.self.view_is
    (request_faulted (record { tells = tells; seen = seen; old = bridged c.self.inside.store c.self.inside.desk; before = c.args.disk.now; after = c.save.new.disk; reply = c.tell_fault.new.reply }) a_save is_save
    (record { answers = by.saves; undone = by.undone; leaves = by.leaves; kept = by.kept }) c.tell_fault.ensures)
