use Rattle.std.proofs.Common.{refl, subst}
use Rattle.chain_commands.specs.Event.{Do}
use Rattle.index_commands.specs.Views.{command_of}
use Rattle.bridge_core.specs.Bridge.{AnswersEvent}
use Rattle.bridge_core.specs.Bridged.{Bridged, bridged}
use Rattle.bridge_core.specs.declared.bridge.Turned.TheVariants.{On, Ended}
use Rattle.bridge_core.specs.Growing.{GrowsOn}
use Rattle.bridge_core.proofs.CodeLemmas.{command_undone}
use Rattle.bridge_core.proofs.CommandTurns.{command_done, command_refused, command_lacking, command_faulted}
use Rattle.bridge_core.proofs.bridge.Bridge.turn.Goals as goal

pub returns-in-Done-clause-answers : goal.returns-in-Done-clause-answers
returns-in-Done-clause-answers g c =
    let tells = g.D.Disk.tells in
    let seen = g.D.Disk.seen in
    let by = c.in-Done.ensures in
    subst (λ (old : Bridged). AnswersEvent tells seen old c.args.disk.now (Do (command_of c.args.command)) c.accept.new.reply (On (bridged c.in-Done.store c.outdate.new.self)) c.execute.new.disk) c.self.view_is
    (command_done (record { tells = tells; seen = seen; old = bridged c.self.inside.store c.self.inside.desk; before = c.args.disk.now; after = c.execute.new.disk; reply = c.accept.new.reply }) c.args.command (bridged c.in-Done.store c.outdate.new.self) c.in-Done.tip
    (record { executes = by.executes; undone = by.undone; leaves = by.leaves; kept = by.kept }) c.accept.ensures c.outdate.ensures)

pub returns-in-Refused-clause-answers : goal.returns-in-Refused-clause-answers
returns-in-Refused-clause-answers g c =
    let tells = g.D.Disk.tells in
    let seen = g.D.Disk.seen in
    let by = c.in-Refused.ensures in
    subst (λ (old : Bridged). AnswersEvent tells seen old c.args.disk.now (Do (command_of c.args.command)) c.refuse.new.reply (On (bridged c.in-Refused.store c.self.inside.desk)) c.execute.new.disk) c.self.view_is
    (command_refused (record { tells = tells; seen = seen; old = bridged c.self.inside.store c.self.inside.desk; before = c.args.disk.now; after = c.execute.new.disk; reply = c.refuse.new.reply }) c.args.command (bridged c.in-Refused.store c.self.inside.desk) c.in-Refused.refusal
    (record { executes = by.executes; undone = by.undone; leaves = by.leaves; kept = by.kept }) c.refuse.ensures refl)

pub returns-in-NoMemory-clause-answers : goal.returns-in-NoMemory-clause-answers
returns-in-NoMemory-clause-answers g c =
    let tells = g.D.Disk.tells in
    let seen = g.D.Disk.seen in
    let by = c.in-NoMemory.ensures in
    subst (λ (old : Bridged). AnswersEvent tells seen old c.args.disk.now (Do (command_of c.args.command)) c.lack_memory.new.reply (On (bridged c.in-NoMemory.store c.self.inside.desk)) c.execute.new.disk) c.self.view_is
    (command_lacking (record { tells = tells; seen = seen; old = bridged c.self.inside.store c.self.inside.desk; before = c.args.disk.now; after = c.execute.new.disk; reply = c.lack_memory.new.reply }) c.args.command (bridged c.in-NoMemory.store c.self.inside.desk)
    (record { executes = by.executes; undone = by.undone; leaves = by.leaves; kept = by.kept }) c.lack_memory.ensures refl)

pub returns-in-Faulted-clause-answers : goal.returns-in-Faulted-clause-answers
returns-in-Faulted-clause-answers g c =
    let tells = g.D.Disk.tells in
    let seen = g.D.Disk.seen in
    let by = c.in-Faulted.ensures in
    subst (λ (old : Bridged). AnswersEvent tells seen old c.args.disk.now (Do (command_of c.args.command)) c.tell_fault.new.reply Ended c.execute.new.disk) c.self.view_is
    (command_faulted (record { tells = tells; seen = seen; old = bridged c.self.inside.store c.self.inside.desk; before = c.args.disk.now; after = c.execute.new.disk; reply = c.tell_fault.new.reply }) c.args.command
    (record { executes = by.executes; undone = by.undone; leaves = by.leaves; kept = by.kept }) c.tell_fault.ensures)

pub returns-in-Refused-clause-grows : goal.returns-in-Refused-clause-grows
returns-in-Refused-clause-grows g c =
    subst (λ (old : Bridged). GrowsOn (command_of c.args.command) old.store c.refuse.new.reply (On (bridged c.in-Refused.store c.self.inside.desk))) c.self.view_is
    (λ is_zero. absurd ((command_undone c.refuse.new.reply c.in-Refused.refusal c.refuse.ensures).0 is_zero), λ other. c.in-Refused.ensures.grows)

pub returns-in-Refused-clause-adds : goal.returns-in-Refused-clause-adds
returns-in-Refused-clause-adds g c = λ told is_zero. absurd ((command_undone c.refuse.new.reply c.in-Refused.refusal c.refuse.ensures).0 is_zero)

pub returns-in-Refused-clause-cost : goal.returns-in-Refused-clause-cost
returns-in-Refused-clause-cost g c = λ is_zero. absurd ((command_undone c.refuse.new.reply c.in-Refused.refusal c.refuse.ensures).0 is_zero)
