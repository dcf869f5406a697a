use Rattle.std.proofs.Common.{subst}
use Rattle.image_slots.specs.Slotted.{Slotted}
use Rattle.image_slots.specs.Answers.{RefusalAnswer}
use Rattle.image_slots.proofs.DraftLemmas.{refused}
use Rattle.image_slots.proofs.slots.Slots.begin.Goals as goal

pub returns-in_err-check-clause-begins : goal.returns-in_err-check-clause-begins
returns-in_err-check-clause-begins g c =
    refused g.D.Disk.tells c.args.self.now c.args.image (g.D.Disk.seen c.args.disk.now) c.in_err-check.field-0.0 c.from_residual.result
    (subst (λ (s : Slotted). RefusalAnswer s.limits s.count c.args.image c.in_err-check.field-0.0) c.self.view_is c.in_err-check.ensures.answer) c.in_err-check.ensures.no_disk c.from_residual.ensures.1
