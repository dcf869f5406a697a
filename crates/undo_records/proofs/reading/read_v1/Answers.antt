use Rattle.std.proofs.Common.{arith}
use Rattle.undo_records.specs.declared.version.Version.TheVariants.{One}
use Rattle.undo_records.specs.Answers.{seen_v1}
use Rattle.undo_records.proofs.ReadAnswers.{begins, within, cause, only, only_fault}
use Rattle.undo_records.proofs.reading.read_v1.Goals as goal

pub returns-clause-read : goal.returns-clause-read
returns-clause-read c = begins seen_v1 One c.args.bytes.now (λ i. omega (arith, c.type_inv.bytes i)) c.exactly_v1.result c.exactly_v1.ensures

pub returns-clause-within : goal.returns-clause-within
returns-clause-within c = within seen_v1 One c.args.bytes.now (λ i. omega (arith, c.type_inv.bytes i)) c.exactly_v1.result c.exactly_v1.ensures

pub returns-clause-only : goal.returns-clause-only
returns-clause-only c = only seen_v1 One c.args.bytes.now c.exactly_v1.result c.exactly_v1.ensures

pub returns-clause-wrong : goal.returns-clause-wrong
returns-clause-wrong c = cause seen_v1 One c.args.bytes.now (λ i. omega (arith, c.type_inv.bytes i)) c.exactly_v1.result c.exactly_v1.ensures

pub returns-clause-only_wrong : goal.returns-clause-only_wrong
returns-clause-only_wrong c = only_fault seen_v1 One c.args.bytes.now (λ i. omega (arith, c.type_inv.bytes i)) c.exactly_v1.result c.exactly_v1.ensures
