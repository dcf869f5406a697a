use Rattle.std.proofs.Common.{arith}
use Rattle.chain_names.specs.Seen.{seen_undo}
use Rattle.undo_records.specs.declared.version.Version.TheVariants.{Two}
use Rattle.undo_records.proofs.ReadAnswers.{begins, within, cause, only, only_fault}
use Rattle.undo_records.proofs.reading.read.Goals as goal

pub returns-clause-read : goal.returns-clause-read
returns-clause-read c = begins seen_undo Two c.args.bytes.now (λ i. omega (arith, c.type_inv.bytes i)) c.read_exactly.result c.read_exactly.ensures

pub returns-clause-within : goal.returns-clause-within
returns-clause-within c = within seen_undo Two c.args.bytes.now (λ i. omega (arith, c.type_inv.bytes i)) c.read_exactly.result c.read_exactly.ensures

pub returns-clause-only : goal.returns-clause-only
returns-clause-only c = only seen_undo Two c.args.bytes.now c.read_exactly.result c.read_exactly.ensures

pub returns-clause-wrong : goal.returns-clause-wrong
returns-clause-wrong c = cause seen_undo Two c.args.bytes.now (λ i. omega (arith, c.type_inv.bytes i)) c.read_exactly.result c.read_exactly.ensures

pub returns-clause-only_wrong : goal.returns-clause-only_wrong
returns-clause-only_wrong c = only_fault seen_undo Two c.args.bytes.now (λ i. omega (arith, c.type_inv.bytes i)) c.read_exactly.result c.read_exactly.ensures
