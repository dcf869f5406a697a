use Rattle.gate_journal.proofs.ReadLemmas.{field_bytes}
use Rattle.gate_journal.proofs.reading.size_field.Goals as goal

pub returns-clause-bytes : goal.returns-clause-bytes
returns-clause-bytes c = field_bytes c.args.start.now c.from_le_bytes.result (λ i. (c.type_inv.start i).fits) c.from_le_bytes.ensures
