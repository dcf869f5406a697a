-- What contracts see of the records that were taken back.
use Rattle.std.specs.Prelude.{reverse}
use Rattle.registrations.specs.declared.taking.TakenBack.{TakenBack}
use Rattle.registrations.specs.Taking.{TakenUndo}

-- its operations are kept from the last to the first
abbrev pub seen_taken : TakenBack → TakenUndo
seen_taken t = record { block = t.block; ops = reverse t.ops.items; expired = t.expired.items }
