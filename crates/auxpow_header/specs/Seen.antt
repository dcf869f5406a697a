-- The fields of a header as contents.
use Rattle.std.specs.Prelude.{ℕ, Bool, not, ◌==◌, bit_and, List, Option, None, Result, Ok, Err}
use Rattle.block_grammar.specs.PureHeader as plain
use Rattle.block_grammar.specs.MergePart.{MergePart}
use Rattle.auxpow_header.specs.declared.fields.Fields.{Fields}

abbrev pub seen_fields : Fields → plain.PureHeader
seen_fields f = record { version = f.version; previous = f.previous; root = f.root; time = f.time; bits = f.bits; nonce = f.nonce }

-- whether bit 0x100 is set
abbrev pub is_merged_version : ℕ → Bool
is_merged_version version = not (bit_and version 0x100 == 0)

-- the part that was read, or none
abbrev pub part_read : {E : Type 0} → Result (Option MergePart × List ℕ) E → Option MergePart
part_read (Ok x) = x.0
part_read (Err e) = None
