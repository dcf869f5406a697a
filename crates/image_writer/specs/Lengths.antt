-- Lengths, counted up to the greatest number of 8 bytes.
use Rattle.std.specs.Prelude.{◌≡◌, ℕ, ◌+◌, ◌-◌, ◌^◌, length, map, min}
use Rattle.std.specs.List.{flat_map, IsDistinct}
use Rattle.std.specs.Map.{keys_of}
use Rattle.std.specs.Str.{bytes_eq}
use Rattle.chain_names.specs.Points.{same_point}
use Rattle.chain_names.specs.Seen.{seen_undo}
use Rattle.undo_records.specs.declared.version.Version.TheVariants.{Two}
use Rattle.undo_records.specs.Text.{held_text, undo_text}
use Rattle.name_tables.specs.declared.parts.Parts.{Parts}
use Rattle.image_grammar.specs.Text.{history_text}
use Rattle.image_writer.specs.Ordered.{held_in, histories_in}

abbrev pub capped : ℕ → ℕ
capped n = min n (2 ^ 64 - 1)

-- the bytes of all records, coins and names, without their counts
abbrev pub parts_length : Parts → ℕ
parts_length parts =
    length (flat_map (undo_text Two) (map seen_undo parts.undos.items)) + (length (flat_map held_text (held_in parts.coins)) + length (flat_map (history_text Two) (histories_in parts.names)))

-- they were added to what was counted before
pub record AddsParts (parts : Parts) (total sum : ℕ) : Type 0 where
  pub sum_is : sum ≡ capped (total + parts_length parts)
  pub coins : IsDistinct same_point (keys_of parts.coins)
  pub names : IsDistinct bytes_eq (keys_of parts.names)
