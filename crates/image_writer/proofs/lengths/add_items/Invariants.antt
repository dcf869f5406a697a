use Rattle.std.proofs.Common.{◌≡◌, ◌+◌, ◌^◌, ◌<◌, length}
use Rattle.std.specs.List.{flat_map}
use Rattle.undo_records.specs.declared.version.Version.TheVariants.{Two}
use Rattle.undo_records.specs.Text.{item_text}
use Rattle.image_writer.specs.Lengths.{capped}
use Rattle.image_writer.proofs.lengths.add_items.Given as goal

-- what was counted and the rest make the whole
abbrev pub invariant-loop-rest : goal.invariant-loop-rest
invariant-loop-rest l = (l.sum < 2 ^ 64) × (capped (l.sum + length (flat_map (item_text Two) l.rest)) ≡ capped (l.total + length (flat_map (item_text Two) l.items)))

abbrev pub decreases-loop-rest : goal.decreases-loop-rest
decreases-loop-rest l = length l.rest
