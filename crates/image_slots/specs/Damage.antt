-- Where the selections are damaged.
use Rattle.std.specs.Prelude.{◌≡◌, ℕ, ◌≤◌, List, length, take}
use Rattle.gate_journal.specs.Gate.{IsOpen, IsRecordAt}
use Rattle.gate_journal.specs.Records.{HasRecordsTo}
use Rattle.image_slots.specs.Selections.{selections, next_selection, selections_limit}

-- Behind some selections, no more than there may be, the gate at this place is open, and what stands there is not the next one,
-- or does not fit the file or the limit.
pub record HasBadSelection (at most : ℕ) (file : List ℕ) (gate : ℕ) : Type 0 where
  pub count : ℕ
  pub few : count ≤ most
  pub read : HasRecordsTo gate (take at file) (selections count) file
  pub is_open : IsOpen file gate
  pub no_next : ¬ (IsRecordAt file gate (selections_limit at most) (next_selection count))

-- The first damage of a file whose first gate is to stand at this place, with at most so many selections behind it.
pub data IsDamaged (at most : ℕ) (file : List ℕ) (place : ℕ) : Type 0 where
  -- the first gate does not lie inside the file
  no_gate : place ≡ at → length file ≤ at → IsDamaged at most file place
  selection : HasBadSelection at most file place → IsDamaged at most file place
