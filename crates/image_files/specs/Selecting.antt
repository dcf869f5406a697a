-- A selection of what was drafted.
use Rattle.std.specs.Prelude.{◌≡◌, ℕ, ◌+◌, Bool, Result, OnErr, IfOk}
use Rattle.disk_model.specs.DiskSeen.{DiskSeen}
use Rattle.disk_model.specs.declared.disk.Failed.{Failed}
use Rattle.image_slots.specs.Slotted.{Slotted, with_one_more}
use Rattle.image_slots.specs.Calls.{AddsSelection}

-- The area that was drafted was selected.
pub record Selects (tells : Bool) (old new : Slotted) (before after : DiskSeen) (result : Result ℕ Failed) : Type 0 where
  pub ok : IfOk result (λ number. (number ≡ old.count + 1) × (new ≡ with_one_more old))
  pub err : OnErr result (new ≡ old)
  pub adds : AddsSelection tells old new before after result
