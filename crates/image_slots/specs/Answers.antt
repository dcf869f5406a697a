-- What slots answer when they are opened and when a draft is begun. The answers exclude one another, so each comes exactly where its
-- case says; a fault of the disk has its cause beside, and want of memory may stand in the place of the others.
use Rattle.std.specs.Prelude.{◌≡◌, ℕ, ◌<◌, ◌≤◌, Bool, true, false, List, Result, Ok, Err, ⊤}
use Rattle.gate_journal.specs.Gate.{IsOpen, IsClosed, IsRecordAt}
use Rattle.image_slots.specs.Selections.{drafted_by, next_selection}
use Rattle.image_slots.specs.Slotted.{Slotted}
use Rattle.image_slots.specs.Damage.{IsDamaged}
use Rattle.image_slots.specs.Drafted.{Drafted}
use Rattle.image_slots.specs.declared.limits.SlotLimits.{SlotLimits}
use Rattle.image_slots.specs.declared.faults.SlotFault.{SlotFault}
use Rattle.image_slots.specs.declared.faults.SlotFault.TheVariants.{DiskFault, Damaged, NoMemory}
use Rattle.image_slots.specs.declared.faults.DraftFault.{DraftFault}
use Rattle.image_slots.specs.declared.faults.DraftFault.TheVariants as draft_fault

-- the place of the damage of a file whose first gate is to stand at this place
abbrev pub FaultAnswer : ℕ → ℕ → List ℕ → SlotFault → Type 0
FaultAnswer at most file (Damaged place) = IsDamaged at most file place
FaultAnswer at most file DiskFault = ⊤
FaultAnswer at most file NoMemory = ⊤

-- the selection behind so many others stands at the gate, or the gate is closed, or neither
abbrev pub SelectionAnswer : List ℕ → ℕ → ℕ → ℕ → Result Bool SlotFault → Type 0
SelectionAnswer file gate limit count (Ok true) = IsRecordAt file gate limit (next_selection count)
SelectionAnswer file gate limit count (Ok false) = IsClosed file gate
SelectionAnswer file gate limit count (Err (Damaged place)) = (place ≡ gate) × IsOpen file gate × ¬ (IsRecordAt file gate limit (next_selection count))
SelectionAnswer file gate limit count (Err DiskFault) = ⊤
SelectionAnswer file gate limit count (Err NoMemory) = ⊤

-- there is room for a selection more behind so many, and for an image of this length
pub record HasRoom (limits : SlotLimits) (count image : ℕ) : Type 0 where
  pub one_more : count < limits.selections
  pub short : image ≤ limits.image

-- Why an image of this length is not drafted behind so many selections: their limit comes before that of images.
abbrev pub RefusalAnswer : SlotLimits → ℕ → ℕ → DraftFault → Type 0
RefusalAnswer limits count image draft_fault.CheckpointLimit = count ≡ limits.selections
RefusalAnswer limits count image draft_fault.ImageLimit = (count < limits.selections) × (limits.image < image)
RefusalAnswer limits count image draft_fault.DiskFault = HasRoom limits count image

-- the draft of an image of this length in the area that is not selected
abbrev pub BeginAnswer : Slotted → ℕ → Result Drafted DraftFault → Type 0
BeginAnswer slots image (Ok draft) = HasRoom slots.limits slots.count image × (draft ≡ record { file = drafted_by slots.count; image = image; written = 0 })
BeginAnswer slots image (Err fault) = RefusalAnswer slots.limits slots.count image fault
