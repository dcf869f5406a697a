-- The calls as the disk in memory stores them.
use Rattle.std.specs.Prelude.{◌+◌, ◌<◌, ◌^◌, ⊤, List, map}
use Rattle.memory_disk.specs.Calls.{Effect, DiskCall, looked, written, write_failed, cut_to, cut_failed, synced}
use Rattle.memory_disk.specs.Touched.{Touched}
use Rattle.memory_disk.specs.declared.kept.KeptCall.{KeptCall}
use Rattle.memory_disk.specs.declared.kept.KeptEffect.{KeptEffect}
use Rattle.memory_disk.specs.declared.kept.KeptEffect.TheVariants.{Look, Write, Cut, Sync, Failed}
use Rattle.memory_disk.specs.declared.kept.FailedEffect.{FailedEffect}
use Rattle.memory_disk.specs.declared.kept.FailedEffect.TheVariants.{FailedLook, FailedWrite, FailedCut}
use Rattle.memory_disk.specs.declared.touched.TouchedFile.{TouchedFile}

abbrev pub failed_effect : FailedEffect → Effect
failed_effect FailedLook = looked
failed_effect (FailedWrite at count) = write_failed at count
failed_effect (FailedCut count) = cut_failed count

-- what a failed write named ends at a place that a file may have
abbrev pub EndsInRange : FailedEffect → Type 0
EndsInRange FailedLook = ⊤
EndsInRange (FailedWrite at count) = at + count < 2 ^ 64
EndsInRange (FailedCut count) = ⊤

abbrev pub effect_of : KeptEffect → Effect
effect_of Look = looked
effect_of (Write at bytes) = written at bytes.items
effect_of (Cut count) = cut_to count
effect_of Sync = synced
effect_of (Failed failed) = failed_effect failed

abbrev pub call_of : KeptCall → DiskCall
call_of call = record { file = call.file; effect = effect_of call.effect }

abbrev pub calls_of : List KeptCall → List DiskCall
calls_of calls = map call_of calls

abbrev pub touched_of : TouchedFile → Touched
touched_of t = record { outside = t.outside.items; least = t.least; greatest = t.greatest }

-- what the calls that are kept together touched, file by file
abbrev pub touched_in : List TouchedFile → List Touched
touched_in files = map touched_of files
