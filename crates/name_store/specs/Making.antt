-- What making the files answers, and what a crash leaves meanwhile.
use Rattle.std.specs.Prelude.{◌≡◌, ◌⊎◌, Bool, IsTrue, [], Result, Ok, Err, ⊤}
use Rattle.disk_model.specs.FileState.{FileState, IsSettled}
use Rattle.disk_model.specs.Moments.{Files, EachMoment, IsImage}
use Rattle.disk_model.specs.Changes.{Unchanged}
use Rattle.disk_model.specs.DiskSeen.{DiskSeen}
use Rattle.chain_commands.specs.RunState.{RunState}
use Rattle.name_store.specs.declared.faults.CreateFault.{CreateFault}
use Rattle.name_store.specs.declared.faults.CreateFault.TheVariants.{Initialised, DiskFault}
use Rattle.name_store.specs.Header.{IsInitialised, IsUninitialised}
use Rattle.name_store.specs.Stands.{Bytes, Stands}

-- files that are initialised are left as they are; others are made
abbrev pub CreateAnswer : Bytes → Result (Unit {0}) CreateFault → Type 0
CreateAnswer old (Ok done) = IsUninitialised (old 0)
CreateAnswer old (Err Initialised) = IsInitialised (old 0)
CreateAnswer old (Err DiskFault) = ⊤

-- No write and no cut was asked for, and at each moment the files are as they were.
pub record OnlyReads (tells : Bool) (old new : DiskSeen) : Type 0 where
  pub reads : new.changes ≡ old.changes
  pub unchanged : IsTrue tells → EachMoment (Unchanged old.moments.now) old.moments new.moments

-- the file is empty, and was synced since its last write
pub record IsEmpty (file : FileState) : Type 0 where
  pub settled : IsSettled file
  pub are : file.bytes ≡ []

-- Whatever a crash leaves is uninitialised, or stands for the run state.
abbrev pub EachIsBegun : RunState → Files → Type 0
EachIsBegun run files = (image : Bytes) → IsImage files image → IsUninitialised (image 0) ⊎ Stands image run
