-- What opening answers, and what it leaves of the disk.
use Rattle.std.specs.Prelude.{◌≡◌, ◌⊎◌, ℕ, ◌<◌, Bool, true, List, Result, Ok, Err, ⊤}
use Rattle.disk_model.specs.FileState.{IsSettled}
use Rattle.disk_model.specs.DiskSeen.{DiskSeen, file_in, bytes_in}
use Rattle.disk_model.specs.Moments.{Files}
use Rattle.nmc_base.specs.declared.chain_ends.Base.{Base}
use Rattle.chain_commands.specs.RunState.{RunState, longest_area}
use Rattle.name_store.specs.declared.faults.OpenFault.{OpenFault}
use Rattle.name_store.specs.declared.faults.OpenFault.TheVariants.{Uninitialised, Damaged, DiskFault, NoMemory}
use Rattle.name_store.specs.Header.{IsInitialised, IsUninitialised, base_at}
use Rattle.name_store.specs.Stands.{Bytes, Stands}
use Rattle.image_files.specs.Indexes.{HasBadImage}
use Rattle.index_commands.specs.Commands.{Origin}
use Rattle.index_commands.specs.Damage.{HasBadRecord}
use Rattle.index_commands.specs.Reading.{HasFollowedAll}
use Rattle.index_commands.specs.declared.areas.Followed.{Followed}
use Rattle.name_store.specs.Damage.{BeginsAt, HasSelected, IsDamaged}
use Rattle.name_store.specs.Stored.{Stored, StandsFor, IsOn, area_file}

-- Each of the three files was synced: it is settled, and reads give what they gave.
pub record IsSynced (old new : DiskSeen) : Type 0 where
  pub settled : (file : ℕ) → file < 3 → IsSettled (file_in new file)
  pub alike : (file : ℕ) → file < 3 → bytes_in new file ≡ bytes_in old file

-- ---- the selected area

-- the commands behind the image were followed, from its index on
pub record IsFollowed (tells : Bool) (base : Base) (area : List ℕ) (followed : Followed) : Type 0 where
  pub first : Origin
  pub begins : BeginsAt base area first
  pub all : HasFollowedAll tells longest_area first area followed.index followed.length

-- behind the image stands a record of no command that is taken at its turn
pub record HasBadCommand (base : Base) (area : List ℕ) (at : ℕ) : Type 0 where
  pub first : Origin
  pub begins : BeginsAt base area first
  pub bad : HasBadRecord first longest_area area at

-- of the area in this file, which a disk tells
abbrev pub AreaAnswer : Bool → Base → ℕ → List ℕ → Result Followed OpenFault → Type 0
AreaAnswer tells base file area (Ok followed) = IsFollowed tells base area followed
AreaAnswer tells base file area (Err Uninitialised) = ⊥
AreaAnswer tells base file area (Err (Damaged number at)) = (number ≡ file) × (HasBadImage base area at ⊎ HasBadCommand base area at)
AreaAnswer tells base file area (Err DiskFault) = ⊤
AreaAnswer tells base file area (Err NoMemory) = ⊤

-- ---- all files

-- The store is on the disk, whose files were neither uninitialised nor damaged. Its selections are those behind the header, and its index is
-- the one behind all commands of the selected area, which were followed from the index of the image on: also where the image is that of no
-- chain. And of every run state that the files stood for, it stands for it.
pub record IsOpened (old : Bytes) (new : Files) (store : Stored) : Type 0 where
  pub on_disk : IsOn store new
  pub initialised : IsInitialised (old 0)
  pub undamaged : (file at : ℕ) → ¬ (IsDamaged old file at)
  pub selected : HasSelected (old 0) store.slots.count
  pub followed : IsFollowed true (base_at (old 0)) (old (area_file store)) (record { index = store.index; length = store.area })
  pub follows : (run : RunState) → Stands old run → StandsFor store run

-- The answers exclude one another, so each comes exactly where its case says; a fault of the disk has its cause beside, and
-- want of memory may stand in the place of each.
abbrev pub OpenAnswer : Bytes → Files → Result Stored OpenFault → Type 0
OpenAnswer old new (Ok store) = IsOpened old new store
OpenAnswer old new (Err Uninitialised) = IsUninitialised (old 0)
OpenAnswer old new (Err (Damaged file at)) = IsDamaged old file at
OpenAnswer old new (Err DiskFault) = ⊤
OpenAnswer old new (Err NoMemory) = ⊤

-- So of files that stand for a run state, as `one_kind_of_files` tells.
abbrev pub OpensFor : RunState → Result Stored OpenFault → Type 0
OpensFor run (Ok store) = StandsFor store run
OpensFor run (Err Uninitialised) = ⊥
OpensFor run (Err (Damaged file at)) = ⊥
OpensFor run (Err DiskFault) = ⊤
OpensFor run (Err NoMemory) = ⊤
