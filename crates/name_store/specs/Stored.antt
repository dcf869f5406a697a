-- What a store keeps, what it stands for, and when it is on a disk.
use Rattle.std.specs.Prelude.{◌≡◌, ℕ, List}
use Rattle.disk_model.specs.FileState.{IsSettled}
use Rattle.disk_model.specs.Moments.{Files}
use Rattle.chain_state.specs.Chain.{Indexed}
use Rattle.index_commands.specs.Standing as chains
use Rattle.nmc_base.specs.declared.chain_ends.Tip.{Tip}
use Rattle.chain_commands.specs.Chain.{Chain, height_of, tip_hash}
use Rattle.chain_commands.specs.RunState.{RunState, chain_of, area_of}
use Rattle.image_slots.specs.Selections.{selected_by}
use Rattle.image_slots.specs.Slotted.{Slotted, AreOn}
use Rattle.index_commands.specs.Keeping.{HoldsRecords}
use Rattle.name_store.specs.Header.{header_text}
use Rattle.name_store.specs.Host.{IsHostOf}
use Rattle.name_store.specs.Stands.{IsRunState, EachStands}

-- the index, the name of the base's host on the wire, the selections, and the length of the selected area
pub record Stored : Type 0 where
  pub index : Indexed
  pub host : List ℕ
  pub slots : Slotted
  pub area : ℕ

-- the number of the selected area's file
abbrev pub area_file : Stored → ℕ
area_file store = selected_by store.slots.count

-- the index is one of the run state's chain, and the name of the host, the number of selections and the length are its own
pub record StandsFor (store : Stored) (run : RunState) : Type 0 where
  pub index : chains.StandsFor store.index (chain_of run)
  pub host : IsHostOf run.host store.host
  pub selections : store.slots.count ≡ run.selections
  pub area : store.area ≡ area_of run
  pub is_state : IsRunState run

-- whatever a crash with these files leaves stands for each run state that the store stands for
abbrev pub EachStandsFor : Stored → Files → Type 0
EachStandsFor store files = (run : RunState) → StandsFor store run → EachStands files run

-- The store is on the disk: file 0 as read begins with the header of its base and host, its selections and a closed gate; the selected
-- file as read is, up to the length of its area, an image, whole records and a closed gate; and both were synced since their last write.
pub record IsOn (store : Stored) (files : Files) : Type 0 where
  pub text : List ℕ
  pub host : IsHostOf text store.host
  pub slots : AreOn (header_text store.index.base text) store.slots (files 0)
  pub image : List ℕ
  pub records : List (List ℕ)
  pub holds : HoldsRecords store.area image records (files (area_file store)).bytes
  pub settled_area : IsSettled (files (area_file store))

-- the tip of the chain
pub record IsTipOf (tip : Tip) (chain : Chain) : Type 0 where
  pub height : tip.height ≡ height_of chain
  pub hash : tip.hash.0 ≡ tip_hash chain
