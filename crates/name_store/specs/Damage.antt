-- Where files are damaged, and where first. The fields of the header come first, in their order; then the selections behind it;
-- then the image of the selected area; then its records.
use Rattle.std.specs.Prelude.{◌≡◌, ◌≢◌, ℕ, ◌<◌, ◌≤◌, List, take}
use Rattle.nmc_base.specs.Heights.{highest}
use Rattle.nmc_base.specs.declared.chain_ends.Base.{Base}
use Rattle.gate_journal.specs.Records.{image_front}
use Rattle.chain_commands.specs.RunState.{longest_area}
use Rattle.chain_commands.specs.Saving.{most_selections}
use Rattle.image_slots.specs.Selections.{HasSelections, selected_by}
use Rattle.image_slots.specs.Damage as slots
use Rattle.image_files.specs.Fronts.{HasFront, image_at}
use Rattle.image_files.specs.Indexes.{BeginsWith, HasBadImage}
use Rattle.index_commands.specs.Commands.{Origin}
use Rattle.index_commands.specs.Damage.{HasBadRecord}
use Rattle.name_store.specs.Header.{IsProfile, magic, magic_at, profile_at, height_at, HasHost, IsInitialised, HasHeader, selections_at, base_at}
use Rattle.name_store.specs.Stands.{Bytes}

-- The first field of the header that is none, by its place.
pub data HasBadField (file : List ℕ) (at : ℕ) : Type 0 where
  bad_magic : at ≡ 1 → magic_at file ≢ magic → HasBadField file at
  bad_profile : at ≡ 9 → magic_at file ≡ magic → ¬ (IsProfile (profile_at file)) → HasBadField file at
  bad_height : at ≡ 10 → magic_at file ≡ magic → IsProfile (profile_at file) → highest < height_at file → HasBadField file at
  bad_host : at ≡ 47 → magic_at file ≡ magic → IsProfile (profile_at file) → height_at file ≤ highest → ¬ (HasHost file) → HasBadField file at

-- a header with each field in order, and so many selections behind it
pub record HasSelected (file : List ℕ) (count : ℕ) : Type 0 where
  pub header : HasHeader file
  pub selections : HasSelections (take (selections_at file) file) count file
  pub few : count ≤ most_selections

-- where the commands of an area begin: behind its image, from the index of that on
pub record BeginsAt (base : Base) (area : List ℕ) (first : Origin) : Type 0 where
  pub front : HasFront area
  pub front_is : first.front ≡ image_front (image_at area)
  pub is_index : BeginsWith base (image_at area) first.index

-- the number of the header's file
abbrev pub header_file : ℕ
header_file = 0

-- The first damage of initialised files: the file and the place in it.
pub data IsDamaged (files : Bytes) (file at : ℕ) : Type 0 where
  field : file ≡ header_file → IsInitialised (files 0) → HasBadField (files 0) at → IsDamaged files file at
  selection : file ≡ header_file → HasHeader (files 0) → slots.IsDamaged (selections_at (files 0)) most_selections (files 0) at → IsDamaged files file at
  image : (count : ℕ) → HasSelected (files 0) count → file ≡ selected_by count → HasBadImage (base_at (files 0)) (files file) at → IsDamaged files file at
  -- from the index of the image on
  command : (count : ℕ) → HasSelected (files 0) count → file ≡ selected_by count → (first : Origin) → BeginsAt (base_at (files 0)) (files file) first
      → HasBadRecord first longest_area (files file) at → IsDamaged files file at
