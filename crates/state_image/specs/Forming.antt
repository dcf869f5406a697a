-- What the form of a text tells of its base and its parts.
use Rattle.std.specs.Prelude.{◌≡◌, ℕ, ◌≤◌, ◌<◌, ◌^◌, List, [], length, slice_index, Result, Ok, Err}
use Rattle.std.specs.List.{AllByRecursion}
use Rattle.nmc_base.specs.declared.chain_ends.Base.{Base}
use Rattle.chain_names.specs.State.{FitsItem}
use Rattle.chain_names.specs.Tables.{names_in, AreCoinsFilled}
use Rattle.name_tables.specs.Parts.{newest_first, tables_of}
use Rattle.name_tables.specs.Tables.{maps_by}
use Rattle.name_tables.specs.declared.parts.Parts.{Parts}
use Rattle.sound_states.specs.Walk.{HasFewCoins}
use Rattle.states_below.specs.Walking.{IsWithin}
use Rattle.undo_records.specs.declared.version.Version.{Version}
use Rattle.state_image.specs.Answers.{IsSoundOn}
use Rattle.state_image.specs.Registering.{AreRegistered}
use Rattle.state_image.specs.Standing.{standing, IsKept}
use Rattle.state_image.specs.Versioned.{read_from}
use Rattle.state_image.specs.declared.fault.ImageFault.{ImageFault}
use Rattle.state_image.specs.declared.fault.ImageFault.TheVariants.{Damaged, NoMemory}
use Rattle.state_image.specs.declared.reading.Reading.{Reading}

-- parts of which it can be told whether they are sound
pub record AreFormed (parts : Parts) : Type 0 where
  pub lengths : (name : List ℕ) → AllByRecursion (FitsItem name) (names_in parts.names name)
  pub few : HasFewCoins (maps_by (tables_of parts)) (newest_first parts.undos.items)
  pub within : AllByRecursion IsWithin parts.undos.items
  pub filled : AreCoinsFilled parts.coins
  pub undo_count : length parts.undos.items < 2 ^ 32

-- the text was read whole
pub record IsReadWhole (text : List ℕ) (r : Reading) : Type 0 where
  pub bytes : (i : ℕ) → slice_index text i < 256
  pub few : length text ≤ 2 ^ 37
  pub read : read_from text ≡ Ok ((r.version, (standing r).gathered), [])
  pub kept : IsKept r

-- the parts of what was read
pub record AreOf (r : Reading) (base : Base) (parts : Parts) : Type 0 where
  pub base_is : base ≡ r.base
  pub tables_are : tables_of parts ≡ r.tables
  pub undos_are : parts.undos ≡ r.undos

-- the fault of a state that isn't sound has the place 0
abbrev pub TellsFault : Type 0 → Result (Unit {0}) ImageFault → Type 0
TellsFault Sound (Ok done) = Sound
TellsFault Sound (Err (Damaged at)) = (Sound → ⊥) × (at ≡ 0)
TellsFault Sound (Err NoMemory) = Unit {0}

-- the parts have their registration heights, and it is told whether they are sound then
abbrev pub Judges : Version → Base → Parts → Parts → Result (Unit {0}) ImageFault → Type 0
Judges version base old new (Ok done) = AreRegistered version old new × IsSoundOn base new
Judges version base old new (Err (Damaged at)) = AreRegistered version old new × (IsSoundOn base new → ⊥) × (at ≡ 0)
Judges version base old new (Err NoMemory) = Unit {0}
