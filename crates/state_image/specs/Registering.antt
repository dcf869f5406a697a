-- The registration heights, which a text of version 1 leaves out.
use Rattle.std.specs.Prelude.{◌≡◌, ℕ, List}
use Rattle.nmc_base.specs.declared.chain_ends.Profile.{Profile}
use Rattle.chain_names.specs.Coins.{Maps}
use Rattle.chain_names.specs.Sound.{IsSound}
use Rattle.chain_names.specs.Tables.{names_in}
use Rattle.chain_names.specs.Undo.{UndoRecord}
use Rattle.name_tables.specs.Parts.{newest_first}
use Rattle.name_tables.specs.declared.parts.Parts.{Parts}
use Rattle.registrations.specs.Kept.{KeepsLimits}
use Rattle.registrations.specs.Told.{TellSame}
use Rattle.undo_records.specs.declared.version.Version.{Version}
use Rattle.undo_records.specs.declared.version.Version.TheVariants.{One, Two}

-- Histories and records tell all else as before, and no others of which that is told are sound.
pub record HaveHeights (old new : Parts) : Type 0 where
  pub coins : new.coins ≡ old.coins
  pub queue : new.queue ≡ old.queue
  pub told : TellSame (names_in new.names) (names_in old.names) (newest_first new.undos.items) (newest_first old.undos.items)
  pub only : (profile : Profile) (base tip : ℕ) (maps : Maps) (us : List UndoRecord) → IsSound profile base tip maps us
      → TellSame maps.names (names_in old.names) us (newest_first old.undos.items) → (maps.names ≡ names_in new.names) × (us ≡ newest_first new.undos.items)
  pub kept : KeepsLimits old.names new.names old.undos.items new.undos.items

-- the parts of a text of this version, once they have their registration heights
abbrev pub AreRegistered : Version → Parts → Parts → Type 0
AreRegistered One old new = HaveHeights old new
AreRegistered Two old new = new ≡ old
