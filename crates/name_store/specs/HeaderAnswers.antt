-- What reading the header answers.
use Rattle.std.specs.Prelude.{◌≡◌, ℕ, ◌≤◌, List, take, drop, Result, Ok, Err, ⊤}
use Rattle.std.specs.Int.{w32, to_le_bytes}
use Rattle.name_store.specs.declared.faults.OpenFault.{OpenFault}
use Rattle.name_store.specs.declared.faults.OpenFault.TheVariants.{Uninitialised, Damaged, DiskFault, NoMemory}
use Rattle.name_store.specs.declared.header.Header.{Header}
use Rattle.name_store.specs.Host.{IsHostOf}
use Rattle.name_store.specs.Header.{IsBegun, IsInitialised, IsUninitialised, HasHeader, selections_at, base_at, height_at, host_at}
use Rattle.name_store.specs.Damage.{HasBadField, header_file}

-- Base and host are those of the file's fields, of which the height is spelled by bytes; and the selections begin behind them.
pub record IsHeaderOf (file : List ℕ) (header : Header) : Type 0 where
  pub base_is : header.base ≡ base_at file
  pub height_is : to_le_bytes w32 (height_at file) ≡ take 4 (drop 10 file)
  pub host_is : IsHostOf (host_at file) header.host
  pub selections_is : header.selections ≡ selections_at file

abbrev pub HeaderAnswer : List ℕ → Result Header OpenFault → Type 0
HeaderAnswer file (Ok header) = HasHeader file × IsHeaderOf file header
HeaderAnswer file (Err Uninitialised) = IsUninitialised file
HeaderAnswer file (Err (Damaged number at)) = (number ≡ header_file) × IsInitialised file × HasBadField file at
HeaderAnswer file (Err DiskFault) = ⊤
HeaderAnswer file (Err NoMemory) = ⊤

-- no selections begin farther off
abbrev pub farthest_selections : ℕ
farthest_selections = 302

-- the base and the host are ones that a header may have, and the selections begin where they may
pub record IsBegunBy (header : Header) : Type 0 where
  pub text : List ℕ
  pub begun : IsBegun header.base text
  pub host_is : IsHostOf text header.host
  pub near : header.selections ≤ farthest_selections
