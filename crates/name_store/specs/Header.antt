-- The header of file 0.
--
--     +------+---------------------+---------+--------------+-----------+---------------+------+------+
--     | gate | `NMCIDX1`, line feed| profile | base height 4| base hash | length of host| host | gate |
--     | 01   | 8                   | 1       | 10           | 14        | 46            | 47   |      |
--     +------+---------------------+---------+--------------+-----------+---------------+------+------+
--
-- The gate behind it is the first of the selections.
use Rattle.std.specs.Prelude.{◌≡◌, ◌==◌, if◌then◌else◌, ℕ, ◌+◌, ◌≤◌, List, [], ◌∷◌, ◌++◌, length, take, drop, slice_index, codes}
use Rattle.std.specs.Int.{w32, to_le_bytes, from_le_bytes}
use Rattle.nmc_base.specs.Heights.{highest}
use Rattle.nmc_base.specs.declared.chain_ends.Base.{Base}
use Rattle.nmc_base.specs.declared.chain_ends.Profile.{Profile}
use Rattle.nmc_base.specs.declared.chain_ends.Profile.TheVariants.{Regtest, Main}
use Rattle.name_store.specs.Host.{IsHostText}

abbrev pub magic : List ℕ
magic = codes "NMCIDX1" ++ 10 ∷ []

abbrev pub profile_byte : Profile → ℕ
profile_byte Regtest = 1
profile_byte Main = 2

-- the profile of a byte, where the byte is one's
abbrev pub profile_of : ℕ → Profile
profile_of byte = if byte == 2 then Main else Regtest

abbrev pub IsProfile : ℕ → Type 0
IsProfile byte = byte ≡ profile_byte (profile_of byte)

-- what stands between the header's gate and the first gate of the selections
abbrev pub header_fields : Base → List ℕ → List ℕ
header_fields base host = magic ++ (profile_byte base.profile ∷ (to_le_bytes w32 base.height ++ (base.hash.0 ++ (length host ∷ host))))

-- the header with its gate open
abbrev pub header_text : Base → List ℕ → List ℕ
header_text base host = 1 ∷ header_fields base host

-- a base and a host that a header may have
pub record IsBegun (base : Base) (host : List ℕ) : Type 0 where
  pub low : base.height ≤ highest
  pub hash : length base.hash.0 ≡ 32
  pub is_host : IsHostText host

-- ---- the fields of a file, at their places

abbrev pub magic_at : List ℕ → List ℕ
magic_at file = take 8 (drop 1 file)

abbrev pub profile_at : List ℕ → ℕ
profile_at file = slice_index file 9

abbrev pub height_at : List ℕ → ℕ
height_at file = from_le_bytes w32 (take 4 (drop 10 file))

abbrev pub hash_at : List ℕ → List ℕ
hash_at file = take 32 (drop 14 file)

abbrev pub host_length_at : List ℕ → ℕ
host_length_at file = slice_index file 46

abbrev pub host_at : List ℕ → List ℕ
host_at file = take (host_length_at file) (drop 47 file)

-- the place of the first gate of the selections
abbrev pub selections_at : List ℕ → ℕ
selections_at file = 47 + host_length_at file

abbrev pub base_at : List ℕ → Base
base_at file = record { profile = profile_of (profile_at file); height = height_at file; hash = record { 0 = hash_at file } }

-- the host lies inside the file, and is one
pub record HasHost (file : List ℕ) : Type 0 where
  pub inside : selections_at file ≤ length file
  pub is_host : IsHostText (host_at file)

-- each field is one that a header may have
pub record HasFields (file : List ℕ) : Type 0 where
  pub magic_is : magic_at file ≡ magic
  pub profile_is : IsProfile (profile_at file)
  pub low : height_at file ≤ highest
  pub host : HasHost file

-- ---- whether a file has a header

-- so many bytes has a header with the shortest host and the gate behind it
abbrev pub shortest_header : ℕ
shortest_header = 50

abbrev pub open_gate : ℕ
open_gate = 1

-- the header's gate is open, and there are as many bytes as a header has at least
pub record IsInitialised (file : List ℕ) : Type 0 where
  pub long : shortest_header ≤ length file
  pub is_open : slice_index file 0 ≡ open_gate

abbrev pub IsUninitialised : List ℕ → Type 0
IsUninitialised file = ¬ (IsInitialised file)

-- the file has a header with each field in order
pub record HasHeader (file : List ℕ) : Type 0 where
  pub initialised : IsInitialised file
  pub fields : HasFields file
