-- Which makes may stand one on the other in a snapshot.
use Rattle.std.specs.Prelude.{◌≡◌, ◌≢◌, ℕ, suc, ◌<◌, ◌≤◌, ◌^◌, true, List, [], ◌∷◌, length, Option, Some, None}
use Rattle.nmc_base.specs.declared.chain_ends.Base.{Base}
use Rattle.nmc_base.specs.declared.hashes.OutPoint.{OutPoint}
use Rattle.nmc_base.specs.declared.limits.TheConstants.{DIGEST_LENGTH, LONGEST_VALUE}
use Rattle.nmc_base.specs.Expiry.{is_expired}
use Rattle.chain_names.specs.Coins.{history_of}
use Rattle.chain_names.specs.Start.{IsStartMake}
use Rattle.chain_names.specs.Writable.{IsWritablePoint, IsWritableName, IsAfter}
use Rattle.name_snapshot.specs.Text.{Told, commitment, value, StartMake, operation_of, start_of, snapshot_text}

-- ---- makes with a text

abbrev pub IsWritableTold : Told → Type 0
IsWritableTold (commitment hash) = length hash ≡ DIGEST_LENGTH
IsWritableTold (value name bytes) = IsWritableName name × (length bytes ≤ LONGEST_VALUE)

pub record IsWritableMake (m : StartMake) : Type 0 where
  pub at : IsWritablePoint m.at
  pub height : m.height < 2 ^ 32
  pub told : IsWritableTold m.told

-- ---- one on the other

-- the outpoint of the newest make
abbrev pub last_of : List StartMake → Option OutPoint
last_of [] = None
last_of (m ∷ below) = Some m.at

-- the make may stand in a start list on those below, and its outpoint is greater than theirs
pub record MayFollow (base : Base) (below : List StartMake) (m : StartMake) : Type 0 where
  pub writable : IsWritableMake m
  pub after : IsAfter (last_of below) m.at
  pub start : IsStartMake base.profile base.height (start_of below) m.at (operation_of m.told) m.height

abbrev pub MayFollowAll : Base → List StartMake → Type 0
MayFollowAll base [] = Unit {0}
MayFollowAll base (m ∷ below) = MayFollow base below m × MayFollowAll base below

-- Why a make may not stand on those below: its outpoint isn't greater than the one before, it is higher than the base, or it gives
-- a value that is expired in the block after the base, or to a name that has one from a make below.
pub data IsMisplaced (base : Base) (below : List StartMake) (m : StartMake) : Type 0 where
  not_after : ¬ (IsAfter (last_of below) m.at) → IsMisplaced base below m
  too_high : base.height < m.height → IsMisplaced base below m
  expired : (name bytes : List ℕ) → m.told ≡ value name bytes → is_expired base.profile m.height (suc base.height) ≡ true → IsMisplaced base below m
  taken : (name bytes : List ℕ) → m.told ≡ value name bytes → history_of (start_of below) name ≢ [] → IsMisplaced base below m

-- ---- snapshots

-- the text is that of these makes, and each of them may stand on those below
pub record IsSnapshot (base : Base) (text : List ℕ) (makes : List StartMake) : Type 0 where
  pub few : length makes < 2 ^ 32
  pub follow : MayFollowAll base makes
  pub text_is : text ≡ snapshot_text makes
