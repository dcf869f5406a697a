-- The start list of a chain: the makes that stand before its first block.
use Rattle.std.specs.Prelude.{◌≡◌, ℕ, suc, ◌<◌, ◌≤◌, ◌^◌, false, List, [], ◌∷◌, length, None}
use Rattle.name_script.specs.NameScript.{NameOperation, name_new, name_firstupdate, name_update}
use Rattle.nmc_base.specs.declared.limits.TheConstants.{DIGEST_LENGTH}
use Rattle.nmc_base.specs.declared.hashes.OutPoint.{OutPoint}
use Rattle.nmc_base.specs.declared.chain_ends.Profile.{Profile}
use Rattle.nmc_base.specs.Expiry.{is_expired}
use Rattle.chain_names.specs.Log.{Log, Spend, Make}
use Rattle.chain_names.specs.Coins.{coin_now, history_of}
use Rattle.chain_names.specs.Meaning.{FitsName}

-- no make below gives the name a value, this one isn't expired in the first block, and name and value are within their lengths
pub record IsOneValue (profile : Profile) (base : ℕ) (below : Log) (name value : List ℕ) (height : ℕ) : Type 0 where
  pub one : history_of below name ≡ []
  pub live : is_expired profile height (suc base) ≡ false
  pub fits : FitsName name value

abbrev pub IsStartOperation : Profile → ℕ → Log → NameOperation → ℕ → Type 0
IsStartOperation profile base below (name_new hash) height = length hash ≡ DIGEST_LENGTH
IsStartOperation profile base below (name_firstupdate name rand value) height = IsOneValue profile base below name value height
IsStartOperation profile base below (name_update name value) height = IsOneValue profile base below name value height

-- a make on top of those below: no higher than the base, of an outpoint that none of them makes
pub record IsStartMake (profile : Profile) (base : ℕ) (below : Log) (point : OutPoint) (operation : NameOperation) (height : ℕ) : Type 0 where
  pub low : height ≤ base
  pub one : coin_now below point ≡ None
  pub fits : IsStartOperation profile base below operation height

-- nothing but makes
abbrev pub AreStartMakes : Profile → ℕ → Log → Type 0
AreStartMakes profile base [] = Unit {0}
AreStartMakes profile base (Spend point ∷ below) = ⊥
AreStartMakes profile base (Make point operation height ∷ below) = IsStartMake profile base below point operation height × AreStartMakes profile base below

-- the list may stand before the first block on a base of this height
pub record IsStart (profile : Profile) (base : ℕ) (start : Log) : Type 0 where
  pub makes : AreStartMakes profile base start
  pub few : length start < 2 ^ 32
