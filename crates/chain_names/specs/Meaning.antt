-- What a verdict says of the maps and of the transaction.
use Rattle.std.specs.Prelude.{◌≡◌, ℕ, ◌+◌, ◌≤◌, false, List, [], ◌∷◌, ◌++◌, length, Some, None}
use Rattle.block_grammar.specs.Transaction.{Transaction, txid_of}
use Rattle.hash160.specs.Hash160.{hash160}
use Rattle.name_script.specs.NameScript.{NameOperation, name_new, name_firstupdate, name_update}
use Rattle.nmc_base.specs.declared.limits.TheConstants.{DIGEST_LENGTH, LONGEST_NAME, LONGEST_RAND, LONGEST_VALUE, MATURITY, NAME_VERSION}
use Rattle.nmc_base.specs.declared.hashes.Hash20.{Hash20}
use Rattle.nmc_base.specs.declared.hashes.OutPoint.{OutPoint}
use Rattle.nmc_base.specs.declared.chain_ends.Profile.{Profile}
use Rattle.nmc_base.specs.Expiry.{least_amount}
use Rattle.chain_names.specs.declared.coin.Coin.{Coin}
use Rattle.chain_names.specs.declared.coin.Coin.TheVariants.{New, Named}
use Rattle.chain_names.specs.Points.{point_at}
use Rattle.chain_names.specs.Coins.{Maps, entry_of}
use Rattle.chain_names.specs.Verdict.{Verdict, plain, commits, opens, updates, refused, name_inputs, name_outputs, is_taken}

-- no input spends a live coin, and no output has a name script
pub record IsPlain (maps : Maps) (t : Transaction) : Type 0 where
  pub inputs : name_inputs maps.coins t.inputs ≡ []
  pub outputs : name_outputs 0 t.outputs ≡ []

-- it has the version of a name transaction; its one name output stands at the place, does this and has at least the
-- least amount; and there is no coin at its outpoint
pub record HasOutput (profile : Profile) (maps : Maps) (t : Transaction) (place : ℕ) (operation : NameOperation) : Type 0 where
  pub version : t.version ≡ NAME_VERSION
  pub amount : ℕ
  pub outputs : name_outputs 0 t.outputs ≡ record { place = place; value = amount; operation = operation } ∷ []
  pub enough : least_amount profile ≤ amount
  pub fresh : maps.coins (point_at (txid_of t) place) ≡ None

-- its one name input is the outpoint, which has this coin
pub record HasInput (maps : Maps) (t : Transaction) (spent : OutPoint) (coin : Coin) : Type 0 where
  pub inputs : name_inputs maps.coins t.inputs ≡ record { at = spent; coin = coin } ∷ []
  pub held : maps.coins spent ≡ Some coin

pub record FitsName (name value : List ℕ) : Type 0 where
  pub name_length : length name ≤ LONGEST_NAME
  pub value_length : length value ≤ LONGEST_VALUE

pub record Commits (profile : Profile) (maps : Maps) (t : Transaction) (hash : List ℕ) (place : ℕ) : Type 0 where
  pub output : HasOutput profile maps t place (name_new hash)
  pub inputs : name_inputs maps.coins t.inputs ≡ []
  pub hash_length : length hash ≡ DIGEST_LENGTH

-- the coin spent is a commitment to a salt and the name, that has stood for long enough, and the name doesn't stand
pub record Opens (profile : Profile) (maps : Maps) (height : ℕ) (t : Transaction) (name value : List ℕ) (place : ℕ) (spent : OutPoint) : Type 0 where
  pub rand : List ℕ
  pub hash : Hash20
  pub made : ℕ
  pub output : HasOutput profile maps t place (name_firstupdate name rand value)
  pub input : HasInput maps t spent (New hash made)
  pub fits : FitsName name value
  pub rand_length : length rand ≤ LONGEST_RAND
  pub mature : made + MATURITY ≤ height
  pub committed : hash160 (rand ++ name) ≡ hash.0
  pub untaken : is_taken profile height (entry_of (maps.names name)) ≡ false

-- the coin spent is that of the name
pub record Updates (profile : Profile) (maps : Maps) (t : Transaction) (name value : List ℕ) (place : ℕ) (spent : OutPoint) : Type 0 where
  pub made : ℕ
  pub output : HasOutput profile maps t place (name_update name value)
  pub input : HasInput maps t spent (Named name made)
  pub fits : FitsName name value

-- what a verdict on the transaction says
abbrev pub Means : Profile → Maps → ℕ → Transaction → Verdict → Type 0
Means profile maps height t plain = IsPlain maps t
Means profile maps height t (commits hash place) = Commits profile maps t hash place
Means profile maps height t (opens name value place spent) = Opens profile maps height t name value place spent
Means profile maps height t (updates name value place spent) = Updates profile maps t name value place spent
Means profile maps height t (refused refusal) = Unit {0}
