-- The verdict on a name transaction.
use Rattle.std.proofs.Common.{◌≡◌, ℕ, ◌+◌, ◌≤◌, false, List, [], ◌++◌, length, Option, Some, None, refl, ap, ◌∙◌}
use Rattle.std.proofs.lemmas.Bool.{le-ltb}
use Rattle.hash160.specs.Hash160.{hash160}
use Rattle.block_grammar.specs.Transaction.{txid_of}
use Rattle.name_script.specs.NameScript.{NameOperation, name_new, name_firstupdate, name_update}
use Rattle.name_script.specs.Reading.{name_op}
use Rattle.nmc_base.specs.declared.limits.TheConstants.{NAME_VERSION, LONGEST_NAME, LONGEST_RAND, LONGEST_VALUE}
use Rattle.nmc_base.specs.declared.hashes.OutPoint.{OutPoint}
use Rattle.nmc_base.specs.declared.chain_ends.Profile.TheVariants.{Regtest}
use Rattle.chain_names.specs.declared.coin.Coin.{Coin}
use Rattle.chain_names.specs.declared.coin.Coin.TheVariants.{New, Named}
use Rattle.chain_names.specs.Coins.{Maps, entry_of}
use Rattle.chain_names.specs.Verdict.{Verdict, commits, opens, updates, verdict, verdict_by, with_held, with_output, is_taken}
use Rattle.chain_names.proofs.Changed.{bytes_eq-self}
use Rattle.block_maker.specs.Script.{script_of, HasShortPushes}
use Rattle.block_maker.proofs.Scripts.{script_read}
use Rattle.block_maker.specs.Generated.{Making, name_transaction}
use Rattle.generated_chain.specs.Stands.{output_of}

module _ (maps : Maps) (height : ℕ) (making : Making) where
  abbrev txid : List ℕ
  txid = txid_of (name_transaction making)

  -- by the coin that it spends, and its operation
  abbrev by_parts : Option Coin → Option NameOperation → Verdict
  by_parts coin operation = verdict_by Regtest maps height txid NAME_VERSION (with_held making.spent coin []) (with_output 0 1000000 operation [])

  pub verdict_is : (coin : Option Coin) → maps.coins making.spent ≡ coin → HasShortPushes making.operation
      → verdict Regtest maps height (name_transaction making) ≡ by_parts coin (Some making.operation)
  unfolding verdict name_transaction
  verdict_is coin held short =
      ap (λ (c : Option Coin). by_parts c (name_op (script_of making.operation))) held
      ∙ ap (λ (o : Option NameOperation). by_parts coin o) (script_read making.operation short)

module _ (maps : Maps) (height : ℕ) (spent : OutPoint) where
  pub committing : (hash : List ℕ) → HasShortPushes (name_new hash) → maps.coins spent ≡ None → length hash ≡ 20
      → maps.coins (output_of (record { operation = name_new hash; spent = spent })) ≡ None
      → verdict Regtest maps height (name_transaction (record { operation = name_new hash; spent = spent })) ≡ commits hash 0
  committing hash short free len fresh =
      verdict_is maps height (record { operation = name_new hash; spent = spent }) None free short ∙ rw (len, fresh) refl

  -- what opening a name takes, by the coin of its commitment
  pub record CanOpen (name rand value : List ℕ) (made : ℕ) : Type 0 where
    pub short : HasShortPushes (name_firstupdate name rand value)
    pub coin : maps.coins spent ≡ Some (New (record { 0 = hash160 (rand ++ name) }) made)
    pub name_length : length name ≤ LONGEST_NAME
    pub rand_length : length rand ≤ LONGEST_RAND
    pub value_length : length value ≤ LONGEST_VALUE
    pub old : made + 12 ≤ height
    pub untaken : is_taken Regtest height (entry_of (maps.names name)) ≡ false
    pub fresh : maps.coins (output_of (record { operation = name_firstupdate name rand value; spent = spent })) ≡ None

  pub opening : (name rand value : List ℕ) (made : ℕ) → CanOpen name rand value made
      → verdict Regtest maps height (name_transaction (record { operation = name_firstupdate name rand value; spent = spent })) ≡ opens name value 0 spent
  opening name rand value made can =
      verdict_is maps height (record { operation = name_firstupdate name rand value; spent = spent }) (Some (New (record { 0 = hash160 (rand ++ name) }) made)) can.coin can.short
      ∙ rw (
        le-ltb LONGEST_NAME (length name) can.name_length,
        le-ltb LONGEST_VALUE (length value) can.value_length,
        le-ltb height (made + 12) can.old,
        le-ltb LONGEST_RAND (length rand) can.rand_length,
        bytes_eq-self (hash160 (rand ++ name)),
        can.untaken,
        can.fresh,
      ) refl

  -- what updating one takes, by its coin
  pub record CanUpdate (name value : List ℕ) (made : ℕ) : Type 0 where
    pub short : HasShortPushes (name_update name value)
    pub coin : maps.coins spent ≡ Some (Named name made)
    pub name_length : length name ≤ LONGEST_NAME
    pub value_length : length value ≤ LONGEST_VALUE
    pub fresh : maps.coins (output_of (record { operation = name_update name value; spent = spent })) ≡ None

  pub updating : (name value : List ℕ) (made : ℕ) → CanUpdate name value made
      → verdict Regtest maps height (name_transaction (record { operation = name_update name value; spent = spent })) ≡ updates name value 0 spent
  updating name value made can =
      verdict_is maps height (record { operation = name_update name value; spent = spent }) (Some (Named name made)) can.coin can.short
      ∙ rw (le-ltb LONGEST_NAME (length name) can.name_length, le-ltb LONGEST_VALUE (length value) can.value_length, bytes_eq-self name, can.fresh) refl
