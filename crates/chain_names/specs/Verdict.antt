-- The rules on a transaction (Namecoin's consensus rules, CheckNameTransaction), as one table of refusals in their order.
use Rattle.std.specs.Prelude.{ℕ, suc, ◌+◌, Bool, true, false, not, ◌&&◌, ◌==◌, nat_lt, List, [], ◌∷◌, ◌++◌, length, Option, Some, None, cond}
use Rattle.std.specs.Option.{is_some}
use Rattle.std.specs.Str.{bytes_eq}
use Rattle.block_grammar.specs.Transaction.{TxInput, TxOutput, Transaction, txid_of}
use Rattle.hash160.specs.Hash160.{hash160}
use Rattle.name_script.specs.NameScript.{NameOperation, name_new, name_firstupdate, name_update}
use Rattle.name_script.specs.Reading.{name_op}
use Rattle.nmc_base.specs.declared.limits.TheConstants.{DIGEST_LENGTH, LONGEST_NAME, LONGEST_RAND, LONGEST_VALUE, MATURITY, NAME_VERSION}
use Rattle.nmc_base.specs.declared.hashes.OutPoint.{OutPoint}
use Rattle.nmc_base.specs.declared.chain_ends.Profile.{Profile}
use Rattle.nmc_base.specs.Expiry.{is_expired, least_amount}
use Rattle.chain_names.specs.declared.coin.Coin.{Coin}
use Rattle.chain_names.specs.declared.coin.Coin.TheVariants.{New, Named}
use Rattle.chain_names.specs.declared.coin.HeldCoin.{HeldCoin}
use Rattle.chain_names.specs.declared.coin.Item.{Item}
use Rattle.chain_names.specs.declared.refusal.RuleRefusal.{RuleRefusal}
use Rattle.chain_names.specs.declared.refusal.RuleRefusal.TheVariants.{MultipleNameInputs, MultipleNameOutputs, PlainWithNameInput, PlainWithNameOutput, NameWithoutOutput, Greedy, NewWithNameInput, NewWrongSize, UpdateWithoutInput, NameTooLong, ValueTooLong, UpdateOfNew, NameMismatch, FirstNotFromNew, Immature, RandTooLong, CommitMismatch, NameTaken, DuplicateOutpoint}
use Rattle.chain_names.specs.Points.{point_at, spent_by}
use Rattle.chain_names.specs.Coins.{Maps, entry_of}

-- what a transaction is to the rules
pub data Verdict : Type 0 where
  -- it has nothing to do with names
  plain : Verdict
  -- a commitment: its hash, and the place of the output
  commits : (hash : List ℕ) (place : ℕ) → Verdict
  -- a name is opened: name, value, place of the output, and the commitment's outpoint
  opens : (name value : List ℕ) (place : ℕ) (spent : OutPoint) → Verdict
  -- a name is given a new value, and the coin that it had is spent
  updates : (name value : List ℕ) (place : ℕ) (spent : OutPoint) → Verdict
  refused : RuleRefusal → Verdict

abbrev pub with_held : OutPoint → Option Coin → List HeldCoin → List HeldCoin
with_held point None held = held
with_held point (Some coin) held = record { at = point; coin = coin } ∷ held

-- the name inputs: those that spend a live coin, in order
abbrev pub name_inputs : (OutPoint → Option Coin) → List TxInput → List HeldCoin
name_inputs coins [] = []
name_inputs coins (input ∷ inputs) = with_held (spent_by input) (coins (spent_by input)) (name_inputs coins inputs)

-- a name output: its place, its amount and what its script does
pub record NameOutput : Type 0 where
  pub place : ℕ
  pub value : ℕ
  pub operation : NameOperation

abbrev pub with_output : ℕ → ℕ → Option NameOperation → List NameOutput → List NameOutput
with_output place value None outputs = outputs
with_output place value (Some operation) outputs = record { place = place; value = value; operation = operation } ∷ outputs

-- the name outputs from a place on: those with a name script, in order
abbrev pub name_outputs : ℕ → List TxOutput → List NameOutput
name_outputs place [] = []
name_outputs place (output ∷ outputs) = with_output place output.value (name_op output.script) (name_outputs (suc place) outputs)

abbrev pub is_new : NameOperation → Bool
is_new (name_new hash) = true
is_new (name_firstupdate name rand value) = false
is_new (name_update name value) = false

abbrev pub is_first : NameOperation → Bool
is_first (name_new hash) = false
is_first (name_firstupdate name rand value) = true
is_first (name_update name value) = false

abbrev pub is_update : NameOperation → Bool
is_update (name_new hash) = false
is_update (name_firstupdate name rand value) = false
is_update (name_update name value) = true

abbrev pub commitment_in : NameOperation → List ℕ
commitment_in (name_new hash) = hash
commitment_in (name_firstupdate name rand value) = []
commitment_in (name_update name value) = []

abbrev pub name_in : NameOperation → List ℕ
name_in (name_new hash) = []
name_in (name_firstupdate name rand value) = name
name_in (name_update name value) = name

abbrev pub rand_in : NameOperation → List ℕ
rand_in (name_new hash) = []
rand_in (name_firstupdate name rand value) = rand
rand_in (name_update name value) = []

abbrev pub value_in : NameOperation → List ℕ
value_in (name_new hash) = []
value_in (name_firstupdate name rand value) = value
value_in (name_update name value) = value

abbrev pub is_commitment : Coin → Bool
is_commitment (New hash height) = true
is_commitment (Named name height) = false

abbrev pub made_at : Coin → ℕ
made_at (New hash height) = height
made_at (Named name height) = height

-- the coin is a commitment to this message
abbrev pub commits_to : Coin → List ℕ → Bool
commits_to (New hash height) message = bytes_eq (hash160 message) hash.0
commits_to (Named name height) message = false

abbrev pub is_coin_of : Coin → List ℕ → Bool
is_coin_of (New hash height) name = false
is_coin_of (Named named height) name = bytes_eq name named

-- the name stands, and isn't expired at the height
abbrev pub is_taken : Profile → ℕ → Option Item → Bool
is_taken profile height None = false
is_taken profile height (Some item) = not (is_expired profile item.height height)

-- a refusal and whether its condition holds
abbrev pub Test : Type 0
Test = RuleRefusal × Bool

-- the first refusal whose condition holds, or what the transaction is without one
abbrev pub first_of : List Test → Verdict → Verdict
first_of [] verdict = verdict
first_of (test ∷ tests) verdict = cond test.1 (refused test.0) (first_of tests verdict)

-- of the version, the name inputs and the name outputs
abbrev pub count_tests : ℕ → List HeldCoin → List NameOutput → List Test
count_tests version inputs outputs =
    (MultipleNameInputs, nat_lt 1 (length inputs))
    ∷ (MultipleNameOutputs, nat_lt 1 (length outputs))
    ∷ (PlainWithNameInput, not (version == NAME_VERSION) && nat_lt 0 (length inputs))
    ∷ (PlainWithNameOutput, not (version == NAME_VERSION) && nat_lt 0 (length outputs))
    ∷ (NameWithoutOutput, (version == NAME_VERSION) && (length outputs == 0))
    ∷ []

-- of the operation, and whether there is a name input
abbrev pub operation_tests : NameOperation → List HeldCoin → List Test
operation_tests operation inputs =
    (NewWithNameInput, is_new operation && nat_lt 0 (length inputs))
    ∷ (NewWrongSize, is_new operation && not (length (commitment_in operation) == DIGEST_LENGTH))
    ∷ (UpdateWithoutInput, not (is_new operation) && (length inputs == 0))
    ∷ (NameTooLong, not (is_new operation) && nat_lt LONGEST_NAME (length (name_in operation)))
    ∷ (ValueTooLong, not (is_new operation) && nat_lt LONGEST_VALUE (length (value_in operation)))
    ∷ []

-- of the name output, and whether there is a name input
abbrev pub output_tests : ℕ → NameOutput → List HeldCoin → List Test
output_tests least output inputs = (Greedy, nat_lt output.value least) ∷ operation_tests output.operation inputs

-- of the operation and the coin that is spent
abbrev pub spent_tests : Profile → Maps → ℕ → NameOperation → Coin → List Test
spent_tests profile maps height operation coin =
    (UpdateOfNew, is_update operation && is_commitment coin)
    ∷ (NameMismatch, is_update operation && not (is_coin_of coin (name_in operation)))
    ∷ (FirstNotFromNew, is_first operation && not (is_commitment coin))
    ∷ (Immature, is_first operation && nat_lt height (made_at coin + MATURITY))
    ∷ (RandTooLong, is_first operation && nat_lt LONGEST_RAND (length (rand_in operation)))
    ∷ (CommitMismatch, is_first operation && not (commits_to coin (rand_in operation ++ name_in operation)))
    ∷ (NameTaken, is_first operation && is_taken profile height (entry_of (maps.names (name_in operation))))
    ∷ []

-- of the outpoint that is made
abbrev pub made_tests : Maps → OutPoint → List Test
made_tests maps point = (DuplicateOutpoint, is_some (maps.coins point)) ∷ []

abbrev pub kind_of : NameOperation → ℕ → OutPoint → Verdict
kind_of (name_new hash) place spent = commits hash place
kind_of (name_firstupdate name rand value) place spent = opens name value place spent
kind_of (name_update name value) place spent = updates name value place spent

-- with the name input, if there is one
abbrev pub by_input : Profile → Maps → ℕ → List ℕ → NameOutput → List HeldCoin → Verdict
by_input profile maps height txid output [] = first_of (made_tests maps (point_at txid output.place)) (commits (commitment_in output.operation) output.place)
by_input profile maps height txid output (held ∷ more) =
    first_of (spent_tests profile maps height output.operation held.coin)
    (first_of (made_tests maps (point_at txid output.place)) (kind_of output.operation output.place held.at))

-- with the name output, if there is one
abbrev pub by_output : Profile → Maps → ℕ → List ℕ → List NameOutput → List HeldCoin → Verdict
by_output profile maps height txid [] inputs = plain
by_output profile maps height txid (output ∷ more) inputs =
    first_of (output_tests (least_amount profile) output inputs) (by_input profile maps height txid output inputs)

-- the verdict on a transaction in a block of this height: the maps are those before it
abbrev pub verdict_by : Profile → Maps → ℕ → List ℕ → ℕ → List HeldCoin → List NameOutput → Verdict
verdict_by profile maps height txid version inputs outputs =
    first_of (count_tests version inputs outputs) (by_output profile maps height txid outputs inputs)

unfoldable pub verdict : Profile → Maps → ℕ → Transaction → Verdict
verdict profile maps height t =
    verdict_by profile maps height (txid_of t) t.version (name_inputs maps.coins t.inputs) (name_outputs 0 t.outputs)
