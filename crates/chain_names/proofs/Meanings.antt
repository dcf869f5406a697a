-- What the rules' verdict on a transaction says, read off the tables.
use Rattle.std.proofs.Common.{◌≡◌, ◌≤◌, ◌+◌, ℕ, Bool, true, false, not, ◌&&◌, ◌==◌, nat_lt, List, [], ◌∷◌, ◌++◌, length, Option, Some, None, refl, sym, ◌∙◌, ap, subst, arith}
use Rattle.std.specs.Str.{bytes_eq}
use Rattle.std.specs.Cmp.Lexicographic.{bytes_decides}
use Rattle.std.proofs.lemmas.Bool.{not-false, true≢false}
use Rattle.std.proofs.lemmas.Bool.Decides.{nat_tests}
use Rattle.block_grammar.specs.Transaction.{TxInput, Transaction, txid_of}
use Rattle.hash160.specs.Hash160.{hash160}
use Rattle.name_script.specs.NameScript.{NameOperation, name_new, name_firstupdate, name_update}
use Rattle.nmc_base.specs.declared.limits.TheConstants.{DIGEST_LENGTH, LONGEST_NAME, LONGEST_RAND, LONGEST_VALUE, MATURITY, NAME_VERSION}
use Rattle.nmc_base.specs.declared.hashes.Hash20.{Hash20}
use Rattle.nmc_base.specs.declared.hashes.OutPoint.{OutPoint}
use Rattle.nmc_base.specs.declared.chain_ends.Profile.{Profile}
use Rattle.nmc_base.specs.Expiry.{least_amount}
use Rattle.nmc_base.proofs.OptionLemmas.{none_there}
use Rattle.chain_names.specs.declared.coin.Coin.{Coin}
use Rattle.chain_names.specs.declared.coin.Coin.TheVariants.{New, Named}
use Rattle.chain_names.specs.declared.coin.HeldCoin.{HeldCoin}
use Rattle.chain_names.specs.Points.{point_at, spent_by}
use Rattle.chain_names.specs.Coins.{Maps}
use Rattle.chain_names.specs.Verdict.{Verdict, plain, commits, opens, updates, refused, Test, NameOutput, with_held, name_inputs, name_outputs, first_of, count_tests, output_tests, spent_tests, made_tests, by_input, by_output, verdict_by, verdict, is_commitment, is_coin_of, commits_to, made_at, commitment_in, kind_of}
use Rattle.chain_names.proofs.Shown.{is_refused}
use Rattle.chain_names.specs.Meaning.{IsPlain, HasOutput, HasInput, FitsName, Means}

-- ---- a table of which no test holds

abbrev NoneHolds : List Test → Type 0
NoneHolds [] = Unit {0}
NoneHolds (test ∷ tests) = (test.1 ≡ false) × NoneHolds tests

passed : (tests : List Test) (v : Verdict) → is_refused (first_of tests v) ≡ false → NoneHolds tests × (first_of tests v ≡ v)
passed [] v e = (tt, refl)
passed ((refusal, true) ∷ tests) v e = absurd (cc)
passed ((refusal, false) ∷ tests) v e = let rest = passed tests v e in ((refl, rest.0), rest.1)

-- ---- what a test says

not_less : (a b : ℕ) → nat_lt a b ≡ false → b ≤ a
not_less a b e = grind (arith, nat_tests)

not_unequal : (a b : ℕ) → not (a == b) ≡ false → a ≡ b
not_unequal a b e = grind (arith, nat_tests)

not_unequal_bytes : (a b : List ℕ) → not (bytes_eq a b) ≡ false → a ≡ b
not_unequal_bytes a b e = (bytes_decides a b).0 (not-false (bytes_eq a b) e)

not_one : {A : Type 0} (x y : A) (more : List A) → nat_lt 1 (length (x ∷ y ∷ more)) ≡ false → ⊥
not_one x y more e = let short : length (x ∷ y ∷ more) ≤ 1 = not_less 1 (length (x ∷ y ∷ more)) e in omega arith

not_any : {A : Type 0} (xs : List A) → nat_lt 0 (length xs) ≡ false → xs ≡ []
not_any [] e = refl
not_any (x ∷ xs) e = let short : length (x ∷ xs) ≤ 0 = not_less 0 (length (x ∷ xs)) e in absurd (omega arith)

and_true : (b : Bool) → b && true ≡ false → b ≡ false
and_true true e = e
and_true false e = e

-- a version that isn't that of names, or a test that holds of none
unnamed : (named there : Bool) → not named && there ≡ false → named && true ≡ false → there ≡ false
unnamed true there a b = absurd (true≢false b)
unnamed false there a b = a

named_version : (version : ℕ) → not (version == NAME_VERSION) && true ≡ false → version ≡ NAME_VERSION
named_version version e = not_unequal version NAME_VERSION (and_true (not (version == NAME_VERSION)) e)

-- ---- a name input is a live coin

abbrev IsHeld : (OutPoint → Option Coin) → List HeldCoin → OutPoint → Coin → List HeldCoin → Type 0
IsHeld coins found point coin more = found ≡ record { at = point; coin = coin } ∷ more → coins point ≡ Some coin

held_first : (coins : OutPoint → Option Coin) (spent point : OutPoint) (coin : Coin) (found : Option Coin) (held more : List HeldCoin)
    → coins spent ≡ found → IsHeld coins held point coin more → IsHeld coins (with_held spent found held) point coin more
held_first coins spent point coin None held more is rest e = rest e
held_first coins spent point coin (Some there) held more is rest e =
    let here : HeldCoin = record { at = spent; coin = there } in
    let wanted : HeldCoin = record { at = point; coin = coin } in
    let same : here ≡ wanted = cc in
    ap coins (sym (ap (λ (h : HeldCoin). h.at) same)) ∙ is ∙ ap (λ (h : HeldCoin). Some h.coin) same

held_there : (coins : OutPoint → Option Coin) (inputs : List TxInput) (point : OutPoint) (coin : Coin) (more : List HeldCoin)
    → IsHeld coins (name_inputs coins inputs) point coin more
held_there coins [] point coin more e = absurd (cc)
held_there coins (input ∷ inputs) point coin more e =
    held_first coins (spent_by input) point coin (coins (spent_by input)) (name_inputs coins inputs) more refl (held_there coins inputs point coin more) e

-- ---- what is spent

record IsNew (coin : Coin) : Type 0 where
  hash : Hash20
  made : ℕ
  is : coin ≡ New hash made

new_coin : (coin : Coin) → not (is_commitment coin) ≡ false → IsNew coin
new_coin (New hash made) e = record { hash = hash; made = made; is = refl }
new_coin (Named name made) e = absurd (true≢false e)

record IsCoinOf (name : List ℕ) (coin : Coin) : Type 0 where
  made : ℕ
  is : coin ≡ Named name made

coin_of_name : (name : List ℕ) (coin : Coin) → not (is_coin_of coin name) ≡ false → IsCoinOf name coin
coin_of_name name (New hash made) e = absurd (true≢false e)
coin_of_name name (Named named made) e = record { made = made; is = ap (λ (n : List ℕ). Named n made) (sym (not_unequal_bytes name named e)) }

-- ---- one name output

-- the output, where it does this
abbrev doing : NameOutput → NameOperation → NameOutput
doing output operation = record { place = output.place; value = output.value; operation = operation }

-- the version, and what the lists of name inputs and name outputs are; and the output isn't refused
record Judged (profile : Profile) (maps : Maps) (height : ℕ) (t : Transaction) (output : NameOutput) (inputs : List HeldCoin) : Type 0 where
  version : t.version ≡ NAME_VERSION
  inputs_are : name_inputs maps.coins t.inputs ≡ inputs
  outputs_are : name_outputs 0 t.outputs ≡ output ∷ []
  accepted : is_refused (by_output profile maps height (txid_of t) (output ∷ []) inputs) ≡ false

module _ (profile : Profile) (maps : Maps) (height : ℕ) (t : Transaction) where
  -- ---- the tests that it passes

  -- of itself
  of_output : (output : NameOutput) (inputs : List HeldCoin) → Judged profile maps height t output inputs
      → NoneHolds (output_tests (least_amount profile) output inputs)
  of_output output inputs judged = (passed (output_tests (least_amount profile) output inputs) (by_input profile maps height (txid_of t) output inputs) judged.accepted).0

  -- without a name input: of the outpoint that is made
  record PassesAlone (output : NameOutput) : Type 0 where
    made : NoneHolds (made_tests maps (point_at (txid_of t) output.place))
    says : by_output profile maps height (txid_of t) (output ∷ []) [] ≡ commits (commitment_in output.operation) output.place

  passes_alone : (output : NameOutput) → Judged profile maps height t output [] → PassesAlone output
  passes_alone output judged =
      let tests = passed (output_tests (least_amount profile) output []) (by_input profile maps height (txid_of t) output []) judged.accepted in
      let free =
      passed (made_tests maps (point_at (txid_of t) output.place)) (commits (commitment_in output.operation) output.place) (ap is_refused (sym tests.1) ∙ judged.accepted) in
      record { made = free.0; says = tests.1 ∙ free.1 }

  -- with one: of the coin that is spent, and of the outpoint that is made
  record Passes (output : NameOutput) (held : HeldCoin) : Type 0 where
    spent : NoneHolds (spent_tests profile maps height output.operation held.coin)
    made : NoneHolds (made_tests maps (point_at (txid_of t) output.place))
    says : by_output profile maps height (txid_of t) (output ∷ []) (held ∷ []) ≡ kind_of output.operation output.place held.at

  passes : (output : NameOutput) (held : HeldCoin) → Judged profile maps height t output (held ∷ []) → Passes output held
  passes output held judged =
      let kind = kind_of output.operation output.place held.at in
      let free_tests = made_tests maps (point_at (txid_of t) output.place) in
      let tests = passed (output_tests (least_amount profile) output (held ∷ [])) (by_input profile maps height (txid_of t) output (held ∷ [])) judged.accepted in
      let spent = passed (spent_tests profile maps height output.operation held.coin) (first_of free_tests kind) (ap is_refused (sym tests.1) ∙ judged.accepted) in
      let free = passed free_tests kind (ap is_refused (sym (tests.1 ∙ spent.1)) ∙ judged.accepted) in
      record { spent = spent.0; made = free.0; says = tests.1 ∙ spent.1 ∙ free.1 }

  -- ---- what they say

  has_output : (output : NameOutput) (inputs : List HeldCoin) → Judged profile maps height t output inputs
      → NoneHolds (made_tests maps (point_at (txid_of t) output.place)) → HasOutput profile maps t output.place output.operation
  has_output output inputs judged made = record {
    version = judged.version;
    amount = output.value;
    outputs = judged.outputs_are;
    enough = not_less output.value (least_amount profile) (of_output output inputs judged).0;
    fresh = none_there (maps.coins (point_at (txid_of t) output.place)) made.0;
  }

  has_input : (held : HeldCoin) (coin : Coin) → name_inputs maps.coins t.inputs ≡ held ∷ [] → held.coin ≡ coin → HasInput maps t held.at coin
  has_input held coin e is =
      let inputs = e ∙ ap (λ (c : Coin). record { at = held.at; coin = c } ∷ []) is in
      record { inputs = inputs; held = held_there maps.coins t.inputs held.at coin [] inputs }

  fits_name : (name value : List ℕ) → nat_lt LONGEST_NAME (length name) ≡ false → nat_lt LONGEST_VALUE (length value) ≡ false → FitsName name value
  fits_name name value n v = record { name_length = not_less LONGEST_NAME (length name) n; value_length = not_less LONGEST_VALUE (length value) v }

  commits_says : (hash : List ℕ) (output : NameOutput) → Judged profile maps height t (doing output (name_new hash)) []
      → Means profile maps height t (by_output profile maps height (txid_of t) (doing output (name_new hash) ∷ []) [])
  commits_says hash output judged =
      let does = doing output (name_new hash) in
      let alone = passes_alone does judged in
      subst (Means profile maps height t) (sym alone.says) (record {
        output = has_output does [] judged alone.made;
        inputs = judged.inputs_are;
        hash_length = not_unequal (length hash) DIGEST_LENGTH (of_output does [] judged).1.1.0;
      })

  updates_says : (name value : List ℕ) (output : NameOutput) (held : HeldCoin) → Judged profile maps height t (doing output (name_update name value)) (held ∷ [])
      → Means profile maps height t (by_output profile maps height (txid_of t) (doing output (name_update name value) ∷ []) (held ∷ []))
  updates_says name value output held judged =
      let does = doing output (name_update name value) in
      let tests = of_output does (held ∷ []) judged in
      let all = passes does held judged in
      let own = coin_of_name name held.coin all.spent.1.0 in
      subst (Means profile maps height t) (sym all.says) (record {
        made = own.made;
        output = has_output does (held ∷ []) judged all.made;
        input = has_input held (Named name own.made) judged.inputs_are own.is;
        fits = fits_name name value tests.1.1.1.1.0 tests.1.1.1.1.1.0;
      })

  opens_says : (name rand value : List ℕ) (output : NameOutput) (held : HeldCoin)
      → Judged profile maps height t (doing output (name_firstupdate name rand value)) (held ∷ [])
      → Means profile maps height t (by_output profile maps height (txid_of t) (doing output (name_firstupdate name rand value) ∷ []) (held ∷ []))
  opens_says name rand value output held judged =
      let does = doing output (name_firstupdate name rand value) in
      let tests = of_output does (held ∷ []) judged in
      let all = passes does held judged in
      let spent = all.spent.1.1 in
      let new = new_coin held.coin spent.0 in
      subst (Means profile maps height t) (sym all.says) (record {
        rand = rand;
        hash = new.hash;
        made = new.made;
        output = has_output does (held ∷ []) judged all.made;
        input = has_input held (New new.hash new.made) judged.inputs_are new.is;
        fits = fits_name name value tests.1.1.1.1.0 tests.1.1.1.1.1.0;
        rand_length = not_less LONGEST_RAND (length rand) spent.1.1.0;
        mature = not_less height (new.made + MATURITY) (subst (λ (c : Coin). nat_lt height (made_at c + MATURITY) ≡ false) new.is spent.1.0);
        committed = not_unequal_bytes (hash160 (rand ++ name)) new.hash.0 (subst (λ (c : Coin). not (commits_to c (rand ++ name)) ≡ false) new.is spent.1.1.1.0);
        untaken = spent.1.1.1.1.0;
      })

  -- ---- by what the output does, and by how many name inputs there are

  output_says : (operation : NameOperation) (output : NameOutput) (inputs : List HeldCoin) → Judged profile maps height t (doing output operation) inputs
      → nat_lt 1 (length inputs) ≡ false → Means profile maps height t (by_output profile maps height (txid_of t) (doing output operation ∷ []) inputs)
  output_says (name_new hash) output [] judged one = commits_says hash output judged
  output_says (name_new hash) output (held ∷ []) judged one = absurd (true≢false (of_output (doing output (name_new hash)) (held ∷ []) judged).1.0)
  output_says (name_firstupdate name rand value) output [] judged one =
      absurd (true≢false (of_output (doing output (name_firstupdate name rand value)) [] judged).1.1.1.0)
  output_says (name_firstupdate name rand value) output (held ∷ []) judged one = opens_says name rand value output held judged
  output_says (name_update name value) output [] judged one = absurd (true≢false (of_output (doing output (name_update name value)) [] judged).1.1.1.0)
  output_says (name_update name value) output (held ∷ []) judged one = updates_says name value output held judged
  output_says operation output (held ∷ next ∷ more) judged one = absurd (not_one held next more one)

-- ---- of the whole

no_output_says : (profile : Profile) (maps : Maps) (height : ℕ) (t : Transaction) (inputs : List HeldCoin)
    → name_inputs maps.coins t.inputs ≡ inputs → name_outputs 0 t.outputs ≡ []
    → not (t.version == NAME_VERSION) && nat_lt 0 (length inputs) ≡ false → (t.version == NAME_VERSION) && true ≡ false → IsPlain maps t
no_output_says profile maps height t inputs ins outs plain_input named = record {
  inputs = ins ∙ not_any inputs (unnamed (t.version == NAME_VERSION) (nat_lt 0 (length inputs)) plain_input named);
  outputs = outs;
}

lists_say : (profile : Profile) (maps : Maps) (height : ℕ) (t : Transaction) (inputs : List HeldCoin) (outputs : List NameOutput)
    → name_inputs maps.coins t.inputs ≡ inputs → name_outputs 0 t.outputs ≡ outputs
    → is_refused (verdict_by profile maps height (txid_of t) t.version inputs outputs) ≡ false
    → Means profile maps height t (verdict_by profile maps height (txid_of t) t.version inputs outputs)
lists_say profile maps height t inputs [] ins outs accepted =
    let tests = passed (count_tests t.version inputs []) plain accepted in
    subst (Means profile maps height t) (sym tests.1) (no_output_says profile maps height t inputs ins outs tests.0.1.1.0 tests.0.1.1.1.1.0)
lists_say profile maps height t inputs (output ∷ []) ins outs accepted =
    let tests = passed (count_tests t.version inputs (output ∷ [])) (by_output profile maps height (txid_of t) (output ∷ []) inputs) accepted in
    let judged : Judged profile maps height t output inputs = record {
      version = named_version t.version tests.0.1.1.1.0;
      inputs_are = ins;
      outputs_are = outs;
      accepted = ap is_refused (sym tests.1) ∙ accepted;
    } in
    subst (Means profile maps height t) (sym tests.1) (output_says profile maps height t output.operation output inputs judged tests.0.0)
lists_say profile maps height t inputs (output ∷ next ∷ more) ins outs accepted =
    let tests = passed (count_tests t.version inputs (output ∷ next ∷ more)) (by_output profile maps height (txid_of t) (output ∷ next ∷ more) inputs) accepted in
    absurd (not_one output next more tests.0.1.0)

refused_says : (profile : Profile) (maps : Maps) (height : ℕ) (t : Transaction) (v : Verdict) → (is_refused v ≡ false → Means profile maps height t v)
    → Means profile maps height t v
refused_says profile maps height t plain says = says refl
refused_says profile maps height t (commits hash place) says = says refl
refused_says profile maps height t (opens name value place spent) says = says refl
refused_says profile maps height t (updates name value place spent) says = says refl
refused_says profile maps height t (refused refusal) says = tt

pub verdict_means : (profile : Profile) (maps : Maps) (height : ℕ) (t : Transaction) → Means profile maps height t (verdict profile maps height t)
unfolding verdict
verdict_means profile maps height t =
    refused_says profile maps height t (verdict profile maps height t)
    (lists_say profile maps height t (name_inputs maps.coins t.inputs) (name_outputs 0 t.outputs) refl refl)
