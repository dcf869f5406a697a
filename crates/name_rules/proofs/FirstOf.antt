-- What the first refusal of a table does to a verdict.
use Rattle.std.proofs.Common.{◌≡◌, ◌≤◌, ℕ, true, false, cond, List, [], ◌∷◌, Some, None, slice_get, nat_lt, refl, sym, ◌∙◌, ap, subst, arith}
use Rattle.std.proofs.lemmas.Bool.Decides.{nat_tests}
use Rattle.name_script.specs.NameScript.{NameOperation}
use Rattle.nmc_base.specs.declared.chain_ends.Profile.{Profile}
use Rattle.nmc_base.specs.Expiry.{least_amount}
use Rattle.chain_names.specs.declared.coin.HeldCoin.{HeldCoin}
use Rattle.chain_names.specs.declared.refusal.RuleRefusal.{RuleRefusal}
use Rattle.chain_names.specs.declared.refusal.RuleRefusal.TheVariants.{Greedy}
use Rattle.chain_names.specs.Points.{point_at}
use Rattle.chain_names.specs.Coins.{Maps}
use Rattle.chain_names.specs.Verdict.{Verdict, Test, NameOutput, first_of, refused, kind_of, operation_tests, spent_tests, made_tests, by_input, by_output}
use Rattle.name_rules.specs.Refusals.{refusal_in}

pub first_of-refused : (tests : List Test) (verdict : Verdict) (refusal : RuleRefusal)
    → Some refusal ≡ refusal_in tests → first_of tests verdict ≡ refused refusal
first_of-refused [] verdict refusal e = cc
first_of-refused ((refusal_of, true) ∷ tests) verdict refusal e = cc
first_of-refused ((refusal_of, false) ∷ tests) verdict refusal e = first_of-refused tests verdict refusal e

pub first_of-passed : (tests : List Test) (verdict : Verdict) → None ≡ refusal_in tests → first_of tests verdict ≡ verdict
first_of-passed [] verdict e = refl
first_of-passed ((refusal_of, true) ∷ tests) verdict e = cc
first_of-passed ((refusal_of, false) ∷ tests) verdict e = first_of-passed tests verdict e

-- an output that passes its own table, where the first coin spent is this one
pub record Moves (profile : Profile) (output : NameOutput) (inputs : List HeldCoin) (operation : NameOperation) (held : HeldCoin) : Type 0 where
  pub enough : least_amount profile ≤ output.value
  pub does : output.operation ≡ operation
  pub passed : None ≡ refusal_in (operation_tests operation inputs)
  pub first : slice_get inputs 0 ≡ Some held

by_output-past : (profile : Profile) (maps : Maps) (height : ℕ) (txid : List ℕ) (output : NameOutput) (inputs : List HeldCoin) (held : HeldCoin)
    → least_amount profile ≤ output.value → None ≡ refusal_in (operation_tests output.operation inputs) → slice_get inputs 0 ≡ Some held
    → by_output profile maps height txid (output ∷ []) inputs
    ≡ first_of (spent_tests profile maps height output.operation held.coin)
    (first_of (made_tests maps (point_at txid output.place)) (kind_of output.operation output.place held.at))
by_output-past profile maps height txid output [] held enough passed first = cc
by_output-past profile maps height txid output (h ∷ more) held enough passed first =
    let not_greedy : nat_lt output.value (least_amount profile) ≡ false = grind (arith, nat_tests) in
    let same : h ≡ held = cc in
    let past : by_output profile maps height txid (output ∷ []) (h ∷ more) ≡ by_input profile maps height txid output (h ∷ more) =
    ap (λ b. cond b (refused Greedy) (first_of (operation_tests output.operation (h ∷ more)) (by_input profile maps height txid output (h ∷ more)))) not_greedy
    ∙ first_of-passed (operation_tests output.operation (h ∷ more)) (by_input profile maps height txid output (h ∷ more)) passed in
    subst (λ (x : HeldCoin). by_output profile maps height txid (output ∷ []) (h ∷ more)
    ≡ first_of (spent_tests profile maps height output.operation x.coin)
    (first_of (made_tests maps (point_at txid output.place)) (kind_of output.operation output.place x.at))) same past

-- what the two tables behind it say is the verdict
pub moves-ruled : (profile : Profile) (maps : Maps) (height : ℕ) (txid : List ℕ) (output : NameOutput) (inputs : List HeldCoin) (operation : NameOperation) (held : HeldCoin) (verdict : Verdict)
    → Moves profile output inputs operation held
    → verdict ≡ first_of (spent_tests profile maps height operation held.coin)
    (first_of (made_tests maps (point_at txid output.place)) (kind_of operation output.place held.at))
    → verdict ≡ by_output profile maps height txid (output ∷ []) inputs
moves-ruled profile maps height txid output inputs operation held verdict moves is =
    is ∙ sym (subst (λ (x : NameOperation). by_output profile maps height txid (output ∷ []) inputs
    ≡ first_of (spent_tests profile maps height x held.coin)
    (first_of (made_tests maps (point_at txid output.place)) (kind_of x output.place held.at))) moves.does
    (by_output-past profile maps height txid output inputs held moves.enough (subst (λ (x : NameOperation). None ≡ refusal_in (operation_tests x inputs)) (sym moves.does) moves.passed) moves.first))
