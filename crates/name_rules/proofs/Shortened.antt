-- The verdict needs of the lists of name inputs and name outputs only the first item, and whether there are more.
use Rattle.std.proofs.Common.{◌≡◌, ℕ, true, false, nat_lt, List, [], ◌∷◌, length, refl, sym, ◌∙◌, arith}
use Rattle.std.proofs.lemmas.Bool.{lt-ltb}
use Rattle.block_grammar.specs.Transaction.{TxInput, TxOutput, Transaction, txid_of}
use Rattle.nmc_base.specs.declared.chain_ends.Profile.{Profile}
use Rattle.chain_names.specs.declared.coin.HeldCoin.{HeldCoin}
use Rattle.chain_names.specs.declared.refusal.RuleRefusal.TheVariants.{MultipleNameInputs, MultipleNameOutputs}
use Rattle.chain_names.specs.Coins.{Maps}
use Rattle.chain_names.specs.Verdict.{NameOutput, refused, name_inputs, name_outputs, verdict_by, verdict}
use Rattle.name_rules.specs.Found.{shortened}

two_or_more : {A : Type 0} (x y : A) (more : List A) → nat_lt 1 (length (x ∷ y ∷ more)) ≡ true
two_or_more x y more = lt-ltb 1 (length (x ∷ y ∷ more)) (omega arith)

many_inputs : (profile : Profile) (maps : Maps) (height : ℕ) (txid : List ℕ) (version : ℕ) (inputs : List HeldCoin) (outputs : List NameOutput)
    → nat_lt 1 (length inputs) ≡ true → verdict_by profile maps height txid version inputs outputs ≡ refused MultipleNameInputs
many_inputs profile maps height txid version inputs outputs e = rw e refl

many_outputs : (profile : Profile) (maps : Maps) (height : ℕ) (txid : List ℕ) (version : ℕ) (inputs : List HeldCoin) (outputs : List NameOutput)
    → nat_lt 1 (length inputs) ≡ false → nat_lt 1 (length outputs) ≡ true
    → verdict_by profile maps height txid version inputs outputs ≡ refused MultipleNameOutputs
many_outputs profile maps height txid version inputs outputs i e = rw (i, e) refl

few_inputs : (profile : Profile) (maps : Maps) (height : ℕ) (txid : List ℕ) (version : ℕ) (inputs : List HeldCoin) (outputs : List NameOutput)
    → nat_lt 1 (length inputs) ≡ false
    → verdict_by profile maps height txid version inputs (shortened outputs) ≡ verdict_by profile maps height txid version inputs outputs
few_inputs profile maps height txid version inputs [] e = refl
few_inputs profile maps height txid version inputs (o ∷ []) e = refl
few_inputs profile maps height txid version inputs (o ∷ next ∷ more) e =
    many_outputs profile maps height txid version inputs (o ∷ o ∷ []) e refl
    ∙ sym (many_outputs profile maps height txid version inputs (o ∷ next ∷ more) e (two_or_more o next more))

verdict_by-shortened : (profile : Profile) (maps : Maps) (height : ℕ) (txid : List ℕ) (version : ℕ) (inputs : List HeldCoin) (outputs : List NameOutput)
    → verdict_by profile maps height txid version (shortened inputs) (shortened outputs) ≡ verdict_by profile maps height txid version inputs outputs
verdict_by-shortened profile maps height txid version [] outputs = few_inputs profile maps height txid version [] outputs refl
verdict_by-shortened profile maps height txid version (i ∷ []) outputs = few_inputs profile maps height txid version (i ∷ []) outputs refl
verdict_by-shortened profile maps height txid version (i ∷ next ∷ more) outputs =
    many_inputs profile maps height txid version (i ∷ i ∷ []) (shortened outputs) refl
    ∙ sym (many_inputs profile maps height txid version (i ∷ next ∷ more) outputs (two_or_more i next more))

-- the verdict, of what was found
pub verdict-found : (profile : Profile) (maps : Maps) (height : ℕ) (t : Transaction) (txid : List ℕ) (version : ℕ) (ins : List TxInput) (outs : List TxOutput) (inputs : List HeldCoin) (outputs : List NameOutput)
    → txid ≡ txid_of t → version ≡ t.version → ins ≡ t.inputs → outs ≡ t.outputs
    → inputs ≡ shortened (name_inputs maps.coins ins) → outputs ≡ shortened (name_outputs 0 outs)
    → verdict_by profile maps height txid version inputs outputs ≡ verdict profile maps height t
unfolding verdict
verdict-found profile maps height t txid version ins outs inputs outputs id v i o is os =
    rw (id, v, is, os, i, o) (verdict_by-shortened profile maps height (txid_of t) t.version (name_inputs maps.coins t.inputs) (name_outputs 0 t.outputs))
