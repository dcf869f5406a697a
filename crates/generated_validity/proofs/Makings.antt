-- What a run's blocks make: each has pushes for its parts, and tells its height.
use Rattle.std.proofs.Common.{◌≡◌, ◌≢◌, ℕ, suc, ◌<◌, ◌≤◌, List, [], ◌∷◌, ◌++◌, length, Some, refl, sym, ap, subst, ◌∙◌, arith}
use Rattle.sha2.specs.Sha256.{sha256}
use Rattle.hash160.specs.Hash160.{hash160}
use Rattle.hash160.proofs.Lengths.{length-ripemd160}
use Rattle.block_grammar.specs.Transaction.{TxInput, TxOutput, Transaction}
use Rattle.name_script.specs.NameScript.{NameOperation, name_new, name_firstupdate, name_update}
use Rattle.name_script.specs.Reading.{name_op}
use Rattle.nmc_base.specs.declared.hashes.OutPoint.{OutPoint}
use Rattle.chain_names.specs.Meaning.{FitsName}
use Rattle.block_maker.specs.Script.{script_of, HasShortPushes}
use Rattle.block_maker.proofs.Scripts.{script_read}
use Rattle.block_maker.specs.Generated.{Making, name_transaction}
use Rattle.generated_chain.specs.Texts.{name_text, rand_text, value_text}
use Rattle.generated_chain.specs.Stands.{deed_at, making_by, nowhere}
use Rattle.generated_chain.specs.Blocks.{number_at, drawn_stand}
use Rattle.generated_chain.specs.declared.stand.Deed.{Deed}
use Rattle.generated_chain.specs.declared.stand.Deed.TheVariants.{Nothing, Commit, Open, Update}
use Rattle.generated_validity.specs.Carried.{making_behind}
use Rattle.generated_validity.proofs.Names.{name_length, value_length, height_of_value}

-- the height, in what is spent or in the value
abbrev Tells : ℕ → OutPoint → NameOperation → Type 0
Tells height spent (name_new hash) = spent.index ≡ height
Tells height spent (name_firstupdate name rand value) = value ≡ value_text height
Tells height spent (name_update name value) = value ≡ value_text height

-- texts that are no longer than the rules on names let them be
abbrev pub HasShortTexts : NameOperation → Type 0
HasShortTexts (name_new hash) = length hash ≤ 255
HasShortTexts (name_firstupdate name rand value) = FitsName name value
HasShortTexts (name_update name value) = FitsName name value

pub record IsOwn (height : ℕ) (making : Making) : Type 0 where
  pub short : HasShortPushes making.operation
  pub texts : HasShortTexts making.operation
  tells : Tells height making.spent making.operation

pub commitment_length : (message : List ℕ) → length (hash160 message) ≡ 20
commitment_length message = length-ripemd160 (sha256 message)

pub new_short : (message : List ℕ) → HasShortPushes (name_new (hash160 message))
new_short message = (omega (arith, commitment_length message), tt)

pub first_short : (number rand height : ℕ) → number < 64 → HasShortPushes (name_firstupdate (name_text number) (rand_text rand) (value_text height))
first_short number rand height low = (omega (arith, name_length number low), (omega arith, (omega (arith, value_length height), tt)))

pub update_short : (number height : ℕ) → number < 64 → HasShortPushes (name_update (name_text number) (value_text height))
update_short number height low = (omega (arith, name_length number low), (omega (arith, value_length height), tt))

text_fits : (number height : ℕ) → number < 64 → FitsName (name_text number) (value_text height)
text_fits number height low = record { name_length = omega (arith, name_length number low); value_length = omega (arith, value_length height) }

made_own : (height number : ℕ) (deed : Deed) (making : Making) → number < 64 → making_by height number deed ≡ Some making → IsOwn height making
made_own height number Nothing making low e = absurd cc
made_own height number Commit making low e =
    let same : record { operation = name_new (hash160 (rand_text height ++ name_text number)); spent = nowhere height } ≡ making = cc in
    subst (IsOwn height) same (record { short = new_short (rand_text height ++ name_text number); texts = omega (arith, commitment_length (rand_text height ++ name_text number)); tells = refl })
made_own height number (Open waiting) making low e =
    let same : record { operation = name_firstupdate (name_text number) (rand_text waiting.height) (value_text height); spent = waiting.output } ≡ making = cc in
    subst (IsOwn height) same (record { short = first_short number waiting.height height low; texts = text_fits number height low; tells = refl })
made_own height number (Update changed) making low e =
    let same : record { operation = name_update (name_text number) (value_text height); spent = changed.output } ≡ making = cc in
    subst (IsOwn height) same (record { short = update_short number height low; texts = text_fits number height low; tells = refl })

pub making_own : (seed n : ℕ) (making : Making) → making_behind seed n ≡ Some making → IsOwn (suc n) making
making_own seed n making e = made_own (suc n) (number_at seed n) (deed_at (suc n) (drawn_stand seed n)) making (omega arith) e

-- ---- two of them differ

first_script : List TxOutput → List ℕ
first_script [] = []
first_script (output ∷ outputs) = output.script

first_index : List TxInput → ℕ
first_index [] = 0
first_index (input ∷ inputs) = input.index

same_script : (a b : Making) → name_transaction a ≡ name_transaction b → script_of a.operation ≡ script_of b.operation
unfolding name_transaction first_script
same_script a b e = ap (λ (t : Transaction). first_script t.outputs) e

same_index : (a b : Making) → name_transaction a ≡ name_transaction b → a.spent.index ≡ b.spent.index
unfolding name_transaction first_index
same_index a b e = ap (λ (t : Transaction). first_index t.inputs) e

one_height : (h h' : ℕ) (spent spent' : OutPoint) (operation : NameOperation) → h < 65536 → h' < 65536 → spent.index ≡ spent'.index → Tells h spent operation → Tells h' spent' operation → h ≡ h'
one_height h h' spent spent' (name_new hash) low low' index t t' = sym t ∙ index ∙ t'
one_height h h' spent spent' (name_firstupdate name rand value) low low' index t t' = height_of_value h h' low low' (sym t ∙ t')
one_height h h' spent spent' (name_update name value) low low' index t t' = height_of_value h h' low low' (sym t ∙ t')

pub transactions_differ : (h h' : ℕ) (a b : Making) → h < h' → h' < 65536 → IsOwn h a → IsOwn h' b → name_transaction a ≢ name_transaction b
transactions_differ h h' a b before low own own' e =
    let read : Some a.operation ≡ Some b.operation = sym (script_read a.operation own.short) ∙ ap name_op (same_script a b e) ∙ script_read b.operation own'.short in
    let same : a.operation ≡ b.operation = cc in
    let height = one_height h h' a.spent b.spent b.operation (omega (arith, before, low)) low (same_index a b e) (subst (Tells h a.spent) same own.tells) own'.tells in
    omega (arith, before, height)
