-- From a row of the table of a transaction to the reader on lists.
use Rattle.std.proofs.Common.{◌≡◌, ℕ, zero, suc, ◌-◌, ◌<◌, ◌≤◌, ◌^◌, Bool, true, false, ◌||◌, eqb, List, [], ◌∷◌, ◌++◌, length, replicate, refl, sym, ap, ◌∙◌, append_assoc, arith, inl, inr}
use Rattle.std.specs.Prelude.{Err}
use Rattle.std.specs.List.{flat_map, AllByRecursion}
use Rattle.std.specs.Int.{w32, to_le_bytes}
use Rattle.std.proofs.lemmas.Bool.{ne_eqb}
use Rattle.block_grammar.specs.declared.kinds.TxKind.{TxKind}
use Rattle.block_grammar.specs.declared.kinds.TxKind.TheVariants.{LongForm, BadFlag, NoInput, NoOutput, EmptyWitness}
use Rattle.block_grammar.specs.Kinds.{is_cut}
use Rattle.block_grammar.specs.CompactSize.{compact_size, counted, counted_list}
use Rattle.block_grammar.specs.Witness.{stack_text, has_item, FitsItem, FitsStack}
use Rattle.block_grammar.specs.Transaction.{TxInput, TxOutput, input_text, output_text, FitsInput, FitsOutput}
use Rattle.block_grammar.specs.FaultRows.{FitsSome, opening, IsLongSize, HasLongForm, IsFirst, IsBeforeInputSize, IsBeforeOutputSize, IsBeforeListSize, IsBeforeSize, in_inputs, in_outputs, in_witness, HasBadFlag, HasNoInput, HasNoOutput, HasEmptyWitness}
use Rattle.block_grammar.specs.Combinators.{Reader, then_from, map_from, many_from, nonzero_from}
use Rattle.block_grammar.specs.Reading.{piece_from, size_from, counted_from, some_from, input_from, output_from, stack_from, last_stack_from, stacks_from, plain_body_from, flagged_body_from, flag_from, body_from, transaction_from}
use Rattle.block_grammar.proofs.ReaderLaws.{Reads, nonzero_reads, nonzero_is}
use Rattle.block_grammar.proofs.FieldLaws.{IsBelow, IsCount, FitsListed, laws32, laws64, piece_laws, counted_laws, size_laws, size_nonzero, size_first, some_laws}
use Rattle.block_grammar.proofs.TransactionLaws.{Stacks, input_laws, output_laws, stack_laws}
use Rattle.block_grammar.proofs.ManyRowLaws.{many_met}
use Rattle.block_grammar.proofs.SizeRowLaws.{Spot, long_met, HasMark, long_mark}

pub inputs_laws : Reads is_cut (counted_list input_text) (FitsListed IsCount FitsInput) (some_from NoInput input_from)
inputs_laws = some_laws NoInput input_text FitsInput input_from refl input_laws

pub outputs_laws : Reads is_cut (counted_list output_text) (FitsListed IsCount FitsOutput) (some_from NoOutput output_from)
outputs_laws = some_laws NoOutput output_text FitsOutput output_from refl output_laws

behind_version : (version : ℕ) (body : List ℕ) (e : Spot) → version < 2 ^ 32 → body_from body ≡ Err e → transaction_from (to_le_bytes w32 version ++ body) ≡ Err e
unfolding transaction_from
behind_version version body e lt h = rw (laws32.again version body lt, h) refl

plain_first : (body : List ℕ) (b : ℕ) (more : List ℕ) → body ≡ b ∷ more → eqb b 0 ≡ false → body_from body ≡ plain_body_from body
unfolding body_from
plain_first body b more e nonzero =
    let same : body_from (b ∷ more) ≡ plain_body_from (b ∷ more) = rw nonzero refl in
    ap body_from e ∙ same ∙ ap plain_body_from (sym e)

bad_flag : (flag : ℕ) (more : List ℕ) → (flag ≡ 1 → ⊥) → body_from (0 ∷ (flag ∷ more)) ≡ Err (BadFlag, flag ∷ more)
unfolding body_from flag_from
bad_flag flag more other = rw (ne_eqb flag 1 other) refl

no_input : (more : List ℕ) → body_from (0 ∷ (1 ∷ (0 ∷ more))) ≡ Err (NoInput, 0 ∷ more)
unfolding body_from flag_from flagged_body_from
no_input more = refl

abbrev pub listed : {A : Type 0} (Fits : A → Type 0) (xs : List A) → FitsSome Fits xs → FitsListed IsCount Fits xs
listed Fits xs f = ((f.some, f.count), f.each)

no_output_flagged : (inputs : List TxInput) (more : List ℕ) → FitsSome FitsInput inputs → body_from (0 ∷ (1 ∷ (counted_list input_text inputs ++ (0 ∷ more)))) ≡ Err (NoOutput, 0 ∷ more)
unfolding body_from flag_from flagged_body_from
no_output_flagged inputs more fits = rw (inputs_laws.again inputs (0 ∷ more) (listed FitsInput inputs fits)) refl

no_output_behind : (inputs : List TxInput) (more : List ℕ) → FitsSome FitsInput inputs → plain_body_from (counted_list input_text inputs ++ (0 ∷ more)) ≡ Err (NoOutput, 0 ∷ more)
unfolding plain_body_from
no_output_behind inputs more fits = rw (inputs_laws.again inputs (0 ∷ more) (listed FitsInput inputs fits)) refl

no_output_plain : (inputs : List TxInput) (more : List ℕ) → FitsSome FitsInput inputs → body_from (counted_list input_text inputs ++ (0 ∷ more)) ≡ Err (NoOutput, 0 ∷ more)
no_output_plain inputs more fits =
    let first = size_first (length inputs) fits.some fits.count in
    plain_first (counted_list input_text inputs ++ (0 ∷ more)) first.0 ((first.1 ++ flat_map input_text inputs) ++ (0 ∷ more)) (ap (λ (t : List ℕ). (t ++ flat_map input_text inputs) ++ (0 ∷ more)) first.2) first.3
    ∙ no_output_behind inputs more fits

stacks_empty : (n : ℕ) (more : List ℕ) → stacks_from false n (replicate n 0 ++ (0 ∷ more)) ≡ Err (EmptyWitness, 0 ∷ more)
unfolding stacks_from last_stack_from stack_from size_from
stacks_empty zero more = refl
stacks_empty (suc n) more = rw (stacks_empty n more) refl

empty_witness : (inputs : List TxInput) (outputs : List TxOutput) (more : List ℕ) → FitsSome FitsInput inputs → FitsSome FitsOutput outputs
    → body_from (0 ∷ (1 ∷ (counted_list input_text inputs ++ (counted_list output_text outputs ++ (replicate (length inputs - 1) 0 ++ (0 ∷ more)))))) ≡ Err (EmptyWitness, 0 ∷ more)
unfolding body_from flag_from flagged_body_from
empty_witness inputs outputs more fits fits' =
    let last = replicate (length inputs - 1) 0 ++ (0 ∷ more) in
    rw (inputs_laws.again inputs (counted_list output_text outputs ++ last) (listed FitsInput inputs fits), outputs_laws.again outputs last (listed FitsOutput outputs fits'), stacks_empty (length inputs - 1) more) refl

pub flag_met : (bytes rest : List ℕ) → HasBadFlag bytes rest → transaction_from bytes ≡ Err (BadFlag, rest)
flag_met bytes rest h =
    ap transaction_from (h.text ∙ ap (λ (r : List ℕ). to_le_bytes w32 h.version ++ (0 ∷ r)) h.rest_is)
    ∙ behind_version h.version (0 ∷ (h.flag ∷ h.more)) (BadFlag, h.flag ∷ h.more) h.version_fits (bad_flag h.flag h.more h.no_flag)
    ∙ ap (λ (r : List ℕ). Err (BadFlag, r)) (sym h.rest_is)

pub input_met : (bytes rest : List ℕ) → HasNoInput bytes rest → transaction_from bytes ≡ Err (NoInput, rest)
input_met bytes rest h =
    ap transaction_from (h.text ∙ ap (λ (r : List ℕ). to_le_bytes w32 h.version ++ (0 ∷ (1 ∷ r))) h.rest_is)
    ∙ behind_version h.version (0 ∷ (1 ∷ (0 ∷ h.more))) (NoInput, 0 ∷ h.more) h.version_fits (no_input h.more)
    ∙ ap (λ (r : List ℕ). Err (NoInput, r)) (sym h.rest_is)

no_output : (witness : Bool) (inputs : List TxInput) (more : List ℕ) → FitsSome FitsInput inputs → body_from (opening witness ++ (counted_list input_text inputs ++ (0 ∷ more))) ≡ Err (NoOutput, 0 ∷ more)
no_output true inputs more fits = no_output_flagged inputs more fits
no_output false inputs more fits = no_output_plain inputs more fits

pub output_met : (bytes rest : List ℕ) → HasNoOutput bytes rest → transaction_from bytes ≡ Err (NoOutput, rest)
output_met bytes rest h =
    ap transaction_from (h.text ∙ ap (λ (r : List ℕ). to_le_bytes w32 h.version ++ (opening h.witness ++ (counted_list input_text h.inputs ++ r))) h.rest_is)
    ∙ behind_version h.version (opening h.witness ++ (counted_list input_text h.inputs ++ (0 ∷ h.more))) (NoOutput, 0 ∷ h.more) h.version_fits (no_output h.witness h.inputs h.more h.inputs_fit)
    ∙ ap (λ (r : List ℕ). Err (NoOutput, r)) (sym h.rest_is)

pub witness_met : (bytes rest : List ℕ) → HasEmptyWitness bytes rest → transaction_from bytes ≡ Err (EmptyWitness, rest)
witness_met bytes rest h =
    ap transaction_from (h.text ∙ ap (λ (r : List ℕ). to_le_bytes w32 h.version ++ (opening true ++ (counted_list input_text h.inputs ++ (counted_list output_text h.outputs ++ (replicate (length h.inputs - 1) 0 ++ r))))) h.rest_is)
    ∙ behind_version h.version _ (EmptyWitness, 0 ∷ h.more) h.version_fits (empty_witness h.inputs h.outputs h.more h.inputs_fit h.outputs_fit)
    ∙ ap (λ (r : List ℕ). Err (EmptyWitness, r)) (sym h.rest_is)

-- ---- where a longer form stands

-- a list whose number, or whose values, stop the reader
listed_met : {A : Type 0} (FitsCount : ℕ → Type 0) (count_from : Reader TxKind ℕ) (text : A → List ℕ) (Fits : A → Type 0) (read : Reader TxKind A) (IsBefore : List ℕ → Type 0)
    → Reads is_cut compact_size FitsCount count_from → Reads is_cut text Fits read → ((n : ℕ) → 1 ≤ n → n < 2 ^ 64 → FitsCount n) → (before behind : List ℕ) (e : Spot)
    → count_from behind ≡ Err e → ((inner : List ℕ) → IsBefore inner → read (inner ++ behind) ≡ Err e) → IsBeforeListSize text Fits IsBefore before
    → map_from (λ (x : ℕ × List A). x.1) (then_from count_from (many_from read)) (before ++ behind) ≡ Err e
listed_met {A = A} FitsCount count_from text Fits read IsBefore counts laws fits before behind e number value (inl first) =
    let now : map_from (λ (x : ℕ × List A). x.1) (then_from count_from (many_from read)) behind ≡ Err e = rw number refl in
    ap (λ (b : List ℕ). map_from (λ (x : ℕ × List A). x.1) (then_from count_from (many_from read)) (b ++ behind)) first ∙ now
listed_met {A = A} FitsCount count_from text Fits read IsBefore counts laws fits before behind e number value (inr v) =
    let texts = flat_map text v.values in
    let apart : before ++ behind ≡ compact_size v.count ++ (texts ++ (v.inner ++ behind)) =
    ap (λ (b : List ℕ). b ++ behind) v.text_is ∙ append_assoc (compact_size v.count) (texts ++ v.inner) behind ∙ ap (λ (b : List ℕ). compact_size v.count ++ b) (append_assoc texts v.inner behind) in
    let now : map_from (λ (x : ℕ × List A). x.1) (then_from count_from (many_from read)) (compact_size v.count ++ (texts ++ (v.inner ++ behind))) ≡ Err e =
    rw (counts.again v.count (texts ++ (v.inner ++ behind)) (fits v.count (omega (arith, v.fewer)) v.count_fits), many_met is_cut text Fits read laws v.count v.values (v.inner ++ behind) e v.fewer v.values_fit (value v.inner v.is_before)) refl in
    ap (map_from (λ (x : ℕ × List A). x.1) (then_from count_from (many_from read))) apart ∙ now

pub nonzero_laws : (kind : TxKind) → is_cut kind ≡ false → Reads is_cut compact_size IsCount (nonzero_from kind size_from)
nonzero_laws kind whole = nonzero_reads is_cut kind compact_size (IsBelow (2 ^ 64)) IsCount size_from whole size_nonzero size_laws

nonzero_long : (kind : TxKind) (behind rest : List ℕ) → IsLongSize behind rest → nonzero_from kind size_from behind ≡ Err (LongForm, rest)
nonzero_long kind behind rest long = let m = long_mark behind rest long in nonzero_is kind size_from behind m.mark m.behind m.is m.nonzero ∙ long_met behind rest long

some_met : {A : Type 0} (kind : TxKind) → is_cut kind ≡ false → (text : A → List ℕ) (Fits : A → Type 0) (read : Reader TxKind A) (IsBefore : List ℕ → Type 0) → Reads is_cut text Fits read
    → (before behind rest : List ℕ) → IsLongSize behind rest → ((inner : List ℕ) → IsBefore inner → read (inner ++ behind) ≡ Err (LongForm, rest)) → IsBeforeListSize text Fits IsBefore before
    → some_from kind read (before ++ behind) ≡ Err (LongForm, rest)
some_met kind whole text Fits read IsBefore laws before behind rest long value is =
    listed_met IsCount (nonzero_from kind size_from) text Fits read IsBefore (nonzero_laws kind whole) laws (λ n some below. (some, below)) before behind (LongForm, rest) (nonzero_long kind behind rest long) value is

counted_met : (before behind rest : List ℕ) → IsLongSize behind rest → IsFirst before → counted_from (before ++ behind) ≡ Err (LongForm, rest)
unfolding counted_from
counted_met before behind rest long first =
    let now : map_from (λ (x : ℕ × List ℕ). x.1) (then_from size_from piece_from) behind ≡ Err (LongForm, rest) = rw (long_met behind rest long) refl in
    ap (λ (b : List ℕ). map_from (λ (x : ℕ × List ℕ). x.1) (then_from size_from piece_from) (b ++ behind)) first ∙ now

input_met_long : (before behind rest : List ℕ) → IsLongSize behind rest → IsBeforeInputSize before → input_from (before ++ behind) ≡ Err (LongForm, rest)
unfolding input_from
input_met_long before behind rest long i =
    let apart : before ++ behind ≡ i.txid ++ (to_le_bytes w32 i.index ++ behind) = ap (λ (b : List ℕ). b ++ behind) i.text ∙ append_assoc i.txid (to_le_bytes w32 i.index) behind in
    let script : counted_from behind ≡ Err (LongForm, rest) = counted_met [] behind rest long refl in
    rw (apart, (piece_laws 32).again i.txid (to_le_bytes w32 i.index ++ behind) i.txid_length, laws32.again i.index behind i.index_fits, script) refl

output_met_long : (before behind rest : List ℕ) → IsLongSize behind rest → IsBeforeOutputSize before → output_from (before ++ behind) ≡ Err (LongForm, rest)
unfolding output_from
output_met_long before behind rest long o =
    let script : counted_from behind ≡ Err (LongForm, rest) = counted_met [] behind rest long refl in
    rw (o.text, laws64.again o.value behind o.value_fits, script) refl

stack_met : (before behind rest : List ℕ) → IsLongSize behind rest → IsBeforeListSize counted FitsItem IsFirst before → stack_from (before ++ behind) ≡ Err (LongForm, rest)
unfolding stack_from
stack_met before behind rest long is =
    listed_met (IsBelow (2 ^ 64)) size_from counted FitsItem counted_from IsFirst size_laws counted_laws (λ n some below. below) before behind (LongForm, rest) (long_met behind rest long)
    (λ inner first. counted_met inner behind rest long first) is

inputs_met : (before behind rest : List ℕ) → IsLongSize behind rest → IsBeforeListSize input_text FitsInput IsBeforeInputSize before → some_from NoInput input_from (before ++ behind) ≡ Err (LongForm, rest)
inputs_met before behind rest long is = some_met NoInput refl input_text FitsInput input_from IsBeforeInputSize input_laws before behind rest long (λ inner i. input_met_long inner behind rest long i) is

outputs_met : (before behind rest : List ℕ) → IsLongSize behind rest → IsBeforeListSize output_text FitsOutput IsBeforeOutputSize before → some_from NoOutput output_from (before ++ behind) ≡ Err (LongForm, rest)
outputs_met before behind rest long is = some_met NoOutput refl output_text FitsOutput output_from IsBeforeOutputSize output_laws before behind rest long (λ inner o. output_met_long inner behind rest long o) is

-- a list and the size behind it don't begin with 00
list_mark : {A : Type 0} (text : A → List ℕ) (Fits : A → Type 0) (IsBefore : List ℕ → Type 0) (before behind rest : List ℕ) → IsLongSize behind rest → IsBeforeListSize text Fits IsBefore before → HasMark (before ++ behind)
list_mark text Fits IsBefore before behind rest long (inl first) =
    let m = long_mark behind rest long in
    record { mark = m.mark; behind = m.behind; is = ap (λ (b : List ℕ). b ++ behind) first ∙ m.is; nonzero = m.nonzero }
list_mark text Fits IsBefore before behind rest long (inr v) =
    let first = size_first v.count (omega (arith, v.fewer)) v.count_fits in
    let inner = flat_map text v.values ++ v.inner in
    record { mark = first.0; behind = (first.1 ++ inner) ++ behind; is = ap (λ (b : List ℕ). b ++ behind) (v.text_is ∙ ap (λ (t : List ℕ). t ++ inner) first.2); nonzero = first.3 }

last_met : (some : Bool) (before behind rest : List ℕ) → IsLongSize behind rest → IsBeforeListSize counted FitsItem IsFirst before → last_stack_from some (before ++ behind) ≡ Err (LongForm, rest)
unfolding last_stack_from
last_met true before behind rest long is = stack_met before behind rest long is
last_met false before behind rest long is =
    let m = list_mark counted FitsItem IsFirst before behind rest long is in
    nonzero_is EmptyWitness stack_from (before ++ behind) m.mark m.behind m.is m.nonzero ∙ stack_met before behind rest long is

stacks_met : (some : Bool) (n : ℕ) (lists : Stacks) (inner behind rest : List ℕ) → length lists < suc n → AllByRecursion FitsStack lists → IsLongSize behind rest → IsBeforeListSize counted FitsItem IsFirst inner
    → stacks_from some n (flat_map stack_text lists ++ (inner ++ behind)) ≡ Err (LongForm, rest)
unfolding stacks_from
stacks_met some zero [] inner behind rest fewer fit long is = rw (last_met some inner behind rest long is) refl
stacks_met some zero (x ∷ xs) inner behind rest fewer fit long is = absurd (omega (arith, fewer))
stacks_met some (suc n) [] inner behind rest fewer fit long is = rw (stack_met inner behind rest long is) refl
stacks_met some (suc n) (x ∷ xs) inner behind rest fewer fit long is =
    rw (
      append_assoc (stack_text x) (flat_map stack_text xs) (inner ++ behind),
      stack_laws.again x (flat_map stack_text xs ++ (inner ++ behind)) fit.0,
      stacks_met (some || has_item x) n xs inner behind rest (omega (arith, fewer)) fit.1 long is,
    ) refl

plain_body_met : (body : List ℕ) (e : Spot) → some_from NoInput input_from body ≡ Err e → plain_body_from body ≡ Err e
unfolding plain_body_from
plain_body_met body e h = rw h refl

flagged_body_met : (body : List ℕ) (e : Spot) → some_from NoInput input_from body ≡ Err e → body_from (0 ∷ (1 ∷ body)) ≡ Err e
unfolding body_from flag_from flagged_body_from
flagged_body_met body e h = rw h refl

in_inputs_met : (witness : Bool) (inner behind rest : List ℕ) → IsLongSize behind rest → IsBeforeListSize input_text FitsInput IsBeforeInputSize inner → body_from (opening witness ++ (inner ++ behind)) ≡ Err (LongForm, rest)
in_inputs_met true inner behind rest long is = flagged_body_met (inner ++ behind) (LongForm, rest) (inputs_met inner behind rest long is)
in_inputs_met false inner behind rest long is =
    let m = list_mark input_text FitsInput IsBeforeInputSize inner behind rest long is in
    plain_first (inner ++ behind) m.mark m.behind m.is m.nonzero ∙ plain_body_met (inner ++ behind) (LongForm, rest) (inputs_met inner behind rest long is)

-- behind the inputs
plain_outputs_met : (inputs : List TxInput) (body : List ℕ) (e : Spot) → FitsSome FitsInput inputs → some_from NoOutput output_from body ≡ Err e → plain_body_from (counted_list input_text inputs ++ body) ≡ Err e
unfolding plain_body_from
plain_outputs_met inputs body e fits h = rw (inputs_laws.again inputs body (listed FitsInput inputs fits), h) refl

flagged_outputs_met : (inputs : List TxInput) (body : List ℕ) (e : Spot) → FitsSome FitsInput inputs → some_from NoOutput output_from body ≡ Err e → body_from (0 ∷ (1 ∷ (counted_list input_text inputs ++ body))) ≡ Err e
unfolding body_from flag_from flagged_body_from
flagged_outputs_met inputs body e fits h = rw (inputs_laws.again inputs body (listed FitsInput inputs fits), h) refl

in_outputs_met : (witness : Bool) (inputs : List TxInput) (body : List ℕ) (e : Spot) → FitsSome FitsInput inputs → some_from NoOutput output_from body ≡ Err e → body_from (opening witness ++ (counted_list input_text inputs ++ body)) ≡ Err e
in_outputs_met true inputs body e fits h = flagged_outputs_met inputs body e fits h
in_outputs_met false inputs body e fits h =
    let first = size_first (length inputs) fits.some fits.count in
    plain_first (counted_list input_text inputs ++ body) first.0 ((first.1 ++ flat_map input_text inputs) ++ body) (ap (λ (t : List ℕ). (t ++ flat_map input_text inputs) ++ body) first.2) first.3
    ∙ plain_outputs_met inputs body e fits h

in_witness_met : (inputs : List TxInput) (outputs : List TxOutput) (body : List ℕ) (e : Spot) → FitsSome FitsInput inputs → FitsSome FitsOutput outputs → stacks_from false (length inputs - 1) body ≡ Err e
    → body_from (opening true ++ (counted_list input_text inputs ++ (counted_list output_text outputs ++ body))) ≡ Err e
unfolding body_from flag_from flagged_body_from
in_witness_met inputs outputs body e fits fits' h =
    rw (inputs_laws.again inputs (counted_list output_text outputs ++ body) (listed FitsInput inputs fits), outputs_laws.again outputs body (listed FitsOutput outputs fits'), h) refl

-- what stands behind a front that is in parts
behind_parts : (a b c d : List ℕ) → (a ++ (b ++ c)) ++ d ≡ a ++ (b ++ (c ++ d))
behind_parts a b c d = append_assoc a (b ++ c) d ∙ ap (λ (t : List ℕ). a ++ t) (append_assoc b c d)

pub long_form_met : (bytes rest : List ℕ) → HasLongForm IsBeforeSize bytes rest → transaction_from bytes ≡ Err (LongForm, rest)
long_form_met bytes rest h = ap transaction_from h.text ∙ by_part h.before h.behind h.long h.is_before
  where
    by_part : (before behind : List ℕ) → IsLongSize behind rest → IsBeforeSize before → transaction_from (before ++ behind) ≡ Err (LongForm, rest)
    by_part before behind long (in_inputs i) =
        ap transaction_from (ap (λ (b : List ℕ). b ++ behind) i.text ∙ behind_parts (to_le_bytes w32 i.version) (opening i.witness) i.inner behind)
        ∙ behind_version i.version (opening i.witness ++ (i.inner ++ behind)) (LongForm, rest) i.version_fits (in_inputs_met i.witness i.inner behind rest long i.is_before)
    by_part before behind long (in_outputs o) =
        let counted = counted_list input_text o.inputs in
        ap transaction_from (ap (λ (b : List ℕ). b ++ behind) o.text ∙ behind_parts (to_le_bytes w32 o.version) (opening o.witness) (counted ++ o.inner) behind
        ∙ ap (λ (b : List ℕ). to_le_bytes w32 o.version ++ (opening o.witness ++ b)) (append_assoc counted o.inner behind))
        ∙ behind_version o.version (opening o.witness ++ (counted ++ (o.inner ++ behind))) (LongForm, rest) o.version_fits
        (in_outputs_met o.witness o.inputs (o.inner ++ behind) (LongForm, rest) o.inputs_fit (outputs_met o.inner behind rest long o.is_before))
    by_part before behind long (in_witness w) =
        let inputs = counted_list input_text w.inputs in
        let outputs = counted_list output_text w.outputs in
        let lists = flat_map stack_text w.lists in
        let body = lists ++ (w.inner ++ behind) in
        ap transaction_from (ap (λ (b : List ℕ). b ++ behind) w.text ∙ behind_parts (to_le_bytes w32 w.version) (opening true) (inputs ++ (outputs ++ (lists ++ w.inner))) behind
        ∙ ap (λ (b : List ℕ). to_le_bytes w32 w.version ++ (opening true ++ b)) (behind_parts inputs outputs (lists ++ w.inner) behind ∙ ap (λ (b : List ℕ). inputs ++ (outputs ++ b)) (append_assoc lists w.inner behind)))
        ∙ behind_version w.version (opening true ++ (inputs ++ (outputs ++ body))) (LongForm, rest) w.version_fits
        (in_witness_met w.inputs w.outputs body (LongForm, rest) w.inputs_fit w.outputs_fit
        (stacks_met false (length w.inputs - 1) w.lists w.inner behind rest (omega (arith, w.fewer)) w.lists_fit long w.is_before))
