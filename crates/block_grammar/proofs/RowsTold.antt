-- From the reader on lists to the row of the table of a transaction.
use Rattle.std.proofs.Common.{◌≡◌, ℕ, zero, suc, ◌-◌, ◌<◌, ◌^◌, ◌⊎◌, Bool, true, false, ◌||◌, eqb, List, [], ◌∷◌, ◌++◌, length, replicate, refl, sym, ap, subst, ◌∙◌, append_assoc, append-nil, arith, inl, inr}
use Rattle.std.specs.Prelude.{Result, Ok, Err}
use Rattle.std.specs.List.{flat_map, AllByRecursion}
use Rattle.std.specs.Int.{w32, w64, to_le_bytes}
use Rattle.std.proofs.lemmas.Bool.{eqb-true, eqb-false, or_parts}
use Rattle.nmc_base.proofs.TruthLemmas.{chosen}
use Rattle.block_grammar.specs.declared.kinds.TxKind.{TxKind}
use Rattle.block_grammar.specs.declared.kinds.TxKind.TheVariants.{Cut, BadFlag, NoInput, NoOutput, EmptyWitness}
use Rattle.block_grammar.specs.Kinds.{is_cut}
use Rattle.block_grammar.specs.CompactSize.{compact_size, counted, counted_list}
use Rattle.block_grammar.specs.Witness.{stack_text, has_item, FitsItem, FitsStack}
use Rattle.block_grammar.specs.Transaction.{TxInput, TxOutput, input_text, output_text, FitsInput, FitsOutput}
use Rattle.block_grammar.specs.FaultRows.{FitsSome, opening, IsFirst, IsBeforeInputSize, IsBeforeOutputSize, IsBeforeListSize, IsBeforeSize, in_inputs, in_outputs, in_witness, TransactionByte}
use Rattle.block_grammar.specs.Combinators.{◌>>=◌, Reader, then_from, many_from, nonzero_from}
use Rattle.block_grammar.specs.Reading.{number_from, piece_from, size_from, counted_from, some_from, input_from, output_from, stack_from, last_stack_from, stacks_from, Body, plain_body, flagged_body, plain_body_from, flagged_body_from, flag_from, body_from, with_body, transaction_from}
use Rattle.block_grammar.proofs.Readers.{IsBytes}
use Rattle.block_grammar.proofs.ReaderLaws.{Reads, err_is, bind_err, made_err}
use Rattle.block_grammar.proofs.FieldLaws.{itself, HasLength, IsShort, IsBelow, IsCount, FitsListed, laws32, laws64, piece_laws, counted_laws}
use Rattle.block_grammar.proofs.TransactionLaws.{Stacks, input_laws, output_laws, stack_laws}
use Rattle.block_grammar.proofs.SizeRowLaws.{Spot, number_cut, piece_cut, FieldFault, ends, longer, Sized, cut_sized, fault_as, fault_behind, then_sized, map_sized, size_sized, counted_sized, values_sized, list_sized}
use Rattle.block_grammar.proofs.RowsMet.{inputs_laws, outputs_laws, nonzero_laws}

-- ---- what may be 00, or stop at a field

abbrev pub Answer : Type 0 → Type 0
Answer A = Result (A × List ℕ) Spot

input_sized : Sized IsBeforeInputSize input_from
unfolding input_from
input_sized =
    map_sized _ (then_from (piece_from 32) (λ _. then_from (number_from w32) (λ _. then_from counted_from (λ _. number_from w32)))) IsBeforeInputSize
    (then_sized itself (HasLength 32) (piece_from 32) (λ _. then_from (number_from w32) (λ _. then_from counted_from (λ _. number_from w32))) IsBeforeInputSize (piece_laws 32) (cut_sized IsBeforeInputSize (piece_from 32) (piece_cut 32)) (λ txid len.
    then_sized (to_le_bytes w32) (IsBelow (2 ^ 32)) (number_from w32) (λ _. then_from counted_from (λ _. number_from w32)) (λ b. IsBeforeInputSize (txid ++ b)) laws32 (cut_sized (λ b. IsBeforeInputSize (txid ++ b)) (number_from w32) (number_cut w32)) (λ index fits.
    then_sized counted IsShort counted_from (λ _. number_from w32) (λ b. IsBeforeInputSize (txid ++ (to_le_bytes w32 index ++ b))) counted_laws
    (λ bytes e is h. fault_as IsFirst (λ b. IsBeforeInputSize (txid ++ (to_le_bytes w32 index ++ b))) bytes e
    (λ before first. record { txid = txid; txid_length = len; index = index; index_fits = fits; text = ap (λ (b : List ℕ). txid ++ b) (ap (λ (b : List ℕ). to_le_bytes w32 index ++ b) first ∙ append-nil (to_le_bytes w32 index)) }) (counted_sized bytes e is h))
    (λ script _. cut_sized (λ b. IsBeforeInputSize (txid ++ (to_le_bytes w32 index ++ (counted script ++ b)))) (number_from w32) (number_cut w32)))))

output_sized : Sized IsBeforeOutputSize output_from
unfolding output_from
output_sized =
    map_sized _ (then_from (number_from w64) (λ _. counted_from)) IsBeforeOutputSize
    (then_sized (to_le_bytes w64) (IsBelow (2 ^ 64)) (number_from w64) (λ _. counted_from) IsBeforeOutputSize laws64 (cut_sized IsBeforeOutputSize (number_from w64) (number_cut w64)) (λ value fits bytes e is h.
    fault_as IsFirst (λ b. IsBeforeOutputSize (to_le_bytes w64 value ++ b)) bytes e
    (λ before first. record { value = value; value_fits = fits; text = ap (λ (b : List ℕ). to_le_bytes w64 value ++ b) first ∙ append-nil (to_le_bytes w64 value) }) (counted_sized bytes e is h)))

stack_sized : Sized (IsBeforeListSize counted FitsItem IsFirst) stack_from
unfolding stack_from
stack_sized = list_sized counted FitsItem counted_from IsFirst counted_laws counted_sized

-- the byte 00 stands there, and is the fault
record IsZero (kind : TxKind) (bytes : List ℕ) (e : Spot) : Type 0 where
  more : List ℕ
  bytes_is : bytes ≡ 0 ∷ more
  fault_is : (kind, bytes) ≡ e

nonzero_fault : {A : Type 0} (kind : TxKind) (read : Reader TxKind A) (IsBefore : List ℕ → Type 0) → Sized IsBefore read → (bytes : List ℕ) (e : Spot) → IsBytes bytes → nonzero_from kind read bytes ≡ Err e
    → FieldFault IsBefore bytes e ⊎ IsZero kind bytes e
nonzero_fault kind read IsBefore r [] e fits h = inl (r [] e fits h)
nonzero_fault {A = A} kind read IsBefore r (first ∷ rest) e fits h =
    elim (chosen {A = Answer A} (eqb first 0) (Err (kind, first ∷ rest)) (read (first ∷ rest)) (Err e) h) [
      | inl w ↦ inr (record { more = rest; bytes_is = ap (λ (b : ℕ). b ∷ rest) (eqb-true first 0 w.0); fault_is = err_is (kind, first ∷ rest) e w.1 })
      | inr w ↦ inl (r (first ∷ rest) e fits w.1)
    ]

some_fault : {A : Type 0} (kind : TxKind) → is_cut kind ≡ false → (text : A → List ℕ) (Fits : A → Type 0) (read : Reader TxKind A) (IsBefore : List ℕ → Type 0) → Reads is_cut text Fits read → Sized IsBefore read
    → (bytes : List ℕ) (e : Spot) → IsBytes bytes → some_from kind read bytes ≡ Err e → FieldFault (IsBeforeListSize text Fits IsBefore) bytes e ⊎ IsZero kind bytes e
some_fault {A = A} kind whole text Fits read IsBefore laws r bytes e fits h =
    let inner = made_err (then_from (nonzero_from kind size_from) (many_from read) bytes) (λ (x : (ℕ × List A) × List ℕ). (x.0.1, x.1)) e h in
    elim (bind_err (nonzero_from kind size_from bytes) (λ (x : ℕ × List ℕ). many_from read x.0 x.1 >>= λ (y : List A × List ℕ). Ok ((x.0, y.0), y.1)) e inner) [
      | inl w ↦ elim (nonzero_fault kind size_from IsFirst size_sized bytes e fits w) [
        | inl f ↦ inl (fault_as IsFirst (IsBeforeListSize text Fits IsBefore) bytes e (λ before is. inl is) f)
        | inr z ↦ inr z
      ]
      | inr x ↦
          let t = (nonzero_laws kind whole).takes bytes x.0 fits x.1 in
          inl (fault_behind (IsBeforeListSize text Fits IsBefore) (compact_size x.0.0) x.0.1 bytes e t.parts
          (values_sized text Fits read IsBefore laws r x.0.0 t.fits.1 x.0.1 e t.rest_bytes (made_err (many_from read x.0.0 x.0.1) (λ (y : List A × List ℕ). ((x.0.0, y.0), y.1)) e x.2)))
    ]

inputs_fault : (bytes : List ℕ) (e : Spot) → IsBytes bytes → some_from NoInput input_from bytes ≡ Err e → FieldFault (IsBeforeListSize input_text FitsInput IsBeforeInputSize) bytes e ⊎ IsZero NoInput bytes e
inputs_fault = some_fault NoInput refl input_text FitsInput input_from IsBeforeInputSize input_laws input_sized

outputs_fault : (bytes : List ℕ) (e : Spot) → IsBytes bytes → some_from NoOutput output_from bytes ≡ Err e → FieldFault (IsBeforeListSize output_text FitsOutput IsBeforeOutputSize) bytes e ⊎ IsZero NoOutput bytes e
outputs_fault = some_fault NoOutput refl output_text FitsOutput output_from IsBeforeOutputSize output_laws output_sized

-- lists of a witness, all of them empty
record IsAllEmpty (some : Bool) (n : ℕ) (bytes : List ℕ) (e : Spot) : Type 0 where
  before : some ≡ false
  rest : List ℕ
  more : List ℕ
  rest_is : rest ≡ 0 ∷ more
  text : bytes ≡ replicate n 0 ++ rest
  fault_is : (EmptyWitness, rest) ≡ e

-- what may stand before a size in so many lists and one more
record IsInLists (n : ℕ) (before : List ℕ) : Type 0 where
  lists : Stacks
  lists_fit : AllByRecursion FitsStack lists
  fewer : length lists < suc n
  inner : List ℕ
  is_before : IsBeforeListSize counted FitsItem IsFirst inner
  text : before ≡ flat_map stack_text lists ++ inner

in_first : (n : ℕ) (before : List ℕ) → IsBeforeListSize counted FitsItem IsFirst before → IsInLists n before
in_first n before is = record { lists = []; lists_fit = tt; fewer = omega arith; inner = before; is_before = is; text = refl }

in_later : (n : ℕ) (list : List (List ℕ)) (before : List ℕ) → FitsStack list → IsInLists n before → IsInLists (suc n) (stack_text list ++ before)
in_later n list before fits i = record {
  lists = list ∷ i.lists;
  lists_fit = (fits, i.lists_fit);
  fewer = omega (arith, i.fewer);
  inner = i.inner;
  is_before = i.is_before;
  text = ap (λ (b : List ℕ). stack_text list ++ b) i.text ∙ sym (append_assoc (stack_text list) (flat_map stack_text i.lists) i.inner);
}

last_fault : (some : Bool) (bytes : List ℕ) (e : Spot) → IsBytes bytes → last_stack_from some bytes ≡ Err e → FieldFault (IsInLists 0) bytes e ⊎ IsAllEmpty some 0 bytes e
unfolding last_stack_from
last_fault true bytes e fits h = inl (fault_as (IsBeforeListSize counted FitsItem IsFirst) (IsInLists 0) bytes e (in_first 0) (stack_sized bytes e fits h))
last_fault false bytes e fits h =
    elim (nonzero_fault EmptyWitness stack_from (IsBeforeListSize counted FitsItem IsFirst) stack_sized bytes e fits h) [
      | inl w ↦ inl (fault_as (IsBeforeListSize counted FitsItem IsFirst) (IsInLists 0) bytes e (in_first 0) w)
      | inr z ↦ inr (record { before = refl; rest = bytes; more = z.more; rest_is = z.bytes_is; text = refl; fault_is = z.fault_is })
    ]

empty_stack : (stack : List (List ℕ)) → has_item stack ≡ false → stack ≡ []
empty_stack [] e = refl
empty_stack (item ∷ items) e = absurd cc

empty_text : (stack : List (List ℕ)) (rest : List ℕ) → has_item stack ≡ false → stack_text stack ++ rest ≡ 0 ∷ rest
unfolding compact_size
empty_text stack rest e = ap (λ (s : List (List ℕ)). stack_text s ++ rest) (empty_stack stack e)

stacks_fault : (some : Bool) (n : ℕ) (bytes : List ℕ) (e : Spot) → IsBytes bytes → stacks_from some n bytes ≡ Err e → FieldFault (IsInLists n) bytes e ⊎ IsAllEmpty some n bytes e
unfolding stacks_from
stacks_fault some zero bytes e fits h = last_fault some bytes e fits (made_err (last_stack_from some bytes) (λ (x : List (List ℕ) × List ℕ). (x.0 ∷ [], x.1)) e h)
stacks_fault some (suc n) bytes e fits h =
    let inner = made_err (then_from stack_from (λ x. stacks_from (some || has_item x) n) bytes) (λ (x : (List (List ℕ) × Stacks) × List ℕ). (x.0.0 ∷ x.0.1, x.1)) e h in
    elim (bind_err (stack_from bytes) (λ (x : List (List ℕ) × List ℕ). stacks_from (some || has_item x.0) n x.1 >>= λ (y : Stacks × List ℕ). Ok ((x.0, y.0), y.1)) e inner) [
      | inl w ↦ inl (fault_as (IsBeforeListSize counted FitsItem IsFirst) (IsInLists (suc n)) bytes e (in_first (suc n)) (stack_sized bytes e fits w))
      | inr x ↦
          let t = stack_laws.takes bytes x.0 fits x.1 in
          elim (stacks_fault (some || has_item x.0.0) n x.0.1 e t.rest_bytes (made_err (stacks_from (some || has_item x.0.0) n x.0.1) (λ (y : Stacks × List ℕ). ((x.0.0, y.0), y.1)) e x.2)) [
            | inl w ↦ inl (fault_behind (IsInLists (suc n)) (stack_text x.0.0) x.0.1 bytes e t.parts (fault_as (IsInLists n) (λ b. IsInLists (suc n) (stack_text x.0.0 ++ b)) x.0.1 e (λ b. in_later n x.0.0 b t.fits) w))
            | inr a ↦
                let p = or_parts some (has_item x.0.0) a.before in
                inr (record {
                  before = p.0;
                  rest = a.rest;
                  more = a.more;
                  rest_is = a.rest_is;
                  text = t.parts ∙ empty_text x.0.0 x.0.1 p.1 ∙ ap (λ (r : List ℕ). 0 ∷ r) a.text;
                  fault_is = a.fault_is;
                })
          ]
    ]

-- ---- from the reader to a row

abbrev Told : List ℕ → Spot → Type 0
Told bytes e = (e.0 ≡ Cut) ⊎ TransactionByte e.0 bytes e.1

field_told : (bytes : List ℕ) (e : Spot) → FieldFault IsBeforeSize bytes e → Told bytes e
field_told bytes e (ends is) = inl is
field_told bytes e (longer is h) = inr (subst (λ (k : TxKind). TransactionByte k bytes e.1) (sym is) h)

-- a fault behind version, marker and flag
body_field : (bytes body : List ℕ) (version : ℕ) (witness : Bool) (e : Spot) → bytes ≡ to_le_bytes w32 version ++ (opening witness ++ body)
    → FieldFault (λ before. IsBeforeSize (to_le_bytes w32 version ++ (opening witness ++ before))) body e → Told bytes e
body_field bytes body version witness e text f =
    field_told bytes e (fault_behind IsBeforeSize (to_le_bytes w32 version) (opening witness ++ body) bytes e text
    (fault_behind (λ before. IsBeforeSize (to_le_bytes w32 version ++ before)) (opening witness) body (opening witness ++ body) e refl f))

inputs_told : (bytes body : List ℕ) (version : ℕ) (witness : Bool) (e : Spot) → version < 2 ^ 32 → bytes ≡ to_le_bytes w32 version ++ (opening witness ++ body)
    → FieldFault (IsBeforeListSize input_text FitsInput IsBeforeInputSize) body e → Told bytes e
inputs_told bytes body version witness e lt text f =
    body_field bytes body version witness e text
    (fault_as (IsBeforeListSize input_text FitsInput IsBeforeInputSize) (λ before. IsBeforeSize (to_le_bytes w32 version ++ (opening witness ++ before))) body e
    (λ inner is. in_inputs (record { version = version; version_fits = lt; witness = witness; inner = inner; is_before = is; text = refl })) f)

outputs_told : (bytes body rest : List ℕ) (version : ℕ) (witness : Bool) (inputs : List TxInput) (e : Spot) → version < 2 ^ 32 → bytes ≡ to_le_bytes w32 version ++ (opening witness ++ body)
    → FitsSome FitsInput inputs → body ≡ counted_list input_text inputs ++ rest → FieldFault (IsBeforeListSize output_text FitsOutput IsBeforeOutputSize) rest e → Told bytes e
outputs_told bytes body rest version witness inputs e lt text fits parts f =
    body_field bytes body version witness e text
    (fault_behind (λ before. IsBeforeSize (to_le_bytes w32 version ++ (opening witness ++ before))) (counted_list input_text inputs) rest body e parts
    (fault_as (IsBeforeListSize output_text FitsOutput IsBeforeOutputSize) (λ before. IsBeforeSize (to_le_bytes w32 version ++ (opening witness ++ (counted_list input_text inputs ++ before)))) rest e
    (λ inner is. in_outputs (record { version = version; version_fits = lt; witness = witness; inputs = inputs; inputs_fit = fits; inner = inner; is_before = is; text = refl })) f))

-- inputs and outputs with the bytes behind them
record IsWitnessed (bytes rest : List ℕ) (version : ℕ) (inputs : List TxInput) (outputs : List TxOutput) : Type 0 where
  version_fits : version < 2 ^ 32
  inputs_fit : FitsSome FitsInput inputs
  outputs_fit : FitsSome FitsOutput outputs
  text : bytes ≡ to_le_bytes w32 version ++ (opening true ++ (counted_list input_text inputs ++ (counted_list output_text outputs ++ rest)))

witness_told : (bytes rest : List ℕ) (version : ℕ) (inputs : List TxInput) (outputs : List TxOutput) (e : Spot) → IsWitnessed bytes rest version inputs outputs → FieldFault (IsInLists (length inputs - 1)) rest e → Told bytes e
witness_told bytes rest version inputs outputs e w f =
    let ins = counted_list input_text inputs in
    let outs = counted_list output_text outputs in
    body_field bytes (ins ++ (outs ++ rest)) version true e w.text
    (fault_behind (λ before. IsBeforeSize (to_le_bytes w32 version ++ (opening true ++ before))) ins (outs ++ rest) (ins ++ (outs ++ rest)) e refl
    (fault_behind (λ before. IsBeforeSize (to_le_bytes w32 version ++ (opening true ++ (ins ++ before)))) outs rest (outs ++ rest) e refl
    (fault_as (IsInLists (length inputs - 1)) (λ before. IsBeforeSize (to_le_bytes w32 version ++ (opening true ++ (ins ++ (outs ++ before))))) rest e
    (λ before i. in_witness (record {
      version = version;
      version_fits = w.version_fits;
      inputs = inputs;
      inputs_fit = w.inputs_fit;
      outputs = outputs;
      outputs_fit = w.outputs_fit;
      lists = i.lists;
      lists_fit = i.lists_fit;
      fewer = omega (arith, i.fewer, w.inputs_fit.some);
      inner = i.inner;
      is_before = i.is_before;
      text = ap (λ (b : List ℕ). to_le_bytes w32 version ++ (opening true ++ (ins ++ (outs ++ b)))) i.text;
    })) f)))

told_at : (bytes : List ℕ) (at e : Spot) → at ≡ e → TransactionByte at.0 bytes at.1 → Told bytes e
told_at bytes at e is row = inr (subst (λ (s : Spot). TransactionByte s.0 bytes s.1) is row)

some_of : {A : Type 0} (Fits : A → Type 0) (xs : List A) → FitsListed IsCount Fits xs → FitsSome Fits xs
some_of Fits xs f = record { some = f.0.0; count = f.0.1; each = f.1 }

plain_told : (bytes body : List ℕ) (version first : ℕ) (rest : List ℕ) (e : Spot) → version < 2 ^ 32 → bytes ≡ to_le_bytes w32 version ++ body → body ≡ first ∷ rest → eqb first 0 ≡ false → IsBytes body
    → plain_body_from body ≡ Err e → Told bytes e
unfolding plain_body_from
plain_told bytes body version first rest e lt text is nonzero fits h =
    let inner = made_err (then_from (some_from NoInput input_from) (λ _. then_from (some_from NoOutput output_from) (λ _. number_from w32)) body) (λ (x : (List TxInput × (List TxOutput × ℕ)) × List ℕ). (plain_body x.0.0 x.0.1.0 x.0.1.1, x.1)) e h in
    elim (bind_err (some_from NoInput input_from body) (λ (x : List TxInput × List ℕ). then_from (some_from NoOutput output_from) (λ _. number_from w32) x.1 >>= λ (y : (List TxOutput × ℕ) × List ℕ). Ok ((x.0, y.0), y.1)) e inner) [
      | inl w ↦ elim (inputs_fault body e fits w) [
        | inl f ↦ inputs_told bytes body version false e lt text f
        | inr z ↦ absurd (not_zero first rest z.more (sym is ∙ z.bytes_is) nonzero)
      ]
      | inr x ↦
          let t = inputs_laws.takes body x.0 fits x.1 in
          let behind = made_err (then_from (some_from NoOutput output_from) (λ _. number_from w32) x.0.1) (λ (y : (List TxOutput × ℕ) × List ℕ). ((x.0.0, y.0), y.1)) e x.2 in
          elim (bind_err (some_from NoOutput output_from x.0.1) (λ (y : List TxOutput × List ℕ). number_from w32 y.1 >>= λ (z : ℕ × List ℕ). Ok ((y.0, z.0), z.1)) e behind) [
            | inl w ↦ elim (outputs_fault x.0.1 e t.rest_bytes w) [
              | inl f ↦ outputs_told bytes body x.0.1 version false x.0.0 e lt text (some_of FitsInput x.0.0 t.fits) t.parts f
              | inr z ↦ told_at bytes (NoOutput, x.0.1) e z.fault_is (record {
                version = version;
                version_fits = lt;
                witness = false;
                inputs = x.0.0;
                inputs_fit = some_of FitsInput x.0.0 t.fits;
                more = z.more;
                rest_is = z.bytes_is;
                text = text ∙ ap (λ (r : List ℕ). to_le_bytes w32 version ++ r) t.parts;
              })
            ]
            | inr y ↦ inl (number_cut w32 y.0.1 e (made_err (number_from w32 y.0.1) (λ (z : ℕ × List ℕ). ((y.0.0, z.0), z.1)) e y.2))
          ]
    ]
  where
    not_zero : (first : ℕ) (rest more : List ℕ) → first ∷ rest ≡ 0 ∷ more → eqb first 0 ≡ false → ⊥
    not_zero zero rest more e nonzero = absurd cc
    not_zero (suc n) rest more e nonzero = absurd cc

abbrev Parts : Type 0
Parts = List TxInput × (List TxOutput × (Stacks × ℕ))

flagged_told : (bytes body : List ℕ) (version : ℕ) (e : Spot) → version < 2 ^ 32 → bytes ≡ to_le_bytes w32 version ++ (opening true ++ body) → IsBytes body → flagged_body_from body ≡ Err e → Told bytes e
unfolding flagged_body_from
flagged_told bytes body version e lt text fits h =
    let behind_inputs : List TxInput → Reader TxKind (List TxOutput × (Stacks × ℕ)) = λ inputs. then_from (some_from NoOutput output_from) (λ _. then_from (stacks_from false (length inputs - 1)) (λ _. number_from w32)) in
    let inner = made_err (then_from (some_from NoInput input_from) behind_inputs body) (λ (x : Parts × List ℕ). (flagged_body x.0.0 x.0.1.0 x.0.1.1.0 x.0.1.1.1, x.1)) e h in
    elim (bind_err (some_from NoInput input_from body) (λ (x : List TxInput × List ℕ). behind_inputs x.0 x.1 >>= λ (y : (List TxOutput × (Stacks × ℕ)) × List ℕ). Ok ((x.0, y.0), y.1)) e inner) [
      | inl w ↦ elim (inputs_fault body e fits w) [
        | inl f ↦ inputs_told bytes body version true e lt text f
        | inr z ↦ told_at bytes (NoInput, body) e z.fault_is (record { version = version; version_fits = lt; more = z.more; rest_is = z.bytes_is; text = text })
      ]
      | inr x ↦
          let t = inputs_laws.takes body x.0 fits x.1 in
          let behind = made_err (behind_inputs x.0.0 x.0.1) (λ (y : (List TxOutput × (Stacks × ℕ)) × List ℕ). ((x.0.0, y.0), y.1)) e x.2 in
          let n = length x.0.0 - 1 in
          let whole : bytes ≡ to_le_bytes w32 version ++ (opening true ++ (counted_list input_text x.0.0 ++ x.0.1)) = text ∙ ap (λ (r : List ℕ). to_le_bytes w32 version ++ (opening true ++ r)) t.parts in
          elim (bind_err (some_from NoOutput output_from x.0.1) (λ (y : List TxOutput × List ℕ). then_from (stacks_from false n) (λ _. number_from w32) y.1 >>= λ (z : (Stacks × ℕ) × List ℕ). Ok ((y.0, z.0), z.1)) e behind) [
            | inl w ↦ elim (outputs_fault x.0.1 e t.rest_bytes w) [
              | inl f ↦ outputs_told bytes body x.0.1 version true x.0.0 e lt text (some_of FitsInput x.0.0 t.fits) t.parts f
              | inr z ↦ told_at bytes (NoOutput, x.0.1) e z.fault_is (record { version = version; version_fits = lt; witness = true; inputs = x.0.0; inputs_fit = some_of FitsInput x.0.0 t.fits; more = z.more; rest_is = z.bytes_is; text = whole })
            ]
            | inr y ↦
                let u = outputs_laws.takes x.0.1 y.0 t.rest_bytes y.1 in
                let last = made_err (then_from (stacks_from false n) (λ _. number_from w32) y.0.1) (λ (z : (Stacks × ℕ) × List ℕ). ((y.0.0, z.0), z.1)) e y.2 in
                elim (bind_err (stacks_from false n y.0.1) (λ (z : Stacks × List ℕ). number_from w32 z.1 >>= λ (k : ℕ × List ℕ). Ok ((z.0, k.0), k.1)) e last) [
                  | inl w ↦ elim (stacks_fault false n y.0.1 e u.rest_bytes w) [
                    | inl f ↦ witness_told bytes y.0.1 version x.0.0 y.0.0 e (record {
                      version_fits = lt;
                      inputs_fit = some_of FitsInput x.0.0 t.fits;
                      outputs_fit = some_of FitsOutput y.0.0 u.fits;
                      text = whole ∙ ap (λ (r : List ℕ). to_le_bytes w32 version ++ (opening true ++ (counted_list input_text x.0.0 ++ r))) u.parts;
                    }) f
                    | inr a ↦ told_at bytes (EmptyWitness, a.rest) e a.fault_is (record {
                      version = version;
                      version_fits = lt;
                      inputs = x.0.0;
                      inputs_fit = some_of FitsInput x.0.0 t.fits;
                      outputs = y.0.0;
                      outputs_fit = some_of FitsOutput y.0.0 u.fits;
                      more = a.more;
                      rest_is = a.rest_is;
                      text = whole ∙ ap (λ (r : List ℕ). to_le_bytes w32 version ++ (opening true ++ (counted_list input_text x.0.0 ++ r))) (u.parts ∙ ap (λ (r : List ℕ). counted_list output_text y.0.0 ++ r) a.text);
                    })
                  ]
                  | inr z ↦ inl (number_cut w32 z.0.1 e (made_err (number_from w32 z.0.1) (λ (k : ℕ × List ℕ). ((z.0.0, k.0), k.1)) e z.2))
                ]
          ]
    ]

-- ---- the whole transaction

abbrev failed_body : Spot → Answer Body
failed_body e = Err e

cut_of : (e : Spot) → failed_body (Cut, []) ≡ failed_body e → e.0 ≡ Cut
cut_of e h = let cut : Spot = (Cut, []) in ap (λ (s : Spot). s.0) (sym (err_is cut e h))

body_told : (bytes body : List ℕ) (version : ℕ) (e : Spot) → version < 2 ^ 32 → bytes ≡ to_le_bytes w32 version ++ body → IsBytes body → body_from body ≡ Err e → Told bytes e
unfolding body_from flag_from
body_told bytes [] version e lt text fits h = inl (cut_of e h)
body_told bytes (first ∷ rest) version e lt text fits h =
    elim (chosen {A = Answer Body} (eqb first 0) (flag_from rest) (plain_body_from (first ∷ rest)) (Err e) h) [
      | inl w ↦ flag_told rest (text ∙ ap (λ (b : ℕ). to_le_bytes w32 version ++ (b ∷ rest)) (eqb-true first 0 w.0)) (λ i. fits (suc i)) w.1
      | inr w ↦ plain_told bytes (first ∷ rest) version first rest e lt text refl w.0 fits w.1
    ]
  where
    flag_told : (rest : List ℕ) → bytes ≡ to_le_bytes w32 version ++ (0 ∷ rest) → IsBytes rest → flag_from rest ≡ Err e → Told bytes e
    flag_told [] text fits h = inl (cut_of e h)
    flag_told (flag ∷ more) text fits h =
        elim (chosen {A = Answer Body} (eqb flag 1) (flagged_body_from more) (Err (BadFlag, flag ∷ more)) (Err e) h) [
          | inl w ↦ flagged_told bytes more version e lt (text ∙ ap (λ (b : ℕ). to_le_bytes w32 version ++ (0 ∷ (b ∷ more))) (eqb-true flag 1 w.0)) (λ i. fits (suc i)) w.1
          | inr w ↦ told_at bytes (BadFlag, flag ∷ more) e (err_is (BadFlag, flag ∷ more) e w.1) (record { version = version; version_fits = lt; flag = flag; more = more; rest_is = refl; no_flag = eqb-false flag 1 w.0; text = text })
        ]

pub transaction_told : (bytes : List ℕ) (e : Spot) → IsBytes bytes → transaction_from bytes ≡ Err e → Told bytes e
unfolding transaction_from
transaction_told bytes e fits h =
    let inner = made_err (then_from (number_from w32) (λ _. body_from) bytes) (λ (x : (ℕ × Body) × List ℕ). (with_body x.0.0 x.0.1, x.1)) e h in
    elim (bind_err (number_from w32 bytes) (λ (x : ℕ × List ℕ). body_from x.1 >>= λ (y : Body × List ℕ). Ok ((x.0, y.0), y.1)) e inner) [
      | inl w ↦ inl (number_cut w32 bytes e w)
      | inr x ↦
          let t = laws32.takes bytes x.0 fits x.1 in
          body_told bytes x.0.1 x.0.0 e t.fits t.parts t.rest_bytes (made_err (body_from x.0.1) (λ (y : Body × List ℕ). ((x.0.0, y.0), y.1)) e x.2)
    ]
