-- The parts of a transaction's text that its txid covers.
use Rattle.std.proofs.Common.{◌≡◌, ℕ, suc, ◌-◌, ◌≤◌, false, List, [], ◌∷◌, ◌++◌, length, take, refl, sym, ap, subst, ◌∙◌, append_assoc, append-nil, arith}
use Rattle.std.specs.Prelude.{Ok}
use Rattle.std.specs.Int.{w32, to_le_bytes}
use Rattle.block_grammar.specs.Transaction.{TxInput, TxOutput, input_text, output_text, FitsInput, FitsOutput, Transaction, stripped_text}
use Rattle.block_grammar.specs.CompactSize.{counted_list}
use Rattle.block_grammar.proofs.Readers.{IsBytes}
use Rattle.block_grammar.specs.declared.kinds.TxKind.TheVariants.{NoInput, NoOutput}
use Rattle.block_grammar.specs.Reading.{number_from, some_from, input_from, output_from, stacks_from}
use Rattle.block_grammar.proofs.FieldLaws.{laws32, some_laws}
use Rattle.block_grammar.proofs.TransactionLaws.{input_laws, output_laws, stacks_laws}
use Rattle.block_grammar.proofs.PlaceLaws.{is_place}

-- ---- inputs and outputs

abbrev puts_text : List TxInput → List TxOutput → List ℕ
puts_text inputs outputs = counted_list input_text inputs ++ counted_list output_text outputs

pub record IsPuts (bytes after : List ℕ) (inputs : List TxInput) (outputs : List TxOutput) : Type 0 where
  pub shorter : length after ≤ length bytes
  pub text : take (length bytes - length after) bytes ≡ puts_text inputs outputs
  pub whole : bytes ≡ take (length bytes - length after) bytes ++ after
  pub some : 1 ≤ length inputs

pub is_puts : (bytes rest after : List ℕ) (inputs : List TxInput) (outputs : List TxOutput) → IsBytes bytes → Ok (inputs, rest) ≡ some_from NoInput input_from bytes
    → Ok (outputs, after) ≡ some_from NoOutput output_from rest → IsPuts bytes after inputs outputs
is_puts bytes rest after inputs outputs fits e e' =
    let t1 = (some_laws NoInput input_text FitsInput input_from refl input_laws).takes bytes (inputs, rest) fits (sym e) in
    let t2 = (some_laws NoOutput output_text FitsOutput output_from refl output_laws).takes rest (outputs, after) t1.rest_bytes (sym e') in
    let parts : bytes ≡ puts_text inputs outputs ++ after =
    t1.parts ∙ ap (λ (t : List ℕ). counted_list input_text inputs ++ t) t2.parts ∙ sym (append_assoc (counted_list input_text inputs) (counted_list output_text outputs) after) in
    let p = is_place bytes (puts_text inputs outputs) after parts in
    record { shorter = omega (arith, p.count); text = p.taken; whole = parts ∙ ap (λ (t : List ℕ). t ++ after) (sym p.taken); some = t1.fits.0.0 }

-- ---- the bytes of a part are bytes

IsBytes-behind : (xs ys : List ℕ) → IsBytes (xs ++ ys) → IsBytes ys
IsBytes-behind [] ys h = h
IsBytes-behind (x ∷ xs) ys h = IsBytes-behind xs ys (λ i. h (suc i))

pub rest_fits : (bytes text rest : List ℕ) → IsBytes bytes → bytes ≡ text ++ rest → IsBytes rest
rest_fits bytes text rest fits e = IsBytes-behind text rest (subst IsBytes e fits)

pub version_parts : (bytes : List ℕ) (version : ℕ) (rest : List ℕ) → IsBytes bytes → Ok (version, rest) ≡ number_from w32 bytes → bytes ≡ to_le_bytes w32 version ++ rest
version_parts bytes version rest fits e = (laws32.takes bytes (version, rest) fits (sym e)).parts

-- ---- the whole text

record IsLock (rest after : List ℕ) (lock_time : ℕ) : Type 0 where
  parts : rest ≡ to_le_bytes w32 lock_time ++ after
  shorter : length after ≤ length rest
  text : take (length rest - length after) rest ≡ to_le_bytes w32 lock_time

is_lock : (rest after : List ℕ) (lock_time : ℕ) → IsBytes rest → Ok (lock_time, after) ≡ number_from w32 rest → IsLock rest after lock_time
is_lock rest after lock_time fits e =
    let t = laws32.takes rest (lock_time, after) fits (sym e) in
    let p = is_place rest (to_le_bytes w32 lock_time) after t.parts in
    record { parts = t.parts; shorter = omega (arith, p.count); text = p.taken }

stripped_parts : (t : Transaction) → stripped_text t ≡ to_le_bytes w32 t.version ++ (puts_text t.inputs t.outputs ++ to_le_bytes w32 t.lock_time)
unfolding stripped_text
stripped_parts t = ap (λ (x : List ℕ). to_le_bytes w32 t.version ++ x) (sym (append_assoc (counted_list input_text t.inputs) (counted_list output_text t.outputs) (to_le_bytes w32 t.lock_time)))

pub plain_text : (t : Transaction) (whole bytes text rest after : List ℕ) → IsBytes bytes → whole ≡ to_le_bytes w32 t.version ++ bytes → bytes ≡ text ++ rest → text ≡ puts_text t.inputs t.outputs
    → Ok (t.lock_time, after) ≡ number_from w32 rest → take (length whole - length after) whole ++ ([] ++ []) ≡ stripped_text t
plain_text t whole bytes text rest after fits w b puts e =
    let l = is_lock rest after t.lock_time (rest_fits bytes text rest fits b) e in
    let v = to_le_bytes w32 t.version in
    let lock = to_le_bytes w32 t.lock_time in
    let parts : whole ≡ (v ++ (text ++ lock)) ++ after =
    w ∙ ap (λ (x : List ℕ). v ++ x) (b ∙ ap (λ (x : List ℕ). text ++ x) l.parts ∙ sym (append_assoc text lock after)) ∙ sym (append_assoc v (text ++ lock) after) in
    let p = is_place whole (v ++ (text ++ lock)) after parts in
    append-nil (take (length whole - length after) whole) ∙ p.taken ∙ ap (λ (x : List ℕ). v ++ (x ++ lock)) puts ∙ sym (stripped_parts t)

pub witness_fits : (n : ℕ) (rest : List ℕ) (stacks : List (List (List ℕ))) (behind : List ℕ) → IsBytes rest → Ok (stacks, behind) ≡ stacks_from false n rest → IsBytes behind
witness_fits n rest stacks behind fits e = ((stacks_laws n false).takes rest (stacks, behind) fits (sym e)).rest_bytes

pub flagged_text : (t : Transaction) (front bytes text rest behind after : List ℕ) (n : ℕ) (stacks : List (List (List ℕ))) → IsBytes bytes → front ≡ to_le_bytes w32 t.version → bytes ≡ text ++ rest
    → text ≡ puts_text t.inputs t.outputs → Ok (stacks, behind) ≡ stacks_from false n rest → Ok (t.lock_time, after) ≡ number_from w32 behind
    → front ++ (text ++ take (length behind - length after) behind) ≡ stripped_text t
flagged_text t front bytes text rest behind after n stacks fits v b puts s e =
    let l = is_lock behind after t.lock_time (witness_fits n rest stacks behind (rest_fits bytes text rest fits b) s) e in
    ap (λ (x : List ℕ). x ++ (text ++ take (length behind - length after) behind)) v
    ∙ ap (λ (x : List ℕ). to_le_bytes w32 t.version ++ (text ++ x)) l.text
    ∙ ap (λ (x : List ℕ). to_le_bytes w32 t.version ++ (x ++ to_le_bytes w32 t.lock_time)) puts
    ∙ sym (stripped_parts t)
