-- The laws of what stands behind a transaction's version, and of the transaction.
use Rattle.std.proofs.Common.{◌≡◌, ℕ, suc, ◌<◌, ◌^◌, eqb, List, [], ◌∷◌, ◌++◌, Option, Some, None, refl, sym, ap, subst, ◌∙◌, inl, inr}
use Rattle.std.specs.Prelude.{Ok, Err}
use Rattle.std.specs.Int.{w32, to_le_bytes}
use Rattle.std.proofs.lemmas.Bool.{cases_Bool, eqb-true}
use Rattle.block_grammar.specs.Transaction.{TxInput, TxOutput, Transaction, transaction_text, FitsTransaction}
use Rattle.block_grammar.proofs.Readers.{IsBytes, Took}
use Rattle.block_grammar.specs.declared.kinds.TxKind.{TxKind}
use Rattle.block_grammar.specs.declared.kinds.TxKind.TheVariants.{Cut, BadFlag, NoInput}
use Rattle.block_grammar.specs.Kinds.{is_cut}
use Rattle.block_grammar.specs.Combinators.{then_from}
use Rattle.block_grammar.specs.Reading.{number_from, size_from, Body, plain_body, flagged_body, plain_body_from, flagged_body_from, flag_from, body_from, with_body, transaction_from}
use Rattle.block_grammar.proofs.ReaderLaws.{Reads, Stops, runs_out, meets, halts_as, head_halt, err_is, ok_err, pair_text, PairFits, then_reads, map_reads}
use Rattle.block_grammar.proofs.FieldLaws.{IsBelow, laws32}
use Rattle.block_grammar.proofs.TransactionLaws.{Stacks, text_of_body, FitsBody, PlainFits, FlaggedFits, behind_flag, plain_laws, flagged_laws}

abbrev Spot : Type 0
Spot = TxKind × List ℕ

abbrev cut : Spot
cut = (Cut, [])

-- ---- the flag, and what it announces

abbrev flag_text : Body → List ℕ
flag_text body = 1 ∷ behind_flag body

flag_takes : (bytes : List ℕ) (x : Body × List ℕ) → IsBytes bytes → flag_from bytes ≡ Ok x → Took flag_text FlaggedFits bytes x
unfolding flag_from
flag_takes [] x fits e = absurd cc
flag_takes (flag ∷ rest) x fits e =
    elim (cases_Bool (eqb flag 1)) [
      | inl one ↦
          let read : flagged_body_from rest ≡ Ok x = rw one at e in
          let t = flagged_laws.takes rest x (λ i. fits (suc i)) read in
          let is : flag ≡ 1 = eqb-true flag 1 one in
          record { parts = ap (λ (b : ℕ). b ∷ rest) is ∙ ap (λ (t : List ℕ). 1 ∷ t) t.parts; fits = t.fits; rest_bytes = t.rest_bytes }
      | inr other ↦
          let read : flag_from (flag ∷ rest) ≡ Err (BadFlag, flag ∷ rest) = rw other refl in
          absurd (ok_err (flag_from (flag ∷ rest)) x (BadFlag, flag ∷ rest) e read)
    ]

flag_stops : (bytes : List ℕ) (e : Spot) → IsBytes bytes → flag_from bytes ≡ Err e → Stops is_cut flag_text FlaggedFits flag_from bytes e
unfolding flag_from
flag_stops [] e fits h =
    subst (λ (v : Spot). Stops is_cut flag_text FlaggedFits flag_from [] v) (err_is cut e h)
    (record { front = []; parts = refl; begun = record { value = flagged_laws.sample; fits = flagged_laws.sample_fits; more = flag_text flagged_laws.sample; text_is = refl }; how = runs_out refl refl })
flag_stops (flag ∷ rest) e fits h =
    elim (cases_Bool (eqb flag 1)) [
      | inl one ↦
          let read : flagged_body_from rest ≡ Err e = rw one at h in
          let s = flagged_laws.stops rest e (λ i. fits (suc i)) read in
          let is : flag ≡ 1 = eqb-true flag 1 one in
          record {
            front = 1 ∷ s.front;
            parts = ap (λ (b : ℕ). b ∷ rest) is ∙ ap (λ (t : List ℕ). 1 ∷ t) s.parts;
            begun = record { value = s.begun.value; fits = s.begun.fits; more = s.begun.more; text_is = ap (λ (t : List ℕ). 1 ∷ t) s.begun.text_is };
            how = halts_as is_cut flagged_body_from flag_from s.front (1 ∷ s.front) e (λ b w h'. h') s.how;
          }
      | inr other ↦
          let spot : Spot = (BadFlag, flag ∷ rest) in
          let read : flag_from (flag ∷ rest) ≡ Err spot = rw other refl in
          subst (λ (v : Spot). Stops is_cut flag_text FlaggedFits flag_from (flag ∷ rest) v) (err_is spot e (sym read ∙ h))
          (record {
            front = [];
            parts = refl;
            begun = record { value = flagged_laws.sample; fits = flagged_laws.sample_fits; more = flag_text flagged_laws.sample; text_is = refl };
            how = meets flag rest refl refl (λ more. rw other refl);
          })
    ]

-- ---- marker or not

flagged_text : (y : Body) → FlaggedFits y → text_of_body y ≡ 0 ∷ flag_text y
flagged_text (plain_body inputs outputs lock_time) fits = absurd fits
flagged_text (flagged_body inputs outputs stacks lock_time) fits = refl

flagged_fits : (y : Body) → FlaggedFits y → FitsBody y
flagged_fits (plain_body inputs outputs lock_time) fits = absurd fits
flagged_fits (flagged_body inputs outputs stacks lock_time) fits = fits

plain_fits : (y : Body) → PlainFits y → FitsBody y
plain_fits (plain_body inputs outputs lock_time) fits = fits
plain_fits (flagged_body inputs outputs stacks lock_time) fits = absurd fits

body_takes : (bytes : List ℕ) (x : Body × List ℕ) → IsBytes bytes → body_from bytes ≡ Ok x → Took text_of_body FitsBody bytes x
unfolding body_from
body_takes [] x fits e = absurd cc
body_takes (first ∷ rest) x fits e =
    elim (cases_Bool (eqb first 0)) [
      | inl marked ↦
          let read : flag_from rest ≡ Ok x = rw marked at e in
          let t = flag_takes rest x (λ i. fits (suc i)) read in
          let is : first ≡ 0 = eqb-true first 0 marked in
          record {
            parts = ap (λ (b : ℕ). b ∷ rest) is ∙ ap (λ (r : List ℕ). 0 ∷ r) t.parts ∙ ap (λ (r : List ℕ). r ++ x.1) (sym (flagged_text x.0 t.fits));
            fits = flagged_fits x.0 t.fits;
            rest_bytes = t.rest_bytes;
          }
      | inr clear ↦
          let read : plain_body_from (first ∷ rest) ≡ Ok x = rw clear at e in
          let t = plain_laws.takes (first ∷ rest) x fits read in
          record { parts = t.parts; fits = plain_fits x.0 t.fits; rest_bytes = t.rest_bytes }
    ]

-- no plain body begins with 00
plain_ok : (bytes : List ℕ) (x : Body × List ℕ) → plain_body_from bytes ≡ Ok x → body_from bytes ≡ Ok x
unfolding body_from plain_body_from size_from
plain_ok [] x e = absurd cc
plain_ok (first ∷ rest) x e =
    elim (cases_Bool (eqb first 0)) [
      | inl marked ↦
          let read : plain_body_from (first ∷ rest) ≡ Err (NoInput, first ∷ rest) = rw marked refl in
          absurd (ok_err (plain_body_from (first ∷ rest)) x (NoInput, first ∷ rest) e read)
      | inr clear ↦
          let same : body_from (first ∷ rest) ≡ plain_body_from (first ∷ rest) = rw clear refl in
          same ∙ e
    ]

body_again : (y : Body) (rest : List ℕ) → FitsBody y → body_from (text_of_body y ++ rest) ≡ Ok (y, rest)
unfolding body_from flag_from
body_again (plain_body inputs outputs lock_time) rest fits =
    plain_ok (text_of_body (plain_body inputs outputs lock_time) ++ rest) (plain_body inputs outputs lock_time, rest) (plain_laws.again (plain_body inputs outputs lock_time) rest fits)
body_again (flagged_body inputs outputs stacks lock_time) rest fits = flagged_laws.again (flagged_body inputs outputs stacks lock_time) rest fits

body_stops : (bytes : List ℕ) (e : Spot) → IsBytes bytes → body_from bytes ≡ Err e → Stops is_cut text_of_body FitsBody body_from bytes e
unfolding body_from
body_stops [] e fits h =
    subst (λ (v : Spot). Stops is_cut text_of_body FitsBody body_from [] v) (err_is cut e h)
    (record { front = []; parts = refl; begun = record { value = plain_laws.sample; fits = plain_fits plain_laws.sample plain_laws.sample_fits; more = text_of_body plain_laws.sample; text_is = refl }; how = runs_out refl refl })
body_stops (first ∷ rest) e fits h =
    elim (cases_Bool (eqb first 0)) [
      | inl marked ↦
          let read : flag_from rest ≡ Err e = rw marked at h in
          let s = flag_stops rest e (λ i. fits (suc i)) read in
          let is : first ≡ 0 = eqb-true first 0 marked in
          let v = s.begun.value in
          record {
            front = 0 ∷ s.front;
            parts = ap (λ (b : ℕ). b ∷ rest) is ∙ ap (λ (t : List ℕ). 0 ∷ t) s.parts;
            begun = record { value = v; fits = flagged_fits v s.begun.fits; more = s.begun.more; text_is = flagged_text v s.begun.fits ∙ ap (λ (t : List ℕ). 0 ∷ t) s.begun.text_is };
            how = halts_as is_cut flag_from body_from s.front (0 ∷ s.front) e (λ b w h'. h') s.how;
          }
      | inr clear ↦
          let read : plain_body_from (first ∷ rest) ≡ Err e = rw clear at h in
          let s = plain_laws.stops (first ∷ rest) e fits read in
          let v = s.begun.value in
          record {
            front = s.front;
            parts = s.parts;
            begun = record { value = v; fits = plain_fits v s.begun.fits; more = s.begun.more; text_is = s.begun.text_is };
            how = head_halt is_cut plain_body_from body_from s.front e first rest s.parts (λ t. rw clear refl) s.how;
          }
    ]

pub body_laws : Reads is_cut text_of_body FitsBody body_from
body_laws = record {
  takes = body_takes;
  again = body_again;
  stops = body_stops;
  sample = plain_laws.sample;
  sample_fits = plain_fits plain_laws.sample plain_laws.sample_fits;
}

-- ---- transactions

abbrev parted_body : List TxInput → List TxOutput → Option Stacks → ℕ → Body
parted_body inputs outputs None lock_time = plain_body inputs outputs lock_time
parted_body inputs outputs (Some stacks) lock_time = flagged_body inputs outputs stacks lock_time

abbrev body_of : Transaction → Body
body_of t = parted_body t.inputs t.outputs t.witness t.lock_time

whole_again : (version : ℕ) (inputs : List TxInput) (outputs : List TxOutput) (witness : Option Stacks) (lock_time : ℕ)
    → with_body version (parted_body inputs outputs witness lock_time) ≡ record { version = version; inputs = inputs; outputs = outputs; witness = witness; lock_time = lock_time }
whole_again version inputs outputs None lock_time = refl
whole_again version inputs outputs (Some stacks) lock_time = refl

whole_text : (version : ℕ) (body : Body) → transaction_text (with_body version body) ≡ to_le_bytes w32 version ++ text_of_body body
unfolding transaction_text
whole_text version (plain_body inputs outputs lock_time) = refl
whole_text version (flagged_body inputs outputs stacks lock_time) = refl

whole_fits : (version : ℕ) (body : Body) → version < 2 ^ 32 → FitsBody body → FitsTransaction (with_body version body)
whole_fits version (plain_body inputs outputs lock_time) below fits = record {
  version = below;
  some_input = fits.0.0.0;
  input_count = fits.0.0.1;
  inputs = fits.0.1;
  some_output = fits.1.0.0.0;
  output_count = fits.1.0.0.1;
  outputs = fits.1.0.1;
  witness = tt;
  lock_time = fits.1.1;
}
whole_fits version (flagged_body inputs outputs stacks lock_time) below fits = record {
  version = below;
  some_input = fits.0.0.0;
  input_count = fits.0.0.1;
  inputs = fits.0.1;
  some_output = fits.1.0.0.0;
  output_count = fits.1.0.0.1;
  outputs = fits.1.0.1;
  witness = fits.1.1.0;
  lock_time = fits.1.1.1;
}

parts_fit : (version : ℕ) (inputs : List TxInput) (outputs : List TxOutput) (witness : Option Stacks) (lock_time : ℕ)
    → FitsTransaction (record { version = version; inputs = inputs; outputs = outputs; witness = witness; lock_time = lock_time })
    → (version < 2 ^ 32) × FitsBody (parted_body inputs outputs witness lock_time)
parts_fit version inputs outputs None lock_time fits = (fits.version, (((fits.some_input, fits.input_count), fits.inputs), (((fits.some_output, fits.output_count), fits.outputs), fits.lock_time)))
parts_fit version inputs outputs (Some stacks) lock_time fits =
    (fits.version, (((fits.some_input, fits.input_count), fits.inputs), (((fits.some_output, fits.output_count), fits.outputs), (fits.witness, fits.lock_time))))

pub transaction_laws : Reads is_cut transaction_text FitsTransaction transaction_from
unfolding transaction_from
transaction_laws =
    map_reads is_cut (λ (x : ℕ × Body). with_body x.0 x.1) (λ (t : Transaction). (t.version, body_of t))
    (pair_text (to_le_bytes w32) (λ _. text_of_body)) (PairFits (IsBelow (2 ^ 32)) (λ _. FitsBody)) (then_from (number_from w32) (λ _. body_from)) transaction_text FitsTransaction
    (λ t fits. whole_again t.version t.inputs t.outputs t.witness t.lock_time) (λ x fits. whole_text x.0 x.1) (λ x fits. whole_fits x.0 x.1 fits.0 fits.1)
    (λ t fits. parts_fit t.version t.inputs t.outputs t.witness t.lock_time fits)
    (then_reads is_cut (to_le_bytes w32) (IsBelow (2 ^ 32)) (number_from w32) (λ _. text_of_body) (λ _. FitsBody) (λ _. body_from) laws32 (λ _ _. body_laws))
