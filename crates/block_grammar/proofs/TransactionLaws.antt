-- The laws of transactions.
use Rattle.std.proofs.Common.{◌≡◌, ℕ, zero, suc, ◌+◌, ◌-◌, ◌<◌, ◌^◌, Bool, true, false, ◌||◌, eqb, List, [], ◌∷◌, ◌++◌, length, Some, None, refl, sym, ap, ◌∙◌, append-nil, arith}
use Rattle.std.specs.Prelude.{Ok, IsTrue}
use Rattle.std.specs.List.{flat_map, list_any, AllByRecursion}
use Rattle.std.specs.Int.{w32, w64, to_le_bytes}
use Rattle.std.proofs.Math.Bool.{or_assoc, or-false}
use Rattle.block_grammar.specs.CompactSize.{compact_size, counted, counted_list}
use Rattle.block_grammar.specs.Transaction.{TxInput, TxOutput, input_text, output_text, FitsInput, FitsOutput, body_text}
use Rattle.block_grammar.specs.declared.kinds.TxKind.{TxKind}
use Rattle.block_grammar.specs.declared.kinds.TxKind.TheVariants.{NoInput, NoOutput, EmptyWitness}
use Rattle.block_grammar.specs.Kinds.{is_cut}
use Rattle.block_grammar.specs.Witness.{stack_text, FitsItem, FitsStack, has_item, FitsStacks}
use Rattle.block_grammar.specs.Combinators.{then_from}
use Rattle.block_grammar.specs.Reading.{number_from, piece_from, size_from, counted_from, some_from, input_from, output_from, stack_from, last_stack_from, stacks_from, Body, plain_body, flagged_body, plain_body_from, flagged_body_from}
use Rattle.block_grammar.proofs.ReaderLaws.{Reads, Nonzero, pair_text, PairFits, then_reads, map_reads, fits_reads, nonzero_reads}
use Rattle.block_grammar.proofs.FieldLaws.{itself, HasLength, IsBelow, IsShort, IsCount, FitsListed, piece_laws, laws32, laws64, counted_laws, some_laws, list_laws, zero_size, size_first}

-- ---- inputs and outputs

pub input_laws : Reads is_cut input_text FitsInput input_from
unfolding input_from input_text
input_laws =
    map_reads is_cut (λ (x : List ℕ × (ℕ × (List ℕ × ℕ))). record { txid = x.0; index = x.1.0; script = x.1.1.0; sequence = x.1.1.1 })
    (λ (i : TxInput). (i.txid, (i.index, (i.script, i.sequence))))
    _ _ _ input_text FitsInput
    (λ i fits. refl) (λ x fits. refl)
    (λ x fits. record { txid = fits.0; index = fits.1.0; script = fits.1.1.0; sequence = fits.1.1.1 })
    (λ i fits. (fits.txid, (fits.index, (fits.script, fits.sequence))))
    (then_reads is_cut itself (HasLength 32) (piece_from 32) _ _ (λ _. then_from (number_from w32) (λ _. then_from counted_from (λ _. number_from w32))) (piece_laws 32) (λ _ _.
    then_reads is_cut (to_le_bytes w32) (IsBelow (2 ^ 32)) (number_from w32) _ _ (λ _. then_from counted_from (λ _. number_from w32)) laws32 (λ _ _.
    then_reads is_cut counted IsShort counted_from (λ _. to_le_bytes w32) (λ _. IsBelow (2 ^ 32)) (λ _. number_from w32) counted_laws (λ _ _. laws32))))

pub output_laws : Reads is_cut output_text FitsOutput output_from
unfolding output_from output_text
output_laws =
    map_reads is_cut (λ (x : ℕ × List ℕ). record { value = x.0; script = x.1 }) (λ (o : TxOutput). (o.value, o.script))
    _ _ _ output_text FitsOutput
    (λ o fits. refl) (λ x fits. refl)
    (λ x fits. record { value = fits.0; script = fits.1 })
    (λ o fits. (fits.value, fits.script))
    (then_reads is_cut (to_le_bytes w64) (IsBelow (2 ^ 64)) (number_from w64) (λ _. counted) (λ _. IsShort) (λ _. counted_from) laws64 (λ _ _. counted_laws))

abbrev pub FitsInputs : List TxInput → Type 0
FitsInputs inputs = FitsListed IsCount FitsInput inputs

abbrev pub FitsOutputs : List TxOutput → Type 0
FitsOutputs outputs = FitsListed IsCount FitsOutput outputs

inputs_laws : Reads is_cut (counted_list input_text) FitsInputs (some_from NoInput input_from)
inputs_laws = some_laws NoInput input_text FitsInput input_from refl input_laws

outputs_laws : Reads is_cut (counted_list output_text) FitsOutputs (some_from NoOutput output_from)
outputs_laws = some_laws NoOutput output_text FitsOutput output_from refl output_laws

-- ---- the witness

pub stack_laws : Reads is_cut stack_text FitsStack stack_from
unfolding stack_from
stack_laws =
    fits_reads is_cut stack_text (FitsListed (IsBelow (2 ^ 64)) FitsItem) FitsStack stack_from
    (λ stack fits. record { count = fits.0; items = fits.1 }) (λ stack fits. (fits.count, fits.items))
    (list_laws counted FitsItem counted_from counted_laws)

-- a stack that the last one may be: with an item, unless one before it has one
abbrev FitsLast : Bool → List (List ℕ) → Type 0
FitsLast some stack = FitsStack stack × IsTrue (some || has_item stack)

no_item : List (List ℕ)
no_item = []

stack_nonzero : Nonzero {K = TxKind} stack_text FitsStack (FitsLast false) stack_from
unfolding stack_from size_from
stack_nonzero = record {
  fits = λ stack fits. fits.0;
  first_byte = first_byte;
  still = still;
  empty = empty;
  sample = [] ∷ [];
  sample_fits = (record { count = omega arith; items = (omega arith, tt) }, refl);
}
  where
    first_byte : (stack : List (List ℕ)) → FitsLast false stack → (b : ℕ) × (more : List ℕ) × (stack_text stack ≡ b ∷ more) × (eqb b 0 ≡ false)
    first_byte [] fits = absurd cc
    first_byte (item ∷ items) fits =
        let b = size_first (length (item ∷ items)) (omega arith) fits.0.count in
        (b.0, b.1 ++ flat_map counted (item ∷ items), ap (λ (t : List ℕ). t ++ flat_map counted (item ∷ items)) b.2, b.3)

    still : (stack : List (List ℕ)) (rest : List ℕ) (b : ℕ) (more : List ℕ) → FitsStack stack → stack_text stack ++ rest ≡ b ∷ more → eqb b 0 ≡ false → FitsLast false stack
    still [] rest b more fits e nonzero = absurd (zero_size rest b more (ap (λ (t : List ℕ). t ++ rest) (sym (append-nil (compact_size 0))) ∙ e) nonzero)
    still (item ∷ items) rest b more fits e nonzero = (fits, refl)

    empty : (x : List (List ℕ) × List ℕ) → stack_from [] ≡ Ok x → ⊥
    empty x e = cc

last_laws : (some : Bool) → Reads is_cut stack_text (FitsLast some) (last_stack_from some)
unfolding last_stack_from
last_laws true = fits_reads is_cut stack_text FitsStack (FitsLast true) stack_from (λ stack fits. (fits, refl)) (λ stack fits. fits.0) stack_laws
last_laws false = nonzero_reads is_cut EmptyWitness stack_text FitsStack (FitsLast false) stack_from refl stack_nonzero stack_laws

abbrev pub Stacks : Type 0
Stacks = List (List (List ℕ))

-- so many stacks and one more; one has an item, or one before them has
pub record FitsMore (some : Bool) (n : ℕ) (stacks : Stacks) : Type 0 where
  pub count : length stacks ≡ n + 1
  pub each : AllByRecursion FitsStack stacks
  pub item : IsTrue (some || list_any has_item stacks)

abbrev first : Stacks → List (List ℕ)
first [] = []
first (x ∷ xs) = x

last_one : (some : Bool) → Reads is_cut (flat_map stack_text) (FitsMore some 0) (stacks_from some 0)
unfolding stacks_from
last_one some =
    map_reads is_cut (λ (x : List (List ℕ)). x ∷ []) first
    stack_text (FitsLast some) (last_stack_from some) (flat_map stack_text) (FitsMore some 0)
    back (λ x fits. append-nil (stack_text x)) to from (last_laws some)
  where
    back : (y : Stacks) → FitsMore some 0 y → first y ∷ [] ≡ y
    back [] fits = absurd (omega (arith, fits.count))
    back (x ∷ []) fits = refl
    back (x ∷ y ∷ ys) fits = absurd (omega (arith, fits.count))

    to : (x : List (List ℕ)) → FitsLast some x → FitsMore some 0 (x ∷ [])
    to x fits = record { count = refl; each = (fits.0, tt); item = ap (λ (b : Bool). some || b) (or-false (has_item x)) ∙ fits.1 }

    from : (y : Stacks) → FitsMore some 0 y → FitsLast some (first y)
    from [] fits = absurd (omega (arith, fits.count))
    from (x ∷ []) fits = (fits.each.0, ap (λ (b : Bool). some || b) (sym (or-false (has_item x))) ∙ fits.item)
    from (x ∷ y ∷ ys) fits = absurd (omega (arith, fits.count))

abbrev parted : Stacks → List (List ℕ) × Stacks
parted [] = ([], [])
parted (x ∷ xs) = (x, xs)

one_more : (some : Bool) (n : ℕ) → ((before : Bool) → Reads is_cut (flat_map stack_text) (FitsMore before n) (stacks_from before n)) → Reads is_cut (flat_map stack_text) (FitsMore some (suc n)) (stacks_from some (suc n))
unfolding stacks_from
one_more some n rs =
    map_reads is_cut (λ (p : List (List ℕ) × Stacks). p.0 ∷ p.1) parted
    (pair_text stack_text (λ _. flat_map stack_text)) (PairFits FitsStack (λ x. FitsMore (some || has_item x) n)) (then_from stack_from (λ x. stacks_from (some || has_item x) n))
    (flat_map stack_text) (FitsMore some (suc n))
    back (λ p fits. refl) to from
    (then_reads is_cut stack_text FitsStack stack_from (λ _. flat_map stack_text) (λ x. FitsMore (some || has_item x) n) (λ x. stacks_from (some || has_item x) n) stack_laws (λ x _. rs (some || has_item x)))
  where
    back : (y : Stacks) → FitsMore some (suc n) y → (parted y).0 ∷ (parted y).1 ≡ y
    back [] fits = absurd (omega (arith, fits.count))
    back (x ∷ xs) fits = refl

    to : (p : List (List ℕ) × Stacks) → PairFits FitsStack (λ x. FitsMore (some || has_item x) n) p → FitsMore some (suc n) (p.0 ∷ p.1)
    to p fits = record { count = omega (arith, fits.1.count); each = (fits.0, fits.1.each); item = sym (or_assoc some (has_item p.0) (list_any has_item p.1)) ∙ fits.1.item }

    from : (y : Stacks) → FitsMore some (suc n) y → PairFits FitsStack (λ x. FitsMore (some || has_item x) n) (parted y)
    from [] fits = absurd (omega (arith, fits.count))
    from (x ∷ xs) fits = (fits.each.0, record { count = omega (arith, fits.count); each = fits.each.1; item = or_assoc some (has_item x) (list_any has_item xs) ∙ fits.item })

pub stacks_laws : (n : ℕ) (some : Bool) → Reads is_cut (flat_map stack_text) (FitsMore some n) (stacks_from some n)
stacks_laws zero some = last_one some
stacks_laws (suc n) some = one_more some n (stacks_laws n)

-- ---- what stands behind the version

abbrev pub text_of_body : Body → List ℕ
text_of_body (plain_body inputs outputs lock_time) = body_text inputs outputs None lock_time
text_of_body (flagged_body inputs outputs stacks lock_time) = body_text inputs outputs (Some stacks) lock_time

abbrev pub FitsBody : Body → Type 0
FitsBody (plain_body inputs outputs lock_time) = FitsInputs inputs × (FitsOutputs outputs × (lock_time < 2 ^ 32))
FitsBody (flagged_body inputs outputs stacks lock_time) = FitsInputs inputs × (FitsOutputs outputs × (FitsStacks (length inputs) stacks × (lock_time < 2 ^ 32)))

-- the plain ones, and the flagged ones behind marker and flag
abbrev pub PlainFits : Body → Type 0
PlainFits (plain_body inputs outputs lock_time) = FitsInputs inputs × (FitsOutputs outputs × (lock_time < 2 ^ 32))
PlainFits (flagged_body inputs outputs stacks lock_time) = ⊥

abbrev pub FlaggedFits : Body → Type 0
FlaggedFits (plain_body inputs outputs lock_time) = ⊥
FlaggedFits (flagged_body inputs outputs stacks lock_time) = FitsInputs inputs × (FitsOutputs outputs × (FitsStacks (length inputs) stacks × (lock_time < 2 ^ 32)))

abbrev FlaggedParts : Type 0
FlaggedParts = List TxInput × (List TxOutput × (Stacks × ℕ))

abbrev pub behind_flag : Body → List ℕ
behind_flag (plain_body inputs outputs lock_time) = []
behind_flag (flagged_body inputs outputs stacks lock_time) = counted_list input_text inputs ++ (counted_list output_text outputs ++ (flat_map stack_text stacks ++ to_le_bytes w32 lock_time))

abbrev plain_parts : Body → List TxInput × (List TxOutput × ℕ)
plain_parts (plain_body inputs outputs lock_time) = (inputs, (outputs, lock_time))
plain_parts (flagged_body inputs outputs stacks lock_time) = (inputs, (outputs, lock_time))

pub plain_laws : Reads is_cut text_of_body PlainFits plain_body_from
unfolding plain_body_from
plain_laws =
    map_reads is_cut (λ (x : List TxInput × (List TxOutput × ℕ)). plain_body x.0 x.1.0 x.1.1) plain_parts
    _ _ _ text_of_body PlainFits
    back (λ x fits. refl) (λ x fits. fits) from
    (then_reads is_cut (counted_list input_text) FitsInputs (some_from NoInput input_from) _ _ (λ _. then_from (some_from NoOutput output_from) (λ _. number_from w32)) inputs_laws (λ _ _.
    then_reads is_cut (counted_list output_text) FitsOutputs (some_from NoOutput output_from) (λ _. to_le_bytes w32) (λ _. IsBelow (2 ^ 32)) (λ _. number_from w32) outputs_laws (λ _ _. laws32)))
  where
    back : (y : Body) → PlainFits y → plain_body (plain_parts y).0 (plain_parts y).1.0 (plain_parts y).1.1 ≡ y
    back (plain_body inputs outputs lock_time) fits = refl
    back (flagged_body inputs outputs stacks lock_time) fits = absurd fits

    from : (y : Body) → PlainFits y → FitsInputs (plain_parts y).0 × (FitsOutputs (plain_parts y).1.0 × ((plain_parts y).1.1 < 2 ^ 32))
    from (plain_body inputs outputs lock_time) fits = fits
    from (flagged_body inputs outputs stacks lock_time) fits = absurd fits

-- as many stacks as inputs
witness_laws : (inputs : List TxInput) → FitsInputs inputs → Reads is_cut (flat_map stack_text) (FitsStacks (length inputs)) (stacks_from false (length inputs - 1))
witness_laws inputs fits =
    fits_reads is_cut (flat_map stack_text) (FitsMore false (length inputs - 1)) (FitsStacks (length inputs)) (stacks_from false (length inputs - 1))
    (λ stacks f. record { one_each = omega (arith, f.count, fits.0.0); stacks = f.each; some_item = f.item })
    (λ stacks f. record { count = omega (arith, f.one_each, fits.0.0); each = f.stacks; item = f.some_item })
    (stacks_laws (length inputs - 1) false)

abbrev flagged_parts : Body → FlaggedParts
flagged_parts (plain_body inputs outputs lock_time) = (inputs, (outputs, ([], lock_time)))
flagged_parts (flagged_body inputs outputs stacks lock_time) = (inputs, (outputs, (stacks, lock_time)))

pub flagged_laws : Reads is_cut behind_flag FlaggedFits flagged_body_from
unfolding flagged_body_from
flagged_laws =
    map_reads is_cut (λ (x : FlaggedParts). flagged_body x.0 x.1.0 x.1.1.0 x.1.1.1) flagged_parts
    _ _ _ behind_flag FlaggedFits
    back (λ x fits. refl) (λ x fits. fits) from
    (then_reads is_cut (counted_list input_text) FitsInputs (some_from NoInput input_from) _ _ (λ inputs. then_from (some_from NoOutput output_from) (λ _. then_from (stacks_from false (length inputs - 1)) (λ _. number_from w32))) inputs_laws (λ inputs fits.
    then_reads is_cut (counted_list output_text) FitsOutputs (some_from NoOutput output_from) _ _ (λ _. then_from (stacks_from false (length inputs - 1)) (λ _. number_from w32)) outputs_laws (λ _ _.
    then_reads is_cut (flat_map stack_text) (FitsStacks (length inputs)) (stacks_from false (length inputs - 1)) (λ _. to_le_bytes w32) (λ _. IsBelow (2 ^ 32)) (λ _. number_from w32) (witness_laws inputs fits) (λ _ _. laws32))))
  where
    back : (y : Body) → FlaggedFits y → flagged_body (flagged_parts y).0 (flagged_parts y).1.0 (flagged_parts y).1.1.0 (flagged_parts y).1.1.1 ≡ y
    back (plain_body inputs outputs lock_time) fits = absurd fits
    back (flagged_body inputs outputs stacks lock_time) fits = refl

    from : (y : Body) → FlaggedFits y → FitsInputs (flagged_parts y).0 × (FitsOutputs (flagged_parts y).1.0 × (FitsStacks (length (flagged_parts y).0) (flagged_parts y).1.1.0 × ((flagged_parts y).1.1.1 < 2 ^ 32)))
    from (plain_body inputs outputs lock_time) fits = absurd fits
    from (flagged_body inputs outputs stacks lock_time) fits = fits
