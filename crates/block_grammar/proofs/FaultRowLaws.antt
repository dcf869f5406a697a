-- The table of faults of a transaction, and of a compact size, and the reader on lists.
use Rattle.std.proofs.Common.{◌≡◌, ℕ, ◌⊎◌, false, List, [], ◌∷◌, ◌++◌, refl, sym, ap, subst, ◌∙◌, inl, inr}
use Rattle.std.specs.Prelude.{Err}
use Rattle.block_grammar.specs.declared.kinds.TxKind.{TxKind}
use Rattle.block_grammar.specs.declared.kinds.TxKind.TheVariants.{Cut, LongForm, BadFlag, NoInput, NoOutput, EmptyWitness}
use Rattle.block_grammar.specs.Kinds.{is_cut}
use Rattle.block_grammar.specs.FaultRows.{IsLongSize, IsFirst, SizeByte, TransactionByte}
use Rattle.block_grammar.specs.Reading.{size_from, transaction_from}
use Rattle.block_grammar.proofs.Readers.{IsBytes}
use Rattle.block_grammar.proofs.RowLaws.{ByTable}
use Rattle.block_grammar.proofs.SizeRowLaws.{Spot, FieldFault, ends, longer, size_sized, long_met, long_left}
use Rattle.block_grammar.proofs.RowsMet.{flag_met, input_met, output_met, witness_met, long_form_met}
use Rattle.block_grammar.proofs.RowsTold.{transaction_told}

pub transaction_bytes : ByTable TransactionByte transaction_from
transaction_bytes = record { told = transaction_told; met = met; own = own; some = some }
  where
    met : (bytes : List ℕ) (kind : TxKind) (rest : List ℕ) → TransactionByte kind bytes rest → transaction_from bytes ≡ Err (kind, rest)
    met bytes Cut rest f = absurd f
    met bytes LongForm rest f = long_form_met bytes rest f
    met bytes BadFlag rest f = flag_met bytes rest f
    met bytes NoInput rest f = input_met bytes rest f
    met bytes NoOutput rest f = output_met bytes rest f
    met bytes EmptyWitness rest f = witness_met bytes rest f

    own : (bytes : List ℕ) (kind : TxKind) (rest : List ℕ) → TransactionByte kind bytes rest → is_cut kind ≡ false
    own bytes Cut rest f = absurd f
    own bytes LongForm rest f = refl
    own bytes BadFlag rest f = refl
    own bytes NoInput rest f = refl
    own bytes NoOutput rest f = refl
    own bytes EmptyWitness rest f = refl

    left : (b : ℕ) (more : List ℕ) → b ∷ more ≡ [] → ⊥
    left b more e = cc

    some : (bytes : List ℕ) (kind : TxKind) (rest : List ℕ) → TransactionByte kind bytes rest → rest ≡ [] → ⊥
    some bytes Cut rest f none = f
    some bytes LongForm rest f none = long_left f.behind rest f.long none
    some bytes BadFlag rest f none = left f.flag f.more (sym f.rest_is ∙ none)
    some bytes NoInput rest f none = left 0 f.more (sym f.rest_is ∙ none)
    some bytes NoOutput rest f none = left 0 f.more (sym f.rest_is ∙ none)
    some bytes EmptyWitness rest f none = left 0 f.more (sym f.rest_is ∙ none)

-- ---- a compact size alone

pub size_bytes : ByTable SizeByte size_from
size_bytes = record { told = told; met = met; own = own; some = some }
  where
    by_fault : (bytes : List ℕ) (e : Spot) → FieldFault IsFirst bytes e → (e.0 ≡ Cut) ⊎ SizeByte e.0 bytes e.1
    by_fault bytes e (ends is) = inl is
    by_fault bytes e (longer is h) =
        let here : bytes ≡ h.behind = h.text ∙ ap (λ (b : List ℕ). b ++ h.behind) h.is_before in
        inr (subst (λ (k : TxKind). SizeByte k bytes e.1) (sym is) (subst (λ (b : List ℕ). IsLongSize b e.1) (sym here) h.long))

    told : (bytes : List ℕ) (e : Spot) → IsBytes bytes → size_from bytes ≡ Err e → (e.0 ≡ Cut) ⊎ SizeByte e.0 bytes e.1
    told bytes e fits h = by_fault bytes e (size_sized bytes e fits h)

    met : (bytes : List ℕ) (kind : TxKind) (rest : List ℕ) → SizeByte kind bytes rest → size_from bytes ≡ Err (kind, rest)
    met bytes Cut rest f = absurd f
    met bytes LongForm rest f = long_met bytes rest f
    met bytes BadFlag rest f = absurd f
    met bytes NoInput rest f = absurd f
    met bytes NoOutput rest f = absurd f
    met bytes EmptyWitness rest f = absurd f

    own : (bytes : List ℕ) (kind : TxKind) (rest : List ℕ) → SizeByte kind bytes rest → is_cut kind ≡ false
    own bytes Cut rest f = absurd f
    own bytes LongForm rest f = refl
    own bytes BadFlag rest f = refl
    own bytes NoInput rest f = refl
    own bytes NoOutput rest f = refl
    own bytes EmptyWitness rest f = refl

    some : (bytes : List ℕ) (kind : TxKind) (rest : List ℕ) → SizeByte kind bytes rest → rest ≡ [] → ⊥
    some bytes Cut rest f none = f
    some bytes LongForm rest f none = long_left bytes rest f none
    some bytes BadFlag rest f none = f
    some bytes NoInput rest f none = f
    some bytes NoOutput rest f none = f
    some bytes EmptyWitness rest f none = f
