-- The table of faults and a reader on lists, both ways, for any reader whose faults are those of the table.
use Rattle.std.proofs.Common.{◌≡◌, ℕ, ◌-◌, ◌≤◌, ◌⊎◌, false, List, [], ◌++◌, length, drop, refl, sym, ap, subst, ◌∙◌, arith, inl, inr}
use Rattle.std.specs.Prelude.{Result, Ok, Err}
use Rattle.std.proofs.lemmas.List.{drop_at, length-drop}
use Rattle.block_grammar.specs.declared.kinds.TxKind.{TxKind}
use Rattle.block_grammar.specs.declared.kinds.TxKind.TheVariants.{Cut, LongForm, BadFlag, NoInput, NoOutput, EmptyWitness}
use Rattle.block_grammar.specs.Kinds.{is_cut}
use Rattle.block_grammar.specs.FaultRows.{FaultRow, IsTableFault}
use Rattle.block_grammar.specs.Combinators.{Reader}
use Rattle.block_grammar.proofs.Readers.{IsBytes}
use Rattle.block_grammar.proofs.ReaderLaws.{Reads, Halt, runs_out, meets}
use Rattle.block_grammar.proofs.PlaceLaws.{is_place, one_place}
use Rattle.block_grammar.proofs.Statements.{front_place}

abbrev Spot : Type 0
Spot = TxKind × List ℕ

abbrev Byte : Type 1
Byte = TxKind → List ℕ → List ℕ → Type 0

-- a reader's faults are those of the table
pub record ByTable {A : Type 0} (Fault : Byte) (read : Reader TxKind A) : Type 0 where
  pub told : (bytes : List ℕ) (e : Spot) → IsBytes bytes → read bytes ≡ Err e → (e.0 ≡ Cut) ⊎ Fault e.0 bytes e.1
  pub met : (bytes : List ℕ) (kind : TxKind) (rest : List ℕ) → Fault kind bytes rest → read bytes ≡ Err (kind, rest)
  pub own : (bytes : List ℕ) (kind : TxKind) (rest : List ℕ) → Fault kind bytes rest → is_cut kind ≡ false
  pub some : (bytes : List ℕ) (kind : TxKind) (rest : List ℕ) → Fault kind bytes rest → rest ≡ [] → ⊥

-- ---- from the reader to the table

cut_row : {A : Type 0} (Fault : Byte) (read : Reader TxKind A) (bytes : List ℕ) (kind : TxKind) (rest front : List ℕ) → kind ≡ Cut → Halt is_cut read front (kind, rest) → FaultRow Fault kind bytes rest
cut_row Fault read bytes kind rest front is (runs_out cut none) = subst (λ (k : TxKind). FaultRow Fault k bytes rest) (sym is) none
cut_row Fault read bytes kind rest front is (meets b more at whole dead) = let e : is_cut Cut ≡ false = ap is_cut (sym is) ∙ whole in absurd cc

byte_row : (Fault : Byte) (bytes : List ℕ) (kind : TxKind) (rest : List ℕ) → is_cut kind ≡ false → Fault kind bytes rest → FaultRow Fault kind bytes rest
byte_row Fault bytes Cut rest own f = absurd cc
byte_row Fault bytes LongForm rest own f = f
byte_row Fault bytes BadFlag rest own f = f
byte_row Fault bytes NoInput rest own f = f
byte_row Fault bytes NoOutput rest own f = f
byte_row Fault bytes EmptyWitness rest own f = f

pub row_of : {A : Type 0} (text : A → List ℕ) (Fits : A → Type 0) (Fault : Byte) (read : Reader TxKind A) → Reads is_cut text Fits read → ByTable Fault read
    → (bytes : List ℕ) (kind : TxKind) (rest : List ℕ) → IsBytes bytes → read bytes ≡ Err (kind, rest) → FaultRow Fault kind bytes rest
row_of text Fits Fault read laws t bytes kind rest fits h =
    elim (t.told bytes (kind, rest) fits h) [
      | inl is ↦ let s = laws.stops bytes (kind, rest) fits h in cut_row Fault read bytes kind rest s.front is s.how
      | inr f ↦ byte_row Fault bytes kind rest (t.own bytes kind rest f) f
    ]

-- the bytes that are left begin at the place
dropped : (bytes front rest : List ℕ) → bytes ≡ front ++ rest → drop (length bytes - length rest) bytes ≡ rest
dropped bytes front rest e =
    let p = is_place bytes front rest e in
    ap (drop (length bytes - length rest)) e ∙ drop_at front rest (length bytes - length rest) (sym p.place)

pub fault_at : {A : Type 0} (text : A → List ℕ) (Fits : A → Type 0) (Fault : Byte) (read : Reader TxKind A) → Reads is_cut text Fits read → ByTable Fault read
    → (bytes : List ℕ) (e : Spot) → IsBytes bytes → read bytes ≡ Err e → IsTableFault text Fits Fault bytes e.0 (length bytes - length e.1)
fault_at text Fits Fault read laws t bytes e fits h =
    let s = laws.stops bytes e fits h in
    record {
      first = front_place text Fits read laws bytes e.0 e.1 fits h;
      row = subst (FaultRow Fault e.0 bytes) (sym (dropped bytes s.front e.1 s.parts)) (row_of text Fits Fault read laws t bytes e.0 e.1 fits h);
    }

pub fault_told : {A : Type 0} (text : A → List ℕ) (Fits : A → Type 0) (Fault : Byte) (read : Reader TxKind A) → Reads is_cut text Fits read → ByTable Fault read
    → (bytes : List ℕ) (kind : TxKind) (place : ℕ) → IsBytes bytes → place ≤ length bytes → read bytes ≡ Err (kind, drop place bytes) → IsTableFault text Fits Fault bytes kind place
fault_told text Fits Fault read laws t bytes kind place fits within h =
    let count : length bytes - length (drop place bytes) ≡ place = omega (arith, length-drop place bytes, within) in
    subst (IsTableFault text Fits Fault bytes kind) count (fault_at text Fits Fault read laws t bytes (kind, drop place bytes) fits h)

-- ---- from the table to the reader

cut_kind : {A : Type 0} (Fault : Byte) (read : Reader TxKind A) → ByTable Fault read → (bytes : List ℕ) (k : TxKind) (rest : List ℕ) → rest ≡ [] → FaultRow Fault k bytes rest → k ≡ Cut
cut_kind Fault read t bytes Cut rest none row = refl
cut_kind Fault read t bytes LongForm rest none row = absurd (t.some bytes LongForm rest row none)
cut_kind Fault read t bytes BadFlag rest none row = absurd (t.some bytes BadFlag rest row none)
cut_kind Fault read t bytes NoInput rest none row = absurd (t.some bytes NoInput rest row none)
cut_kind Fault read t bytes NoOutput rest none row = absurd (t.some bytes NoOutput rest row none)
cut_kind Fault read t bytes EmptyWitness rest none row = absurd (t.some bytes EmptyWitness rest row none)

same_kind : {A : Type 0} (Fault : Byte) (read : Reader TxKind A) → ByTable Fault read → (bytes : List ℕ) (kind k : TxKind) (rest : List ℕ) → FaultRow Fault kind bytes rest → FaultRow Fault k bytes rest
    → read bytes ≡ Err (k, rest) → read bytes ≡ Err (kind, rest)
same_kind Fault read t bytes Cut k rest row row' h = h ∙ ap (λ (x : TxKind). Err (x, rest)) (cut_kind Fault read t bytes k rest row row')
same_kind Fault read t bytes LongForm k rest row row' h = t.met bytes LongForm rest row
same_kind Fault read t bytes BadFlag k rest row row' h = t.met bytes BadFlag rest row
same_kind Fault read t bytes NoInput k rest row row' h = t.met bytes NoInput rest row
same_kind Fault read t bytes NoOutput k rest row row' h = t.met bytes NoOutput rest row
same_kind Fault read t bytes EmptyWitness k rest row row' h = t.met bytes EmptyWitness rest row

pub fault_met : {A : Type 0} (text : A → List ℕ) (Fits : A → Type 0) (Fault : Byte) (read : Reader TxKind A) → Reads is_cut text Fits read → ByTable Fault read
    → (bytes : List ℕ) (kind : TxKind) (place : ℕ) → IsBytes bytes → IsTableFault text Fits Fault bytes kind place → (read bytes ≡ Err (kind, drop place bytes)) × (place ≤ length bytes)
fault_met {A = A} text Fits Fault read laws t bytes kind place fits f = (by_answer (read bytes) refl, f.first.first.inside)
  where
    by_answer : (r : Result (A × List ℕ) Spot) → read bytes ≡ r → read bytes ≡ Err (kind, drop place bytes)
    by_answer (Ok x) h =
        let took = laws.takes bytes x fits h in
        let p = is_place bytes (text x.0) x.1 took.parts in
        absurd (f.first.none x.0 (length bytes - length x.1) (record { within = omega arith; fits = took.fits; text_is = p.taken }))
    by_answer (Err e) h =
        let s = laws.stops bytes e fits h in
        let p = is_place bytes s.front e.1 s.parts in
        let mine = front_place text Fits read laws bytes e.0 e.1 fits h in
        let at : length bytes - length e.1 ≡ place = one_place text Fits bytes (length bytes - length e.1) place mine.first f.first.first in
        let left : drop place bytes ≡ e.1 = ap (drop place) s.parts ∙ drop_at s.front e.1 place (sym p.place ∙ at) in
        let found : read bytes ≡ Err (e.0, drop place bytes) = h ∙ ap (λ (r : List ℕ). Err (e.0, r)) (sym left) in
        same_kind Fault read t bytes kind e.0 (drop place bytes) f.row (row_of text Fits Fault read laws t bytes e.0 (drop place bytes) fits found) found
