-- A reader at the front of bytes, by the relations and by the reader on lists.
use Rattle.std.proofs.Common.{◌≡◌, ℕ, ◌-◌, ◌≤◌, ◌↔◌, true, List, ◌++◌, length, take, drop, refl, sym, ap, ◌∙◌, arith}
use Rattle.std.specs.Prelude.{Result, Ok, Err}
use Rattle.std.proofs.lemmas.List.{drop_at, take-append-drop, append_cancel_right, length-drop}
use Rattle.block_grammar.specs.declared.kinds.TxKind.{TxKind}
use Rattle.block_grammar.specs.declared.kinds.TxKind.TheVariants.{Cut, LongForm, BadFlag, NoInput, NoOutput, EmptyWitness}
use Rattle.block_grammar.specs.Kinds.{is_cut}
use Rattle.block_grammar.specs.Fault.{StandsFirst}
use Rattle.block_grammar.specs.Combinators.{Reader}
use Rattle.block_grammar.proofs.Readers.{IsBytes}
use Rattle.block_grammar.proofs.ReaderLaws.{Reads, ok_is, ok_err}
use Rattle.block_grammar.proofs.PlaceLaws.{is_place, cut_place}
use Rattle.block_grammar.proofs.RowLaws.{ByTable, fault_told}
use Rattle.wire_read.specs.declared.fault.TxFault.{TxFault}
use Rattle.wire_read.specs.Front.{IsFault, IsRead, Gives}

-- ---- a place counted from the bytes that are left

-- where the bytes that are left begin
record Left (bytes rest : List ℕ) : Type 0 where
  shorter : length rest ≤ length bytes
  dropped : drop (length bytes - length rest) bytes ≡ rest

left_of : (bytes front rest : List ℕ) → bytes ≡ front ++ rest → Left bytes rest
left_of bytes front rest e =
    let p = is_place bytes front rest e in
    record { shorter = omega (arith, p.count); dropped = ap (drop (length bytes - length rest)) e ∙ drop_at front rest (length bytes - length rest) (sym p.place) }

pub record GivesOk {A : Type 0} (read : Reader TxKind A) (bytes : List ℕ) (x : A) (rest : List ℕ) : Type 0 where
  pub gives : Gives read bytes (Ok (x, length bytes - length rest))
  pub shorter : length rest ≤ length bytes

pub ok_gives : {A : Type 0} (text : A → List ℕ) (Fits : A → Type 0) (read : Reader TxKind A) → Reads is_cut text Fits read → (bytes : List ℕ) (x : A) (rest : List ℕ) → IsBytes bytes → Ok (x, rest) ≡ read bytes
    → GivesOk read bytes x rest
ok_gives text Fits read laws bytes x rest fits e =
    let took = laws.takes bytes (x, rest) fits (sym e) in
    let l = left_of bytes (text x) rest took.parts in
    record { gives = (sym e ∙ ap (λ (r : List ℕ). Ok (x, r)) (sym l.dropped), omega arith); shorter = l.shorter }

pub record GivesErr {A : Type 0} (read : Reader TxKind A) (bytes : List ℕ) (kind : TxKind) (rest : List ℕ) : Type 0 where
  pub gives : Gives read bytes (Err (record { kind = kind; at = length bytes - length rest }))
  pub shorter : length rest ≤ length bytes

pub err_gives : {A : Type 0} (text : A → List ℕ) (Fits : A → Type 0) (read : Reader TxKind A) → Reads is_cut text Fits read → (bytes : List ℕ) (kind : TxKind) (rest : List ℕ) → IsBytes bytes
    → Err (kind, rest) ≡ read bytes → GivesErr read bytes kind rest
err_gives text Fits read laws bytes kind rest fits e =
    let s = laws.stops bytes (kind, rest) fits (sym e) in
    let l = left_of bytes s.front rest s.parts in
    record { gives = (sym e ∙ ap (λ (r : List ℕ). Err (kind, r)) (sym l.dropped), omega arith); shorter = l.shorter }

-- ---- by the relations

-- a front that is a text is read
front_again : {A : Type 0} (text : A → List ℕ) (Fits : A → Type 0) (read : Reader TxKind A) → Reads is_cut text Fits read → (bytes : List ℕ) (x : A) (n : ℕ) → StandsFirst text Fits bytes x n
    → read bytes ≡ Ok (x, drop n bytes)
front_again text Fits read laws bytes x n is =
    let whole : bytes ≡ text x ++ drop n bytes = sym (take-append-drop n bytes) ∙ ap (λ (b : List ℕ). b ++ drop n bytes) is.text_is in
    ap read whole ∙ laws.again x (drop n bytes) is.fits

-- what is read is a front
front_takes : {A : Type 0} (text : A → List ℕ) (Fits : A → Type 0) (read : Reader TxKind A) → Reads is_cut text Fits read → (bytes : List ℕ) (x : A) (n : ℕ) → IsBytes bytes → n ≤ length bytes
    → read bytes ≡ Ok (x, drop n bytes) → StandsFirst text Fits bytes x n
front_takes text Fits read laws bytes x n fits within e =
    let took = laws.takes bytes (x, drop n bytes) fits e in
    let front : take n bytes ≡ text x = append_cancel_right (take n bytes) (text x) (drop n bytes) (take-append-drop n bytes ∙ took.parts) in
    record { within = within; fits = took.fits; text_is = front }

same_count : (bytes : List ℕ) (m n : ℕ) → m ≤ length bytes → n ≤ length bytes → drop m bytes ≡ drop n bytes → m ≡ n
same_count bytes m n lm ln e = omega (arith, length-drop m bytes, length-drop n bytes, ap length e)

kind_cut : (kind : TxKind) → (is_cut kind ≡ true) ↔ (kind ≡ Cut)
kind_cut Cut = ((λ _. refl), λ _. refl)
kind_cut LongForm = ((λ e. absurd cc), λ e. absurd cc)
kind_cut BadFlag = ((λ e. absurd cc), λ e. absurd cc)
kind_cut NoInput = ((λ e. absurd cc), λ e. absurd cc)
kind_cut NoOutput = ((λ e. absurd cc), λ e. absurd cc)
kind_cut EmptyWitness = ((λ e. absurd cc), λ e. absurd cc)

-- the fault, from where reading stops
stopped_fault : {A : Type 0} (text : A → List ℕ) (Fits : A → Type 0) (Byte : TxKind → List ℕ → List ℕ → Type 0) (read : Reader TxKind A) → Reads is_cut text Fits read → ByTable Byte read
    → (bytes : List ℕ) (kind : TxKind) (place : ℕ) → IsBytes bytes → place ≤ length bytes → read bytes ≡ Err (kind, drop place bytes) → IsFault text Fits Byte bytes kind place
stopped_fault text Fits Byte read laws table bytes kind place fits within e =
    let count : length bytes - length (drop place bytes) ≡ place = omega (arith, length-drop place bytes, within) in
    let cut = cut_place is_cut text Fits read laws bytes (kind, drop place bytes) fits e in
    let named = kind_cut kind in
    let told = fault_told text Fits Byte read laws table bytes kind place fits within e in
    record { first = told.first; row = told.row; cut = ((λ k. sym count ∙ cut.0 (named.1 k)), λ p. named.0 (cut.1 (count ∙ p))) }

-- ---- the clauses of public readers

pub is_read : {A : Type 0} (text : A → List ℕ) (Fits : A → Type 0) (Byte : TxKind → List ℕ → List ℕ → Type 0) (read : Reader TxKind A) → Reads is_cut text Fits read → ByTable Byte read
    → (bytes : List ℕ) (answer : Result (A × ℕ) TxFault) → IsBytes bytes → Gives read bytes answer → IsRead text Fits Byte bytes answer
is_read text Fits Byte read laws table bytes (Ok (x, n)) fits e = front_takes text Fits read laws bytes x n fits e.1 e.0
is_read text Fits Byte read laws table bytes (Err fault) fits e = stopped_fault text Fits Byte read laws table bytes fault.kind fault.at fits e.1 e.0

pub only_read : {A : Type 0} (text : A → List ℕ) (Fits : A → Type 0) (read : Reader TxKind A) → Reads is_cut text Fits read → (bytes : List ℕ) (answer : Result (A × ℕ) TxFault) → Gives read bytes answer
    → (x : A) (n : ℕ) → StandsFirst text Fits bytes x n → answer ≡ Ok (x, n)
only_read {A = A} text Fits read laws bytes (Ok (y, m)) e x n is =
    let mine : A × List ℕ = (y, drop m bytes) in
    let pair : mine ≡ (x, drop n bytes) = ok_is mine (x, drop n bytes) (sym e.0 ∙ front_again text Fits read laws bytes x n is) in
    let count : m ≡ n = same_count bytes m n e.1 is.within (ap (λ (z : A × List ℕ). z.1) pair) in
    ap (λ (v : A). Ok (v, m)) (ap (λ (z : A × List ℕ). z.0) pair) ∙ ap (λ (k : ℕ). Ok (x, k)) count
only_read text Fits read laws bytes (Err fault) e x n is = absurd (ok_err (read bytes) (x, drop n bytes) (fault.kind, drop fault.at bytes) (front_again text Fits read laws bytes x n is) e.0)
