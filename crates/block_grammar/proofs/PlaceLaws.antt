-- Where a reader stops is the first fault, by the grammar alone.
use Rattle.std.proofs.Common.{◌≡◌, ℕ, ◌+◌, ◌-◌, ◌≤◌, ◌⊎◌, ◌↔◌, Bool, true, List, [], ◌∷◌, ◌++◌, length, take, drop, sym, ap, subst, ◌∙◌, append_assoc, append-nil, arith, inl, inr}
use Rattle.std.specs.Prelude.{Ok, Err}
use Rattle.std.proofs.lemmas.Bool.{cases_lt}
use Rattle.std.proofs.lemmas.List.{take_at, length-append, take-append-drop, take-take}
use Rattle.block_grammar.proofs.Readers.{IsBytes}
use Rattle.block_grammar.specs.Fault.{IsFront, IsFirstFault}
use Rattle.block_grammar.specs.Combinators.{Reader}
use Rattle.block_grammar.proofs.ReaderLaws.{Reads, Halt, runs_out, meets, ok_err}

-- the place where a reader stops is the length of the front
pub record IsPlace (bytes front rest : List ℕ) : Type 0 where
  pub count : length front + length rest ≡ length bytes
  pub place : length bytes - length rest ≡ length front
  pub taken : take (length bytes - length rest) bytes ≡ front

pub is_place : (bytes front rest : List ℕ) → bytes ≡ front ++ rest → IsPlace bytes front rest
is_place bytes front rest e =
    let sum : length bytes ≡ length front + length rest = ap length e ∙ length-append front rest in
    let place : length bytes - length rest ≡ length front = omega (arith, sum) in
    record { count = sym sum; place = place; taken = ap (take (length bytes - length rest)) e ∙ take_at front rest (length bytes - length rest) (sym place) }

-- what fits isn't read where the reader stops for good
dead_front : {K A : Type 0} (is_cut : K → Bool) (text : A → List ℕ) (Fits : A → Type 0) (read : Reader K A) → Reads is_cut text Fits read
    → (front : List ℕ) (b : ℕ) (kind : K) → ((more : List ℕ) → read (front ++ (b ∷ more)) ≡ Err (kind, b ∷ more)) → IsFront text Fits (front ++ b ∷ []) → ⊥
dead_front is_cut text Fits read r front b kind dead f =
    let read_value : read (text f.value ++ []) ≡ Ok (f.value, []) = r.again f.value [] f.fits in
    let same : text f.value ++ [] ≡ front ++ (b ∷ f.more) = append-nil (text f.value) ∙ f.text_is ∙ append_assoc front (b ∷ []) f.more in
    ok_err (read (text f.value ++ [])) (f.value, []) (kind, b ∷ f.more) read_value (ap read same ∙ dead f.more)

pub one_further : (bytes front : List ℕ) (b : ℕ) (rest : List ℕ) (place : ℕ) → bytes ≡ front ++ (b ∷ rest) → place ≡ length front → take (place + 1) bytes ≡ front ++ b ∷ []
one_further bytes front b rest place e is =
    ap (take (place + 1)) (e ∙ sym (append_assoc front (b ∷ []) rest)) ∙ take_at (front ++ b ∷ []) rest (place + 1) (omega (arith, length-append front (b ∷ []), is))

pub first_fault : {K A : Type 0} (is_cut : K → Bool) (text : A → List ℕ) (Fits : A → Type 0) (read : Reader K A) → Reads is_cut text Fits read
    → (bytes : List ℕ) (e : K × List ℕ) → IsBytes bytes → read bytes ≡ Err e → IsFirstFault text Fits bytes (length bytes - length e.1)
first_fault {K = K} is_cut text Fits read r bytes e fits h =
    let s = r.stops bytes e fits h in
    let p = is_place bytes s.front e.1 s.parts in
    record {
      inside = omega arith;
      front = subst (IsFront text Fits) (sym p.taken) s.begun;
      no_further = further s.front s.parts p.place s.how;
    }
  where
    further : (front : List ℕ) → bytes ≡ front ++ e.1 → length bytes - length e.1 ≡ length front → Halt is_cut read front e
        → (length bytes - length e.1 ≡ length bytes) ⊎ (IsFront text Fits (take (length bytes - length e.1 + 1) bytes) → ⊥)
    further front parts place (runs_out cut none) = inl (omega (arith, ap length none))
    further front parts place (meets b rest is whole dead) =
        let parts' : bytes ≡ front ++ (b ∷ rest) = parts ∙ ap (λ (t : List ℕ). front ++ t) is in
        inr (λ f. dead_front is_cut text Fits read r front b e.0 dead (subst (IsFront text Fits) (one_further bytes front b rest (length bytes - length e.1) parts' place) f))

-- the kinds that say that the bytes end too early are those whose place is the input's length
pub cut_place : {K A : Type 0} (is_cut : K → Bool) (text : A → List ℕ) (Fits : A → Type 0) (read : Reader K A) → Reads is_cut text Fits read
    → (bytes : List ℕ) (e : K × List ℕ) → IsBytes bytes → read bytes ≡ Err e → (is_cut e.0 ≡ true) ↔ (length bytes - length e.1 ≡ length bytes)
cut_place is_cut text Fits read r bytes e fits h =
    let s = r.stops bytes e fits h in
    by_halt s.front s.parts s.how
  where
    by_halt : (front : List ℕ) → bytes ≡ front ++ e.1 → Halt is_cut read front e → (is_cut e.0 ≡ true) ↔ (length bytes - length e.1 ≡ length bytes)
    by_halt front parts (runs_out cut none) = ((λ _. omega (arith, ap length none)), λ _. cut)
    by_halt front parts (meets b rest is whole dead) =
        let sum : length bytes ≡ length front + length e.1 = ap length parts ∙ length-append front e.1 in
        ((λ cut. absurd cc), λ place. absurd (omega (arith, place, sum, ap length is)))

-- where a reader stops, no text stands at the front
pub none_at_front : {K A : Type 0} (is_cut : K → Bool) (text : A → List ℕ) (Fits : A → Type 0) (read : Reader K A) → Reads is_cut text Fits read
    → (bytes : List ℕ) (e : K × List ℕ) → read bytes ≡ Err e → (x : A) (n : ℕ) → Fits x → take n bytes ≡ text x → ⊥
none_at_front is_cut text Fits read r bytes e h x n fits is =
    let whole : bytes ≡ text x ++ drop n bytes = sym (take-append-drop n bytes) ∙ ap (λ (t : List ℕ). t ++ drop n bytes) is in
    ok_err (read bytes) (x, drop n bytes) e (ap read whole ∙ r.again x (drop n bytes) fits) h

-- ---- there is one place

shorter_front : {A : Type 0} (text : A → List ℕ) (Fits : A → Type 0) (bytes : List ℕ) (n q : ℕ) → n ≤ q → IsFront text Fits (take q bytes) → IsFront text Fits (take n bytes)
shorter_front text Fits bytes n q le f =
    let parts : take q bytes ≡ take n bytes ++ drop n (take q bytes) = sym (take-append-drop n (take q bytes)) ∙ ap (λ (t : List ℕ). t ++ drop n (take q bytes)) (take-take n q bytes le) in
    record {
      value = f.value;
      fits = f.fits;
      more = drop n (take q bytes) ++ f.more;
      text_is = f.text_is ∙ ap (λ (t : List ℕ). t ++ f.more) parts ∙ append_assoc (take n bytes) (drop n (take q bytes)) f.more;
    }

no_later : {A : Type 0} (text : A → List ℕ) (Fits : A → Type 0) (bytes : List ℕ) (p q : ℕ) → IsFirstFault text Fits bytes p → IsFirstFault text Fits bytes q → q ≤ p
no_later text Fits bytes p q f g =
    elim (cases_lt p q) [
      | inl lt ↦ elim f.no_further [
        | inl last ↦ absurd (omega (arith, lt, last, g.inside))
        | inr dead ↦ absurd (dead (shorter_front text Fits bytes (p + 1) q (omega (arith, lt)) g.front))
      ]
      | inr le ↦ le
    ]

pub one_place : {A : Type 0} (text : A → List ℕ) (Fits : A → Type 0) (bytes : List ℕ) (p q : ℕ) → IsFirstFault text Fits bytes p → IsFirstFault text Fits bytes q → p ≡ q
one_place text Fits bytes p q f g = omega (arith, no_later text Fits bytes p q f g, no_later text Fits bytes q p g f)
