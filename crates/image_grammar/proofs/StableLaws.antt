-- Readers whose answer stands whatever follows: a value, or a fault that isn't the end of the bytes.
use Rattle.std.proofs.Common.{◌≡◌, ℕ, ◌≤◌, Bool, true, false, cond, nat_lt, List, [], ◌∷◌, ◌++◌, length, take, drop, inl, inr, refl, sym, ap, subst, ◌∙◌, arith, length-append}
use Rattle.std.specs.Prelude.{Ok, Err, ◌==◌}
use Rattle.std.specs.Int.{Width, byte_len, from_le_bytes}
use Rattle.std.proofs.lemmas.Bool.{ltb-false, le-ltb}
use Rattle.std.proofs.lemmas.List.{take-append-le}
use Rattle.std.proofs.lemmas.Grind.{common_steps}
use Rattle.block_grammar.specs.Combinators.{◌>>=◌, then_from, map_from}
use Rattle.undo_records.specs.declared.fault.FaultKind.{FaultKind}
use Rattle.undo_records.specs.declared.fault.FaultKind.TheVariants.{Cut, BadTag}
use Rattle.undo_records.specs.Reading.{Reads, number_from, piece_from, byte_from, tagged_from, checked_from}
use Rattle.image_grammar.specs.Resuming.{Answer, Stands, IsStable}

-- ---- one after the other

module _ {A B : Type 0} (f : A → Reads B) (stable : (x : A) → IsStable (f x)) where
  bind_by : (more : List ℕ) (now then : Answer A) → Stands more now then → Stands more (now >>= λ x. f x.0 x.1) (then >>= λ x. f x.0 x.1)
  bind_by more (Err e) then (inl early) = inl early
  bind_by more (Err e) then (inr same) = inr (ap (λ (r : Answer A). r >>= λ x. f x.0 x.1) same)
  bind_by more (Ok x) then (inl early) = absurd early
  bind_by more (Ok x) then (inr same) =
      elim (stable x.0 x.1 more) [
        | inl early ↦ inl early
        | inr next ↦ inr (ap (λ (r : Answer A). r >>= λ x. f x.0 x.1) same ∙ next)
      ]

  pub bind_stable : (read : Reads A) → IsStable read → IsStable (λ bytes. read bytes >>= λ x. f x.0 x.1)
  bind_stable read first bytes more = bind_by more (read bytes) (read (bytes ++ more)) (first bytes more)

pub then_stable : {A B : Type 0} (first : Reads A) (second : A → Reads B) → IsStable first → ((x : A) → IsStable (second x)) → IsStable (then_from first second)
then_stable {A = A} {B = B} first second s1 s2 =
    bind_stable (λ (x : A) (bytes : List ℕ). second x bytes >>= λ (y : B × List ℕ). Ok ((x, y.0), y.1))
    (λ x. bind_stable (λ (y : B) (bytes : List ℕ). Ok ((x, y), bytes)) (λ y bytes more. inr refl) (second x) (s2 x))
    first s1

pub map_stable : {A B : Type 0} (f : A → B) (read : Reads A) → IsStable read → IsStable (map_from f read)
map_stable {A = A} {B = B} f read s = bind_stable (λ (x : A) (bytes : List ℕ). Ok (f x, bytes)) (λ x bytes more. inr refl) read s

-- ---- fields

module _ {A : Type 0} (g : List ℕ → A) (n : ℕ) where
  abbrev pub front_from : Reads A
  front_from bytes = cond (nat_lt (length bytes) n) (Err (Cut, [])) (Ok (g (take n bytes), drop n bytes))

  pub front_stable : IsStable front_from
  front_stable bytes more = by (nat_lt (length bytes) n) refl
    where
      drop-front : (k : ℕ) (xs ys : List ℕ) → k ≤ length xs → drop k (xs ++ ys) ≡ drop k xs ++ ys
      drop-front k xs ys low = grind (arith, common_steps)

      by : (b : Bool) → nat_lt (length bytes) n ≡ b → Stands more (cond b (Err (Cut, [])) (Ok (g (take n bytes), drop n bytes))) (front_from (bytes ++ more))
      by true is = inl refl
      by false is =
          let long : n ≤ length bytes = ltb-false (length bytes) n is in
          let longer : nat_lt (length (bytes ++ more)) n ≡ false = le-ltb (length (bytes ++ more)) n (omega (arith, length-append bytes more)) in
          let same : take n (bytes ++ more) ≡ take n bytes = rw take-append-le refl in
          inr (rw (longer, same, drop-front n bytes more long) refl)

pub number_stable : (w : Width) → IsStable (number_from w)
number_stable w = front_stable (from_le_bytes w) (byte_len w)

pub piece_stable : (n : ℕ) → IsStable (piece_from n)
piece_stable n = front_stable (λ bytes. bytes) n

pub byte_stable : IsStable byte_from
byte_stable [] more = inl refl
byte_stable (b ∷ bytes) more = inr refl

pub tagged_stable : {A : Type 0} (tag : ℕ) (read : Reads A) → IsStable read → IsStable (tagged_from tag read)
tagged_stable tag read s [] more = inl refl
tagged_stable {A = A} tag read s (b ∷ bytes) more = by (b == tag)
  where
    by : (t : Bool) → Stands more (cond t (read bytes) (Err (BadTag, b ∷ bytes))) (cond t (read (bytes ++ more)) (Err (BadTag, b ∷ (bytes ++ more))))
    by true = s bytes more
    by false = inr refl

pub checked_stable : {A : Type 0} (kind : FaultKind) (test : A → Bool) (read : Reads A) → IsStable read → IsStable (checked_from kind test read)
checked_stable {A = A} kind test read s bytes more = by (read bytes) (read (bytes ++ more)) (s bytes more)
  where
    tested : (x : A) (rest : List ℕ) (t : Bool) → Stands more (cond t (Ok (x, rest)) (Err (kind, bytes))) (cond t (Ok (x, rest ++ more)) (Err (kind, bytes ++ more)))
    tested x rest true = inr refl
    tested x rest false = inr refl

    by : (now then : Answer A) → Stands more now then
        → Stands more (now >>= λ x. cond (test x.0) (Ok x) (Err (kind, bytes))) (then >>= λ x. cond (test x.0) (Ok x) (Err (kind, bytes ++ more)))
    by (Err e) then (inl early) = inl early
    by (Err e) then (inr same) = inr (ap (λ (r : Answer A). r >>= λ x. cond (test x.0) (Ok x) (Err (kind, bytes ++ more))) same)
    by (Ok x) then (inl early) = absurd early
    by (Ok x) then (inr same) =
        subst (λ (r : Answer A). Stands more (cond (test x.0) (Ok x) (Err (kind, bytes))) (r >>= λ y. cond (test y.0) (Ok y) (Err (kind, bytes ++ more)))) (sym same)
        (tested x.0 x.1 (test x.0))
