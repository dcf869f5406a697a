-- Compact sizes are read as they are spelled, whatever follows.
use Rattle.std.proofs.Common.{◌≡◌, ℕ, ◌<◌, ◌≤◌, ◌^◌, cond, ltb, eqb, List, [], ◌∷◌, ◌++◌, Option, Some, None, refl, ap, subst, ◌∙◌, arith, inl, inr}
use Rattle.std.specs.Int.{Width, w16, w32, w64, to_le_bytes}
use Rattle.std.proofs.lemmas.Bool.{cases_lt, ltb-true, ltb-false, lt-ltb, le-ltb, eqb-true, eqb-false}
use Rattle.std.proofs.lemmas.Option.{same_Some}
use Rattle.nmc_base.proofs.TruthLemmas.{chosen}
use Rattle.block_grammar.specs.CompactSize.{compact_size}
use Rattle.block_grammar.specs.Fields.{number_at, at_least, compact_size_at}
use Rattle.block_grammar.proofs.Readers.{IsBytes, Took, Reads, IsWide, number_reads, wide16, wide32, wide64, IsBytes-rest}

-- ---- the four forms

pub size_of_one : (n : ℕ) → n < 0xFD → compact_size n ≡ n ∷ []
unfolding compact_size
size_of_one n lt = rw (lt-ltb n 0xFD lt) refl

size_of_three : (n : ℕ) → 0xFD ≤ n → n < 2 ^ 16 → compact_size n ≡ 0xFD ∷ to_le_bytes w16 n
unfolding compact_size
size_of_three n le lt = rw (le-ltb n 0xFD le, lt-ltb n (2 ^ 16) lt) refl

size_of_five : (n : ℕ) → 2 ^ 16 ≤ n → n < 2 ^ 32 → compact_size n ≡ 0xFE ∷ to_le_bytes w32 n
unfolding compact_size
size_of_five n le lt =
    let past : 0xFD ≤ n = omega arith in
    rw (le-ltb n 0xFD past, le-ltb n (2 ^ 16) le, lt-ltb n (2 ^ 32) lt) refl

size_of_nine : (n : ℕ) → 2 ^ 32 ≤ n → compact_size n ≡ 0xFF ∷ to_le_bytes w64 n
unfolding compact_size
size_of_nine n le =
    let past : 0xFD ≤ n = omega arith in
    let past' : 2 ^ 16 ≤ n = omega arith in
    rw (le-ltb n 0xFD past, le-ltb n (2 ^ 16) past', le-ltb n (2 ^ 32) le) refl

-- ---- compact sizes are read

at_least_some : (least : ℕ) (r : Option (ℕ × List ℕ)) (z : ℕ × List ℕ) → at_least least r ≡ Some z → (r ≡ Some z) × (least ≤ z.0)
at_least_some least None z e = absurd cc
at_least_some least (Some x) z e =
    elim (chosen (ltb x.0 least) None (Some x) (Some z) e) [
      | inl w ↦ absurd (none_is z w.1)
      | inr w ↦ (w.1, subst (λ (y : ℕ × List ℕ). least ≤ y.0) (same_Some x z w.1) (ltb-false x.0 least w.0))
    ]
  where
    none_is : (z : ℕ × List ℕ) → None ≡ Some z → ⊥
    none_is z e = cc

at_least_again : (least n : ℕ) (rest : List ℕ) → least ≤ n → at_least least (Some (n, rest)) ≡ Some (n, rest)
at_least_again least n rest le = rw (le-ltb n least le) refl

-- a number behind its mark is read
marked_takes : (w : Width) (limit : ℕ) (wide : IsWide w limit) (mark least : ℕ) (rest : List ℕ) (z : ℕ × List ℕ)
    → ((n : ℕ) → least ≤ n → n < limit → compact_size n ≡ mark ∷ to_le_bytes w n) → limit ≤ 2 ^ 64
    → IsBytes rest → at_least least (number_at w rest) ≡ Some z → Took compact_size (λ n. n < 2 ^ 64) (mark ∷ rest) z
marked_takes w limit wide mark least rest z form below fits e =
    let a = at_least_some least (number_at w rest) z e in
    let t = (number_reads w limit wide).takes rest z fits a.0 in
    record {
      parts = rw (form z.0 a.1 t.fits) (ap (λ (x : List ℕ). mark ∷ x) t.parts);
      fits = omega (arith, t.fits);
      rest_bytes = t.rest_bytes;
    }

size_takes : (bytes : List ℕ) (z : ℕ × List ℕ) → IsBytes bytes → compact_size_at bytes ≡ Some z → Took compact_size (λ n. n < 2 ^ 64) bytes z
unfolding compact_size_at
size_takes [] z fits e = absurd cc
size_takes (first ∷ rest) z fits e =
    let more = IsBytes-rest first rest fits in
    let byte : first < 256 = fits 0 in
    elim (chosen (ltb first 0xFD) (Some (first, rest)) (cond (eqb first 0xFD) (at_least 0xFD (number_at w16 rest)) (cond (eqb first 0xFE) (at_least (2 ^ 16) (number_at w32 rest)) (at_least (2 ^ 32) (number_at w64 rest)))) (Some z) e) [
      | inl p ↦
          let small = ltb-true first 0xFD p.0 in
          subst (λ (y : ℕ × List ℕ). Took compact_size (λ n. n < 2 ^ 64) (first ∷ rest) y) (same_Some (first, rest) z p.1)
          (record { parts = rw (size_of_one first small) refl; fits = omega (arith, small); rest_bytes = more })
      | inr p ↦ elim (chosen (eqb first 0xFD) (at_least 0xFD (number_at w16 rest)) (cond (eqb first 0xFE) (at_least (2 ^ 16) (number_at w32 rest)) (at_least (2 ^ 32) (number_at w64 rest))) (Some z) p.1) [
        | inl q ↦ rw (eqb-true first 0xFD q.0) (marked_takes w16 (2 ^ 16) wide16 0xFD 0xFD rest z (λ n le lt. size_of_three n le lt) (omega arith) more q.1)
        | inr q ↦ elim (chosen (eqb first 0xFE) (at_least (2 ^ 16) (number_at w32 rest)) (at_least (2 ^ 32) (number_at w64 rest)) (Some z) q.1) [
          | inl r ↦ rw (eqb-true first 0xFE r.0) (marked_takes w32 (2 ^ 32) wide32 0xFE (2 ^ 16) rest z (λ n le lt. size_of_five n le lt) (omega arith) more r.1)
          | inr r ↦
              let last : first ≡ 0xFF = omega (arith, ltb-false first 0xFD p.0, eqb-false first 0xFD q.0, eqb-false first 0xFE r.0) in
              rw last (marked_takes w64 (2 ^ 64) wide64 0xFF (2 ^ 32) rest z (λ n le lt. size_of_nine n le) (omega arith) more r.1)
        ]
      ]
    ]

size_again : (n : ℕ) (rest : List ℕ) → n < 2 ^ 64 → compact_size_at (compact_size n ++ rest) ≡ Some (n, rest)
unfolding compact_size_at
size_again n rest fits =
    elim (cases_lt n 0xFD) [
      | inl small ↦ rw (size_of_one n small, lt-ltb n 0xFD small) refl
      | inr past ↦ elim (cases_lt n (2 ^ 16)) [
        | inl lt ↦ rw (size_of_three n past lt) (ap (at_least 0xFD) ((number_reads w16 (2 ^ 16) wide16).again n rest lt) ∙ at_least_again 0xFD n rest past)
        | inr past' ↦ elim (cases_lt n (2 ^ 32)) [
          | inl lt ↦ rw (size_of_five n past' lt) (ap (at_least (2 ^ 16)) ((number_reads w32 (2 ^ 32) wide32).again n rest lt) ∙ at_least_again (2 ^ 16) n rest past')
          | inr past'' ↦ rw (size_of_nine n past'') (ap (at_least (2 ^ 32)) ((number_reads w64 (2 ^ 64) wide64).again n rest fits) ∙ at_least_again (2 ^ 32) n rest past'')
        ]
      ]
    ]

pub size_reads : Reads compact_size (λ (n : ℕ). n < 2 ^ 64) compact_size_at
size_reads = record { takes = size_takes; again = size_again }
