-- How long a compact size is by its first byte, and what stands at the front where none is read.
use Rattle.std.proofs.Common.{◌≡◌, ℕ, ◌+◌, ◌-◌, ◌<◌, ◌≤◌, ◌^◌, true, false, cond, ltb, eqb, List, [], ◌∷◌, ◌++◌, length, take, drop, Some, None, refl, sym, ap, subst, ◌∙◌, arith, inl, inr}
use Rattle.std.specs.Int.{Width, w16, w32, w64, byte_len, from_le_bytes, to_le_bytes}
use Rattle.std.proofs.lemmas.Bool.{cases_lt, ltb-true, ltb-false, lt-ltb, le-ltb, eqb-true, eqb-false, ne_eqb}
use Rattle.std.proofs.lemmas.List.{take-append-drop, length-take, length-drop, drop_at, drop-drop}
use Rattle.std.proofs.lemmas.Option.{none-some}
use Rattle.nmc_base.proofs.TruthLemmas.{chosen}
use Rattle.block_grammar.specs.CompactSize.{compact_size}
use Rattle.block_grammar.specs.Fields.{number_at, at_least, compact_size_at}
use Rattle.block_grammar.proofs.Readers.{IsBytes, IsBytes-take, IsWide, wide16, wide32, wide64, IsBytes-rest}
use Rattle.block_grammar.proofs.Sizes.{size_reads}
use Rattle.wire_read.specs.Position.{Position, left}
use Rattle.wire_read.specs.SizeForm.{form_length, HoldsLess, IsLongForm, three_bytes, five_bytes, nine_bytes}
use Rattle.wire_read.specs.Fields.{Passed, PassedSize, MetLongForm}

-- ---- a size that is read takes its form

form_one : (n : ℕ) (rest : List ℕ) → n < 0xFD → form_length (n ∷ rest) ≡ 1
unfolding form_length
form_one n rest lt =
    let a : eqb n 0xFD ≡ false = ne_eqb n 0xFD (λ e. omega arith) in
    let b : eqb n 0xFE ≡ false = ne_eqb n 0xFE (λ e. omega arith) in
    let d : eqb n 0xFF ≡ false = ne_eqb n 0xFF (λ e. omega arith) in
    rw (a, b, d) refl

form_of_size : (n : ℕ) (rest : List ℕ) → form_length (compact_size n ++ rest) ≡ length (compact_size n)
unfolding form_length compact_size
form_of_size n rest =
    elim (cases_lt n 0xFD) [
      | inl small ↦ rw (lt-ltb n 0xFD small) (form_one n rest small)
      | inr past ↦ elim (cases_lt n (2 ^ 16)) [
        | inl lt ↦ rw (le-ltb n 0xFD past, lt-ltb n (2 ^ 16) lt) refl
        | inr past' ↦ elim (cases_lt n (2 ^ 32)) [
          | inl lt ↦ rw (le-ltb n 0xFD past, le-ltb n (2 ^ 16) past', lt-ltb n (2 ^ 32) lt) refl
          | inr past'' ↦ rw (le-ltb n 0xFD past, le-ltb n (2 ^ 16) past', le-ltb n (2 ^ 32) past'') refl
        ]
      ]
    ]

-- what is read at the front
pub record ReadForm (bytes : List ℕ) (n : ℕ) (rest : List ℕ) : Type 0 where
  pub fits : n < 2 ^ 64
  pub text : bytes ≡ compact_size n ++ rest
  pub len : form_length bytes ≡ length (compact_size n)
  pub behind : drop (form_length bytes) bytes ≡ rest

pub read_form : (bytes : List ℕ) (n : ℕ) (rest : List ℕ) → IsBytes bytes → compact_size_at bytes ≡ Some (n, rest) → ReadForm bytes n rest
read_form bytes n rest fits e =
    let t = size_reads.takes bytes (n, rest) fits e in
    let len : form_length bytes ≡ length (compact_size n) = ap form_length t.parts ∙ form_of_size n rest in
    record {
      fits = t.fits;
      text = t.parts;
      len = len;
      behind = ap (drop (form_length bytes)) t.parts ∙ drop_at (compact_size n) rest (form_length bytes) (sym len);
    }

-- the bytes behind a cursor that has moved
pub behind : (bytes : List ℕ) (at len : ℕ) → drop (at + len) bytes ≡ drop len (drop at bytes)
behind bytes at len = sym (drop-drop len at bytes)

-- ---- where none is read though the form is there, it is a longer one

unread : (least n : ℕ) (rest : List ℕ) → at_least least (Some (n, rest)) ≡ None → n < least
unread least n rest e =
    elim (chosen (ltb n least) None (Some (n, rest)) None e) [
      | inl w ↦ ltb-true n least w.0
      | inr w ↦ absurd (none-some (n, rest) (sym w.1))
    ]

holds_less : (w : Width) (limit : ℕ) (wide : IsWide w limit) (mark least : ℕ) (rest : List ℕ) → IsBytes rest → byte_len w ≤ length rest → at_least least (number_at w rest) ≡ None
    → HoldsLess mark w least (mark ∷ rest)
holds_less w limit wide mark least rest fits long e =
    let there : number_at w rest ≡ Some (from_le_bytes w (take (byte_len w) rest), drop (byte_len w) rest) = rw (le-ltb (length rest) (byte_len w) long) refl in
    let back : to_le_bytes w (from_le_bytes w (take (byte_len w) rest)) ≡ take (byte_len w) rest = wide.back (take (byte_len w) rest) (omega (arith, length-take (byte_len w) rest)) (IsBytes-take (byte_len w) rest fits) in
    record {
      number = from_le_bytes w (take (byte_len w) rest);
      less = unread least (from_le_bytes w (take (byte_len w) rest)) (drop (byte_len w) rest) (sym (ap (at_least least) there) ∙ e);
      rest = drop (byte_len w) rest;
      text = rw back (ap (λ (t : List ℕ). mark ∷ t) (sym (take-append-drop (byte_len w) rest)));
    }

pub long_form : (bytes : List ℕ) → IsBytes bytes → form_length bytes ≤ length bytes → compact_size_at bytes ≡ None → IsLongForm bytes (form_length bytes)
unfolding form_length compact_size_at
long_form [] fits long e = absurd (omega arith)
long_form (first ∷ rest) fits long e =
    let more = IsBytes-rest first rest fits in
    let byte : first < 256 = fits 0 in
    elim (chosen (ltb first 0xFD) (Some (first, rest)) (cond (eqb first 0xFD) (at_least 0xFD (number_at w16 rest)) (cond (eqb first 0xFE) (at_least (2 ^ 16) (number_at w32 rest)) (at_least (2 ^ 32) (number_at w64 rest)))) None e) [
      | inl p ↦ absurd (none-some (first, rest) (sym p.1))
      | inr p ↦ elim (chosen (eqb first 0xFD) (at_least 0xFD (number_at w16 rest)) (cond (eqb first 0xFE) (at_least (2 ^ 16) (number_at w32 rest)) (at_least (2 ^ 32) (number_at w64 rest))) None p.1) [
        | inl q ↦
            let form : form_length (first ∷ rest) ≡ 3 = rw q.0 refl in
            let mark = eqb-true first 0xFD q.0 in
            let text = holds_less w16 (2 ^ 16) wide16 0xFD 0xFD rest more (omega (arith, long, form)) q.1 in
            three_bytes (subst (λ (b : ℕ). HoldsLess 0xFD w16 0xFD (b ∷ rest)) (sym mark) text) form
        | inr q ↦ elim (chosen (eqb first 0xFE) (at_least (2 ^ 16) (number_at w32 rest)) (at_least (2 ^ 32) (number_at w64 rest)) None q.1) [
          | inl r ↦
              let form : form_length (first ∷ rest) ≡ 5 = rw (q.0, r.0) refl in
              let mark = eqb-true first 0xFE r.0 in
              let text = holds_less w32 (2 ^ 32) wide32 0xFE (2 ^ 16) rest more (omega (arith, long, form)) r.1 in
              five_bytes (subst (λ (b : ℕ). HoldsLess 0xFE w32 (2 ^ 16) (b ∷ rest)) (sym mark) text) form
          | inr r ↦
              let mark : first ≡ 0xFF = omega (arith, byte, ltb-false first 0xFD p.0, eqb-false first 0xFD q.0, eqb-false first 0xFE r.0) in
              let last : eqb first 0xFF ≡ true = rw mark refl in
              let form : form_length (first ∷ rest) ≡ 9 = rw (q.0, r.0, last) refl in
              let text = holds_less w64 (2 ^ 64) wide64 0xFF (2 ^ 32) rest more (omega (arith, long, form)) r.1 in
              nine_bytes (subst (λ (b : ℕ). HoldsLess 0xFF w64 (2 ^ 32) (b ∷ rest)) (sym mark) text) form
        ]
      ]
    ]

-- ---- the clauses of the reader

-- a cursor at a place, and the form that stands behind it
pub record Looks (old : Position) (bytes : List ℕ) (at : ℕ) (rest : List ℕ) (len : ℕ) : Type 0 where
  pub position : record { bytes = bytes; at = at } ≡ old
  pub within : old.at ≤ length old.bytes
  pub rest_is : rest ≡ left old
  pub len_is : len ≡ form_length rest
  pub enough : len ≤ length rest
  pub fits : IsBytes rest

pub passed_exactly : (old : Position) (bytes : List ℕ) (at : ℕ) (rest : List ℕ) (len n : ℕ) (more : List ℕ) → Looks old bytes at rest len → compact_size_at rest ≡ Some (n, more)
    → Passed old (record { bytes = bytes; at = at + len }) (form_length (left old)) × (compact_size_at (left old) ≡ Some (n, drop (at + len) bytes))
passed_exactly old bytes at rest len n more l e =
    subst (λ (p : Position). Passed p (record { bytes = bytes; at = at + len }) (form_length (left p)) × (compact_size_at (left p) ≡ Some (n, drop (at + len) bytes))) l.position (passed, read)
  where
    same : rest ≡ drop at bytes
    same = l.rest_is ∙ ap left (sym l.position)

    within : at ≤ length bytes
    within = subst (λ (p : Position). p.at ≤ length p.bytes) (sym l.position) l.within

    count : len ≡ form_length (drop at bytes)
    count = l.len_is ∙ ap form_length same

    passed : Passed (record { bytes = bytes; at = at }) (record { bytes = bytes; at = at + len }) (form_length (drop at bytes))
    passed = record {
      enough = omega (arith, within, l.enough, count, length-drop at bytes, ap length same);
      moved = ap (λ (k : ℕ). record { bytes = bytes; at = at + k }) count;
    }

    read : compact_size_at (drop at bytes) ≡ Some (n, drop (at + len) bytes)
    read =
        let r = read_form rest n more l.fits e in
        let after : drop (at + len) bytes ≡ more = behind bytes at len ∙ ap (drop len) (sym same) ∙ ap (λ (k : ℕ). drop k rest) l.len_is ∙ r.behind in
        ap compact_size_at (sym same) ∙ e ∙ ap (λ (t : List ℕ). Some (n, t)) (sym after)

pub passed_size : (old : Position) (bytes : List ℕ) (at : ℕ) (rest : List ℕ) (len n : ℕ) (more : List ℕ) → Looks old bytes at rest len → compact_size_at rest ≡ Some (n, more)
    → PassedSize old (record { bytes = bytes; at = at + len }) n
passed_size old bytes at rest len n more l e =
    let x = passed_exactly old bytes at rest len n more l e in
    let fits = subst IsBytes l.rest_is l.fits in
    let r = read_form (left old) n (drop (at + len) bytes) fits x.1 in
    record { passed = subst (Passed old (record { bytes = bytes; at = at + len })) r.len x.0; fits = r.fits; text = r.text }

pub met_long : (old : Position) (bytes : List ℕ) (at : ℕ) (rest : List ℕ) (len : ℕ) → Looks old bytes at rest len → compact_size_at rest ≡ None
    → MetLongForm old old (form_length (left old)) (at + (len - 1))
met_long old bytes at rest len l e =
    let count : len ≡ form_length (left old) = l.len_is ∙ ap form_length l.rest_is in
    record {
      long = subst (λ (b : List ℕ). IsLongForm b (form_length b)) l.rest_is (long_form rest l.fits (omega (arith, l.enough, l.len_is)) e);
      place_is = ap (λ (k : ℕ). at + (k - 1)) count ∙ ap (λ (p : Position). p.at + (form_length (left old) - 1)) l.position;
      unmoved = refl;
    }
