-- A compact size by the cursor, and by the reader on lists.
use Rattle.std.proofs.Common.{◌≡◌, ℕ, ◌-◌, ◌<◌, ◌≤◌, ◌^◌, true, false, ltb, eqb, List, [], ◌∷◌, length, take, drop, Some, None, refl, sym, ap, subst, ◌∙◌, arith, inl, inr}
use Rattle.std.specs.Prelude.{Result, Ok, Err}
use Rattle.std.specs.Int.{Width, w16, w32, w64, byte_len, from_le_bytes}
use Rattle.std.proofs.lemmas.Bool.{cases_Bool, ltb-false, lt-ltb, le-ltb, eqb-true, eqb-false}
use Rattle.std.proofs.lemmas.Option.{none-some}
use Rattle.block_grammar.specs.Fields.{number_at, at_least, compact_size_at}
use Rattle.block_grammar.proofs.Readers.{IsBytes}
use Rattle.block_grammar.proofs.Sizes.{size_reads}
use Rattle.wire_read.specs.Position.{Position, left}
use Rattle.wire_read.specs.SizeForm.{form_length}
use Rattle.wire_read.specs.Fields.{Passed, GivesSizeExactly}
use Rattle.wire_read.specs.declared.cursor.WireFault.TheVariants.{Cut as Cut_at, LongForm as LongForm_at}
use Rattle.wire_read.specs.declared.cursor.WireFault.{WireFault}
use Rattle.block_grammar.specs.declared.kinds.TxKind.{TxKind}
use Rattle.block_grammar.specs.declared.kinds.TxKind.TheVariants.{Cut, LongForm}
use Rattle.block_grammar.specs.Reading.{marked_from, size_from}
use Rattle.block_grammar.proofs.FieldLaws.{size_laws}

abbrev Answer : Type 0
Answer = Result (ℕ × List ℕ) (TxKind × List ℕ)

-- ---- by the bytes alone

size_is : (bytes : List ℕ) (n : ℕ) (rest : List ℕ) → IsBytes bytes → compact_size_at bytes ≡ Some (n, rest) → size_from bytes ≡ Ok (n, rest)
size_is bytes n rest fits e =
    let t = size_reads.takes bytes (n, rest) fits e in
    ap size_from t.parts ∙ size_laws.again n rest t.fits

marked_cut : (w : Width) (least : ℕ) (rest : List ℕ) → length rest < byte_len w → marked_from w least rest ≡ Err (Cut, [])
marked_cut w least rest short = rw (lt-ltb (length rest) (byte_len w) short) refl

size_cut : (bytes : List ℕ) → length bytes < form_length bytes → size_from bytes ≡ Err (Cut, [])
unfolding size_from form_length
size_cut [] short = refl
size_cut (first ∷ rest) short =
    elim (cases_Bool (eqb first 0xFD)) [
      | inl a ↦
          let form : form_length (first ∷ rest) ≡ 3 = rw a refl in
          let big : ltb first 0xFD ≡ false = le-ltb first 0xFD (omega (arith, eqb-true first 0xFD a)) in
          rw (big, a) (marked_cut w16 0xFD rest (omega (arith, short, form)))
      | inr a ↦ elim (cases_Bool (eqb first 0xFE)) [
        | inl b ↦
            let form : form_length (first ∷ rest) ≡ 5 = rw (a, b) refl in
            let big : ltb first 0xFD ≡ false = le-ltb first 0xFD (omega (arith, eqb-true first 0xFE b)) in
            rw (big, a, b) (marked_cut w32 (2 ^ 16) rest (omega (arith, short, form)))
        | inr b ↦ elim (cases_Bool (eqb first 0xFF)) [
          | inl d ↦
              let form : form_length (first ∷ rest) ≡ 9 = rw (a, b, d) refl in
              let big : ltb first 0xFD ≡ false = le-ltb first 0xFD (omega (arith, eqb-true first 0xFF d)) in
              rw (big, a, b) (marked_cut w64 (2 ^ 32) rest (omega (arith, short, form)))
          | inr d ↦
              let form : form_length (first ∷ rest) ≡ 1 = rw (a, b, d) refl in
              absurd (omega (arith, short, form))
        ]
      ]
    ]

marked_long : (w : Width) (least : ℕ) (rest : List ℕ) → byte_len w ≤ length rest → at_least least (number_at w rest) ≡ None → marked_from w least rest ≡ Err (LongForm, drop (byte_len w - 1) rest)
marked_long w least rest long e =
    let enough : ltb (length rest) (byte_len w) ≡ false = le-ltb (length rest) (byte_len w) long in
    elim (cases_Bool (ltb (from_le_bytes w (take (byte_len w) rest)) least)) [
      | inl low ↦ rw (enough, low) refl
      | inr high ↦
          let read : at_least least (number_at w rest) ≡ Some (from_le_bytes w (take (byte_len w) rest), drop (byte_len w) rest) = rw (enough, high) refl in
          absurd (none-some (from_le_bytes w (take (byte_len w) rest), drop (byte_len w) rest) (sym e ∙ read))
    ]

size_long : (bytes : List ℕ) → IsBytes bytes → form_length bytes ≤ length bytes → compact_size_at bytes ≡ None → size_from bytes ≡ Err (LongForm, drop (form_length bytes - 1) bytes)
unfolding size_from form_length compact_size_at
size_long [] fits long e = absurd (omega arith)
size_long (first ∷ rest) fits long e =
    let byte : first < 256 = fits 0 in
    elim (cases_Bool (ltb first 0xFD)) [
      | inl small ↦
          let read : compact_size_at (first ∷ rest) ≡ Some (first, rest) = rw small refl in
          absurd (none-some (first, rest) (sym e ∙ read))
      | inr big ↦ elim (cases_Bool (eqb first 0xFD)) [
        | inl a ↦
            let form : form_length (first ∷ rest) ≡ 3 = rw a refl in
            let unread : at_least 0xFD (number_at w16 rest) ≡ None = rw (big, a) at e in
            rw (form, big, a) (marked_long w16 0xFD rest (omega (arith, long, form)) unread)
        | inr a ↦ elim (cases_Bool (eqb first 0xFE)) [
          | inl b ↦
              let form : form_length (first ∷ rest) ≡ 5 = rw (a, b) refl in
              let unread : at_least (2 ^ 16) (number_at w32 rest) ≡ None = rw (big, a, b) at e in
              rw (form, big, a, b) (marked_long w32 (2 ^ 16) rest (omega (arith, long, form)) unread)
          | inr b ↦
              let mark : first ≡ 0xFF = omega (arith, byte, ltb-false first 0xFD big, eqb-false first 0xFD a, eqb-false first 0xFE b) in
              let last : eqb first 0xFF ≡ true = rw mark refl in
              let form : form_length (first ∷ rest) ≡ 9 = rw (a, b, last) refl in
              let unread : at_least (2 ^ 32) (number_at w64 rest) ≡ None = rw (big, a, b) at e in
              rw (form, big, a, b) (marked_long w64 (2 ^ 32) rest (omega (arith, long, form)) unread)
        ]
      ]
    ]

-- ---- by a cursor that stands before the first byte

abbrev start : List ℕ → Position
start bytes = record { bytes = bytes; at = 0 }

pub cursor_ok : (bytes : List ℕ) (new : Position) (n at : ℕ) (rest : List ℕ) → IsBytes bytes
    → Passed (start bytes) new (form_length (left (start bytes))) × (compact_size_at (left (start bytes)) ≡ Some (n, left new)) → at ≡ new.at → rest ≡ drop at bytes → Ok (n, rest) ≡ size_from bytes
cursor_ok bytes new n at rest fits e place is =
    let same : left new ≡ rest = ap (λ (p : Position). drop new.at p.bytes) e.0.moved ∙ ap (λ (k : ℕ). drop k bytes) (sym place) ∙ sym is in
    ap (λ (r : List ℕ). Ok (n, r)) (sym same) ∙ sym (size_is bytes n (left new) fits e.1)

pub cursor_cut : (bytes : List ℕ) (old new : Position) (fault : WireFault) (place : ℕ) (kind : TxKind) (rest : List ℕ) → old ≡ start bytes → GivesSizeExactly old new (Err fault) → fault ≡ Cut_at place
    → kind ≡ Cut → rest ≡ [] → Err (kind, rest) ≡ size_from bytes
cursor_cut bytes old new fault place kind rest o e is k r =
    let e' : GivesSizeExactly (start bytes) new (Err (Cut_at place)) = subst (λ (p : Position). GivesSizeExactly p new (Err (Cut_at place))) o (subst (λ (f : WireFault). GivesSizeExactly old new (Err f)) is e) in
    ap (λ (x : TxKind). Err (x, rest)) k ∙ ap (λ (x : List ℕ). Err (Cut, x)) r ∙ sym (size_cut bytes (omega (arith, e'.fewer)))

pub cursor_long : (bytes : List ℕ) (old new : Position) (fault : WireFault) (place : ℕ) (rest : List ℕ) → IsBytes bytes → old ≡ start bytes → GivesSizeExactly old new (Err fault) → fault ≡ LongForm_at place
    → rest ≡ drop place bytes → Err (LongForm, rest) ≡ size_from bytes
cursor_long bytes old new fault place rest fits o e is r =
    let e' : GivesSizeExactly (start bytes) new (Err (LongForm_at place)) = subst (λ (p : Position). GivesSizeExactly p new (Err (LongForm_at place))) o (subst (λ (f : WireFault). GivesSizeExactly old new (Err f)) is e) in
    let where_it_is : place ≡ form_length bytes - 1 = omega (arith, e'.place_is) in
    ap (λ (x : List ℕ). Err (LongForm, x)) (r ∙ ap (λ (k : ℕ). drop k bytes) where_it_is) ∙ sym (size_long bytes fits (omega (arith, e'.enough)) e'.unread)
