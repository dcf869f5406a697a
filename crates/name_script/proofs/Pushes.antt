-- Pushes are read as they are spelled, and nothing else is.
use Rattle.std.proofs.Common.{◌≡◌, ℕ, ◌%◌, ◌<◌, ◌≤◌, ◌^◌, cond, leb, eqb, List, [], ◌∷◌, ◌++◌, length, get_or, Some, None, refl, sym, ap, ◌∙◌, append_assoc, arith, inl, inr}
use Rattle.std.specs.Int.{Width, w8, w16, w32, from_le_bytes, to_le_bytes}
use Rattle.std.proofs.lemmas.Bool.{leb-true, le-leb, eqb-true}
use Rattle.std.proofs.lemmas.Option.{none-some}
use Rattle.nmc_base.proofs.TruthLemmas.{chosen}
use Rattle.block_grammar.specs.Fields.{number_at, piece_at}
use Rattle.block_grammar.proofs.Readers.{IsBytes, Reads, IsWide, bind_some, number_reads, wide16, wide32, piece_reads, IsBytes-rest}
use Rattle.name_script.specs.NameScript.{IsPush, op_0, direct, pushdata1, pushdata2, pushdata4}
use Rattle.name_script.specs.Reading.{data_at, push_at}

-- ---- bytes behind their number

one_byte : (n : ℕ) → n < 256 → to_le_bytes w8 n ≡ n ∷ []
one_byte n lt = let same : n % 256 ≡ n = omega arith in ap (λ (b : ℕ). b ∷ []) same

written_1 : (bytes : List ℕ) → length bytes ≡ 1 → get_or bytes 0 0 ∷ [] ≡ bytes
written_1 [] len = absurd (omega arith)
written_1 (b ∷ []) len = refl
written_1 (b ∷ c ∷ bytes) len = absurd (omega arith)

wide8 : IsWide w8 (2 ^ 8)
wide8 = record {
  len = λ n. refl;
  back = λ bytes len fits.
      let small : from_le_bytes w8 bytes < 256 = omega (arith, fits 0) in
      let same : from_le_bytes w8 bytes ≡ get_or bytes 0 0 = omega arith in
      one_byte (from_le_bytes w8 bytes) small ∙ ap (λ (b : ℕ). b ∷ []) same ∙ written_1 bytes len;
  again = λ n lt. omega arith;
  below = λ bytes fits. omega (arith, fits 0);
}

data_reads : (w : Width) (limit : ℕ) → IsWide w limit → Reads (λ (value : List ℕ). to_le_bytes w (length value) ++ value) (λ (value : List ℕ). length value < limit) (data_at w)
data_reads w limit wide = record {
  takes = λ bytes z fits e.
      let a = bind_some (number_at w bytes) (λ (n : ℕ × List ℕ). piece_at n.0 n.1) z e in
      let t1 = (number_reads w limit wide).takes bytes a.0 fits a.1 in
      let t2 = (piece_reads a.0.0).takes a.0.1 z t1.rest_bytes a.2 in
      record {
        parts = t1.parts ∙ ap (λ (t : List ℕ). to_le_bytes w a.0.0 ++ t) t2.parts ∙ rw (← t2.fits) (sym (append_assoc (to_le_bytes w (length z.0)) z.0 z.1));
        fits = omega (arith, t1.fits, t2.fits);
        rest_bytes = t2.rest_bytes;
      };
  again = λ value rest fits.
      rw (append_assoc (to_le_bytes w (length value)) value rest, (number_reads w limit wide).again (length value) (value ++ rest) fits) ((piece_reads (length value)).again value rest refl);
}

-- ---- what is read is a push

-- a push at the front, and the bytes after it
pub record TookPush (bytes : List ℕ) (x : List ℕ × List ℕ) : Type 0 where
  pub push : List ℕ
  pub is_push : IsPush push x.0
  pub parts : bytes ≡ push ++ x.1
  pub rest_bytes : IsBytes x.1

pub direct_push : (value : List ℕ) → length value ≤ 0x4B → IsPush (length value ∷ value) value
direct_push [] le = op_0 refl refl
direct_push (x ∷ xs) le = direct (omega arith) le refl

direct_takes : (opcode : ℕ) (bytes : List ℕ) (z : List ℕ × List ℕ) → IsBytes bytes → opcode ≤ 0x4B → piece_at opcode bytes ≡ Some z → TookPush (opcode ∷ bytes) z
direct_takes opcode bytes z fits le e =
    let t = (piece_reads opcode).takes bytes z fits e in
    let short : length z.0 ≤ 0x4B = omega (arith, t.fits) in
    record {
      push = length z.0 ∷ z.0;
      is_push = direct_push z.0 short;
      parts = rw t.fits (ap (λ (b : List ℕ). opcode ∷ b) t.parts);
      rest_bytes = t.rest_bytes;
    }

data_takes : (w : Width) (limit : ℕ) (wide : IsWide w limit) (opcode : ℕ) (bytes : List ℕ) (z : List ℕ × List ℕ)
    → ((value : List ℕ) → length value < limit → IsPush (opcode ∷ (to_le_bytes w (length value) ++ value)) value)
    → IsBytes bytes → data_at w bytes ≡ Some z → TookPush (opcode ∷ bytes) z
data_takes w limit wide opcode bytes z form fits e =
    let t = (data_reads w limit wide).takes bytes z fits e in
    record {
      push = opcode ∷ (to_le_bytes w (length z.0) ++ z.0);
      is_push = form z.0 t.fits;
      parts = ap (λ (b : List ℕ). opcode ∷ b) t.parts;
      rest_bytes = t.rest_bytes;
    }

pub push_takes : (bytes : List ℕ) (z : List ℕ × List ℕ) → IsBytes bytes → push_at bytes ≡ Some z → TookPush bytes z
unfolding push_at
push_takes [] z fits e = absurd (none-some z e)
push_takes (opcode ∷ bytes) z fits e =
    let more = IsBytes-rest opcode bytes fits in
    elim (chosen (leb opcode 0x4B) (piece_at opcode bytes) (cond (eqb opcode 0x4C) (data_at w8 bytes) (cond (eqb opcode 0x4D) (data_at w16 bytes) (cond (eqb opcode 0x4E) (data_at w32 bytes) None))) (Some z) e) [
      | inl p ↦ direct_takes opcode bytes z more (leb-true opcode 0x4B p.0) p.1
      | inr p ↦ elim (chosen (eqb opcode 0x4C) (data_at w8 bytes) (cond (eqb opcode 0x4D) (data_at w16 bytes) (cond (eqb opcode 0x4E) (data_at w32 bytes) None)) (Some z) p.1) [
        | inl q ↦ rw (eqb-true opcode 0x4C q.0) (data_takes w8 (2 ^ 8) wide8 0x4C bytes z (λ value lt. pushdata1 lt (ap (λ (t : List ℕ). 0x4C ∷ (t ++ value)) (one_byte (length value) lt))) more q.1)
        | inr q ↦ elim (chosen (eqb opcode 0x4D) (data_at w16 bytes) (cond (eqb opcode 0x4E) (data_at w32 bytes) None) (Some z) q.1) [
          | inl r ↦ rw (eqb-true opcode 0x4D r.0) (data_takes w16 (2 ^ 16) wide16 0x4D bytes z (λ value lt. pushdata2 lt refl) more r.1)
          | inr r ↦ elim (chosen (eqb opcode 0x4E) (data_at w32 bytes) None (Some z) r.1) [
            | inl s ↦ rw (eqb-true opcode 0x4E s.0) (data_takes w32 (2 ^ 32) wide32 0x4E bytes z (λ value lt. pushdata4 lt refl) more s.1)
            | inr s ↦ absurd (none-some z s.1)
          ]
        ]
      ]
    ]

-- ---- a push is read, whatever follows

byte_again : (value rest : List ℕ) → length value < 2 ^ 8 → data_at w8 (length value ∷ (value ++ rest)) ≡ Some (value, rest)
byte_again value rest lt =
    let spelled : (to_le_bytes w8 (length value) ++ value) ++ rest ≡ length value ∷ (value ++ rest) = ap (λ (t : List ℕ). (t ++ value) ++ rest) (one_byte (length value) lt) in
    ap (data_at w8) (sym spelled) ∙ (data_reads w8 (2 ^ 8) wide8).again value rest lt

pub push_again : (bytes value rest : List ℕ) → IsPush bytes value → push_at (bytes ++ rest) ≡ Some (value, rest)
unfolding push_at
push_again bytes value rest (op_0 empty text) = rw (text, empty) ((piece_reads 0).again [] rest refl)
push_again bytes value rest (direct some le text) = rw (text, le-leb (length value) 0x4B le) ((piece_reads (length value)).again value rest refl)
push_again bytes value rest (pushdata1 lt text) = rw text (byte_again value rest lt)
push_again bytes value rest (pushdata2 lt text) = rw text ((data_reads w16 (2 ^ 16) wide16).again value rest lt)
push_again bytes value rest (pushdata4 lt text) = rw text ((data_reads w32 (2 ^ 32) wide32).again value rest lt)
