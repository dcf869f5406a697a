-- Readers of fields: they stop where the bytes end, or at the last byte of a compact size in a longer form.
use Rattle.std.proofs.Common.{◌≡◌, ℕ, zero, suc, ◌<◌, ◌≤◌, ◌^◌, false, ltb, eqb, List, [], ◌∷◌, ◌++◌, length, take, drop, refl, sym, ap, subst, ◌∙◌, append_assoc, arith, inl, inr}
use Rattle.std.specs.Prelude.{Ok, Err}
use Rattle.std.specs.List.{flat_map}
use Rattle.std.specs.Int.{Width, w16, w32, w64, byte_len, from_le_bytes, to_le_bytes}
use Rattle.std.proofs.lemmas.Bool.{cases_Bool, eqb-true, eqb-false, ltb-false}
use Rattle.std.proofs.lemmas.List.{take_at, drop_at, length-append, length-drop}
use Rattle.block_grammar.specs.declared.kinds.TxKind.{TxKind}
use Rattle.block_grammar.specs.declared.kinds.TxKind.TheVariants.{Cut, LongForm}
use Rattle.block_grammar.specs.Kinds.{is_cut}
use Rattle.block_grammar.specs.CompactSize.{compact_size}
use Rattle.block_grammar.specs.FaultRows.{IsLonger, IsLongSize, three_bytes, five_bytes, nine_bytes, HasLongForm, IsFirst, IsBeforeListSize}
use Rattle.block_grammar.specs.Combinators.{◌>>=◌, Reader, then_from, map_from, many_from}
use Rattle.block_grammar.specs.Reading.{number_from, piece_from, marked_from, size_from, counted_from, list_from}
use Rattle.block_grammar.proofs.Readers.{IsBytes, IsBytes-take}
use Rattle.block_grammar.proofs.ReaderLaws.{Reads, err_is, ok_err, bind_err, made_err}
use Rattle.block_grammar.proofs.FieldLaws.{IsBelow, cut_only, split, Longer, marked_err, long_again, IsForm, form16, form32, form64, size_laws}
use Rattle.block_grammar.proofs.ManyRowLaws.{many_stopped}

abbrev pub Spot : Type 0
Spot = TxKind × List ℕ

-- ---- readers that stop only where the bytes end

abbrev pub OnlyCut : {A : Type 0} → Reader TxKind A → Type 0
OnlyCut read = (bytes : List ℕ) (e : Spot) → read bytes ≡ Err e → e.0 ≡ Cut

kind_of : (at e : Spot) → at ≡ e → at.0 ≡ Cut → e.0 ≡ Cut
kind_of at e same cut = ap (λ (s : Spot). s.0) (sym same) ∙ cut

pub number_cut : (w : Width) → OnlyCut (number_from w)
number_cut w bytes e h = kind_of (Cut, []) e (cut_only (ltb (length bytes) (byte_len w)) (from_le_bytes w (take (byte_len w) bytes), drop (byte_len w) bytes) e h).1 refl

pub piece_cut : (n : ℕ) → OnlyCut (piece_from n)
piece_cut n bytes e h = kind_of (Cut, []) e (cut_only (ltb (length bytes) n) (take n bytes, drop n bytes) e h).1 refl

pub then_cut : {A B : Type 0} (first : Reader TxKind A) (second : A → Reader TxKind B) → OnlyCut first → ((x : A) → OnlyCut (second x)) → OnlyCut (then_from first second)
then_cut {A = A} {B = B} first second f g bytes e h =
    elim (bind_err (first bytes) (λ (x : A × List ℕ). second x.0 x.1 >>= λ (y : B × List ℕ). Ok ((x.0, y.0), y.1)) e h) [
      | inl w ↦ f bytes e w
      | inr x ↦ g x.0.0 x.0.1 e (made_err (second x.0.0 x.0.1) (λ (y : B × List ℕ). ((x.0.0, y.0), y.1)) e x.2)
    ]

pub map_cut : {A B : Type 0} (f : A → B) (read : Reader TxKind A) → OnlyCut read → OnlyCut (map_from f read)
map_cut {A = A} f read r bytes e h = r bytes e (made_err (read bytes) (λ (x : A × List ℕ). (f x.0, x.1)) e h)

pub many_cut : {A : Type 0} (read : Reader TxKind A) → OnlyCut read → (n : ℕ) → OnlyCut (many_from read n)
many_cut read r zero bytes e h = absurd (ok_err (many_from read 0 bytes) ([], bytes) e refl h)
many_cut read r (suc n) bytes e h = map_cut (λ x. x.0 ∷ x.1) (then_from read (λ _. many_from read n)) (then_cut read (λ _. many_from read n) r (λ _. many_cut read r n)) bytes e h

-- ---- readers that also stop at a longer form, with what may stand before it

pub data FieldFault (IsBefore : List ℕ → Type 0) (bytes : List ℕ) (e : Spot) : Type 0 where
  ends : e.0 ≡ Cut → FieldFault IsBefore bytes e
  longer : e.0 ≡ LongForm → HasLongForm IsBefore bytes e.1 → FieldFault IsBefore bytes e

abbrev pub Sized : {A : Type 0} → (List ℕ → Type 0) → Reader TxKind A → Type 0
Sized IsBefore read = (bytes : List ℕ) (e : Spot) → IsBytes bytes → read bytes ≡ Err e → FieldFault IsBefore bytes e

pub cut_sized : {A : Type 0} (IsBefore : List ℕ → Type 0) (read : Reader TxKind A) → OnlyCut read → Sized IsBefore read
cut_sized IsBefore read r bytes e fits h = ends (r bytes e h)

pub fault_as : (IsBefore IsBefore' : List ℕ → Type 0) (bytes : List ℕ) (e : Spot) → ((before : List ℕ) → IsBefore before → IsBefore' before) → FieldFault IsBefore bytes e → FieldFault IsBefore' bytes e
fault_as IsBefore IsBefore' bytes e to (ends is) = ends is
fault_as IsBefore IsBefore' bytes e to (longer is h) = longer is (record { before = h.before; is_before = to h.before h.is_before; behind = h.behind; text = h.text; long = h.long })

-- the same fault, seen from further in front
pub fault_behind : (IsBefore : List ℕ → Type 0) (front body bytes : List ℕ) (e : Spot) → bytes ≡ front ++ body → FieldFault (λ before. IsBefore (front ++ before)) body e → FieldFault IsBefore bytes e
fault_behind IsBefore front body bytes e text (ends is) = ends is
fault_behind IsBefore front body bytes e text (longer is h) = longer is (record {
  before = front ++ h.before;
  is_before = h.is_before;
  behind = h.behind;
  text = text ∙ ap (λ (q : List ℕ). front ++ q) h.text ∙ sym (append_assoc front h.before h.behind);
  long = h.long;
})

pub then_sized : {A B : Type 0} (text : A → List ℕ) (Fits : A → Type 0) (first : Reader TxKind A) (second : A → Reader TxKind B) (IsBefore : List ℕ → Type 0) → Reads is_cut text Fits first
    → Sized IsBefore first → ((x : A) → Fits x → Sized (λ before. IsBefore (text x ++ before)) (second x)) → Sized IsBefore (then_from first second)
then_sized {A = A} {B = B} text Fits first second IsBefore laws f g bytes e fits h =
    elim (bind_err (first bytes) (λ (x : A × List ℕ). second x.0 x.1 >>= λ (y : B × List ℕ). Ok ((x.0, y.0), y.1)) e h) [
      | inl w ↦ f bytes e fits w
      | inr x ↦
          let t = laws.takes bytes x.0 fits x.1 in
          fault_behind IsBefore (text x.0.0) x.0.1 bytes e t.parts (g x.0.0 t.fits x.0.1 e t.rest_bytes (made_err (second x.0.0 x.0.1) (λ (y : B × List ℕ). ((x.0.0, y.0), y.1)) e x.2))
    ]

pub map_sized : {A B : Type 0} (f : A → B) (read : Reader TxKind A) (IsBefore : List ℕ → Type 0) → Sized IsBefore read → Sized IsBefore (map_from f read)
map_sized {A = A} f read IsBefore r bytes e fits h = r bytes e fits (made_err (read bytes) (λ (x : A × List ℕ). (f x.0, x.1)) e h)

-- ---- a compact size

longer_is : (w : Width) (limit mark least : ℕ) → IsForm w limit mark least → (rest : List ℕ) (e : Spot) → IsBytes rest → (l : Longer w least rest e) → IsLonger mark w least (mark ∷ rest) e.1
longer_is w limit mark least f rest e fits l =
    let s = l.apart in
    let one : length (s.xs ++ s.last ∷ []) ≡ byte_len w = length-append s.xs (s.last ∷ []) ∙ s.len in
    let grouped : rest ≡ (s.xs ++ s.last ∷ []) ++ s.tail = s.is ∙ sym (append_assoc s.xs (s.last ∷ []) s.tail) in
    let front : take (byte_len w) rest ≡ s.xs ++ s.last ∷ [] = ap (take (byte_len w)) grouped ∙ take_at (s.xs ++ s.last ∷ []) s.tail (byte_len w) one in
    let spelled = f.wide.back (s.xs ++ s.last ∷ []) one (subst IsBytes front (IsBytes-take (byte_len w) rest fits)) in
    record {
      number = from_le_bytes w (s.xs ++ s.last ∷ []);
      less = l.low;
      more = s.tail;
      text = ap (λ (q : List ℕ). mark ∷ q) (grouped ∙ ap (λ (q : List ℕ). q ++ s.tail) (sym spelled));
      rest_is = ap (λ (v : Spot). v.1) (sym l.is) ∙ sym (ap (λ (q : List ℕ). drop (byte_len w) (mark ∷ q)) s.is ∙ drop_at (mark ∷ s.xs) (s.last ∷ s.tail) (byte_len w) (omega (arith, s.len)));
    }

form_sized : (w : Width) (limit mark least : ℕ) → IsForm w limit mark least → (rest : List ℕ) (e : Spot) → IsBytes rest → (IsLonger mark w least (mark ∷ rest) e.1 → IsLongSize (mark ∷ rest) e.1)
    → marked_from w least rest ≡ Err e → FieldFault IsFirst (mark ∷ rest) e
form_sized w limit mark least f rest e fits form h =
    elim (marked_err w least rest e f.some h) [
      | inl c ↦ ends (ap (λ (s : Spot). s.0) (sym c.1))
      | inr l ↦ longer (ap (λ (s : Spot). s.0) (sym l.is)) (record { before = []; is_before = refl; behind = mark ∷ rest; text = refl; long = form (longer_is w limit mark least f rest e fits l) })
    ]

pub size_sized : Sized IsFirst size_from
unfolding size_from
size_sized [] e fits h = let cut : Spot = (Cut, []) in ends (ap (λ (s : Spot). s.0) (sym (err_is cut e h)))
size_sized (first ∷ rest) e fits h =
    let more : IsBytes rest = λ i. fits (suc i) in
    let byte : first < 256 = fits 0 in
    elim (cases_Bool (ltb first 0xFD)) [
      | inl a ↦
          let read : size_from (first ∷ rest) ≡ Ok (first, rest) = rw a refl in
          absurd (ok_err (size_from (first ∷ rest)) (first, rest) e read h)
      | inr a ↦ elim (cases_Bool (eqb first 0xFD)) [
        | inl b ↦
            let read : size_from (first ∷ rest) ≡ marked_from w16 0xFD rest = rw (a, b) refl in
            subst (λ (m : ℕ). FieldFault IsFirst (m ∷ rest) e) (sym (eqb-true first 0xFD b)) (form_sized w16 (2 ^ 16) 0xFD 0xFD form16 rest e more three_bytes (sym read ∙ h))
        | inr b ↦ elim (cases_Bool (eqb first 0xFE)) [
          | inl d ↦
              let read : size_from (first ∷ rest) ≡ marked_from w32 (2 ^ 16) rest = rw (a, b, d) refl in
              subst (λ (m : ℕ). FieldFault IsFirst (m ∷ rest) e) (sym (eqb-true first 0xFE d)) (form_sized w32 (2 ^ 32) 0xFE (2 ^ 16) form32 rest e more five_bytes (sym read ∙ h))
          | inr d ↦
              let mark : first ≡ 0xFF = omega (arith, byte, ltb-false first 0xFD a, eqb-false first 0xFD b, eqb-false first 0xFE d) in
              let read : size_from (first ∷ rest) ≡ marked_from w64 (2 ^ 32) rest = rw (a, b, d) refl in
              subst (λ (m : ℕ). FieldFault IsFirst (m ∷ rest) e) (sym mark) (form_sized w64 (2 ^ 64) 0xFF (2 ^ 32) form64 rest e more nine_bytes (sym read ∙ h))
        ]
      ]
    ]

pub counted_sized : Sized IsFirst counted_from
unfolding counted_from
counted_sized =
    map_sized (λ x. x.1) (then_from size_from piece_from) IsFirst
    (then_sized compact_size (IsBelow (2 ^ 64)) size_from piece_from IsFirst size_laws size_sized (λ n _. cut_sized (λ before. IsFirst (compact_size n ++ before)) (piece_from n) (piece_cut n)))

-- ---- values behind their number

pub values_sized : {A : Type 0} (text : A → List ℕ) (Fits : A → Type 0) (read : Reader TxKind A) (IsBefore : List ℕ → Type 0) → Reads is_cut text Fits read → Sized IsBefore read → (n : ℕ) → n < 2 ^ 64
    → Sized (λ before. IsBeforeListSize text Fits IsBefore (compact_size n ++ before)) (many_from read n)
values_sized text Fits read IsBefore laws r n below bytes e fits h =
    let m = many_stopped is_cut text Fits read laws n bytes e fits h in
    fault_behind (λ before. IsBeforeListSize text Fits IsBefore (compact_size n ++ before)) (flat_map text m.before) m.body bytes e m.parts
    (fault_as IsBefore (λ inner. IsBeforeListSize text Fits IsBefore (compact_size n ++ (flat_map text m.before ++ inner))) m.body e
    (λ inner is. inr (record { count = n; count_fits = below; values = m.before; values_fit = m.fit; fewer = m.fewer; inner = inner; is_before = is; text_is = refl }))
    (r m.body e m.body_bytes m.stopped))

pub list_sized : {A : Type 0} (text : A → List ℕ) (Fits : A → Type 0) (read : Reader TxKind A) (IsBefore : List ℕ → Type 0) → Reads is_cut text Fits read → Sized IsBefore read
    → Sized (IsBeforeListSize text Fits IsBefore) (list_from read)
list_sized text Fits read IsBefore laws r =
    map_sized (λ x. x.1) (then_from size_from (many_from read)) (IsBeforeListSize text Fits IsBefore)
    (then_sized compact_size (IsBelow (2 ^ 64)) size_from (many_from read) (IsBeforeListSize text Fits IsBefore) size_laws
    (λ bytes e fits h. fault_as IsFirst (IsBeforeListSize text Fits IsBefore) bytes e (λ before is. inl is) (size_sized bytes e fits h)) (values_sized text Fits read IsBefore laws r))

-- ---- from a longer form to the reader

form_met : (w : Width) (limit mark least : ℕ) → IsForm w limit mark least → least ≤ limit → (bytes rest : List ℕ) → IsLonger mark w least bytes rest → size_from bytes ≡ Err (LongForm, rest)
form_met w limit mark least f le bytes rest l =
    let text = to_le_bytes w l.number in
    let len : length text ≡ byte_len w = f.wide.len l.number in
    let back : from_le_bytes w text ≡ l.number = f.wide.again l.number (omega (arith, l.less, le)) in
    let s = split (byte_len w) (text ++ l.more) f.some (omega (arith, len, length-append text l.more)) in
    let grouped : (s.xs ++ s.last ∷ []) ++ s.tail ≡ text ++ l.more = append_assoc s.xs (s.last ∷ []) s.tail ∙ sym s.is in
    let one : length (s.xs ++ s.last ∷ []) ≡ byte_len w = length-append s.xs (s.last ∷ []) ∙ s.len in
    let front : s.xs ++ s.last ∷ [] ≡ text = sym (take_at (s.xs ++ s.last ∷ []) s.tail (byte_len w) one) ∙ ap (take (byte_len w)) grouped ∙ take_at text l.more (byte_len w) len in
    let low : from_le_bytes w (s.xs ++ s.last ∷ []) < least = subst (λ (n : ℕ). n < least) (sym (ap (from_le_bytes w) front ∙ back)) l.less in
    let left : rest ≡ s.last ∷ s.tail = l.rest_is ∙ ap (drop (byte_len w)) (l.text ∙ ap (λ (q : List ℕ). mark ∷ q) s.is) ∙ drop_at (mark ∷ s.xs) (s.last ∷ s.tail) (byte_len w) (omega (arith, s.len)) in
    ap size_from l.text ∙ f.step (text ++ l.more) ∙ ap (marked_from w least) s.is ∙ long_again w least s.xs s.last s.tail s.len low ∙ ap (λ (r : List ℕ). Err (LongForm, r)) (sym left)

pub long_met : (bytes rest : List ℕ) → IsLongSize bytes rest → size_from bytes ≡ Err (LongForm, rest)
long_met bytes rest (three_bytes l) = form_met w16 (2 ^ 16) 0xFD 0xFD form16 (omega arith) bytes rest l
long_met bytes rest (five_bytes l) = form_met w32 (2 ^ 32) 0xFE (2 ^ 16) form32 (omega arith) bytes rest l
long_met bytes rest (nine_bytes l) = form_met w64 (2 ^ 64) 0xFF (2 ^ 32) form64 (omega arith) bytes rest l

-- bytes are left from the place on
form_left : (w : Width) (limit mark least : ℕ) → IsForm w limit mark least → (bytes rest : List ℕ) → IsLonger mark w least bytes rest → rest ≡ [] → ⊥
form_left w limit mark least f bytes rest l none =
    let text = to_le_bytes w l.number in
    omega (arith, f.wide.len l.number, ap length l.text, length-append text l.more, ap length l.rest_is, length-drop (byte_len w) bytes, ap length none)

pub long_left : (bytes rest : List ℕ) → IsLongSize bytes rest → rest ≡ [] → ⊥
long_left bytes rest (three_bytes l) none = form_left w16 (2 ^ 16) 0xFD 0xFD form16 bytes rest l none
long_left bytes rest (five_bytes l) none = form_left w32 (2 ^ 32) 0xFE (2 ^ 16) form32 bytes rest l none
long_left bytes rest (nine_bytes l) none = form_left w64 (2 ^ 64) 0xFF (2 ^ 32) form64 bytes rest l none

-- its mark isn't 00
pub record HasMark (bytes : List ℕ) : Type 0 where
  pub mark : ℕ
  pub behind : List ℕ
  pub is : bytes ≡ mark ∷ behind
  pub nonzero : eqb mark 0 ≡ false

pub long_mark : (bytes rest : List ℕ) → IsLongSize bytes rest → HasMark bytes
long_mark bytes rest (three_bytes l) = record { mark = 0xFD; behind = to_le_bytes w16 l.number ++ l.more; is = l.text; nonzero = refl }
long_mark bytes rest (five_bytes l) = record { mark = 0xFE; behind = to_le_bytes w32 l.number ++ l.more; is = l.text; nonzero = refl }
long_mark bytes rest (nine_bytes l) = record { mark = 0xFF; behind = to_le_bytes w64 l.number ++ l.more; is = l.text; nonzero = refl }
