-- The laws of fields.
use Rattle.std.proofs.Common.{◌≡◌, ℕ, zero, suc, ◌-◌, ◌<◌, ◌≤◌, ◌^◌, ◌⊎◌, Bool, true, false, cond, ltb, leb, eqb, List, [], ◌∷◌, ◌++◌, length, take, drop, Option, Some, None, refl, sym, ap, subst, ◌∙◌, append-nil, arith, inl, inr}
use Rattle.std.specs.Prelude.{Ok, Err}
use Rattle.std.specs.Int.{Width, w16, w32, byte_len, from_le_bytes, to_le_bytes}
use Rattle.std.proofs.lemmas.Bool.{cases_Bool, ltb-true, lt-ltb, le-ltb, le-leb, leb-true, leb-false, lt-leb, eqb-true, eq-eqb, ne_eqb}
use Rattle.std.proofs.lemmas.List.{length-append}
use Rattle.nmc_base.specs.declared.hashes.OutPoint.{OutPoint}
use Rattle.block_grammar.specs.Fields.{number_at, piece_at}
use Rattle.block_grammar.proofs.Readers.{IsBytes, Took, IsWide, wide16, wide32, number_reads, piece_reads}
use Rattle.block_grammar.proofs.ReaderLaws.{ok_is, err_is, bind_err}
use Rattle.block_grammar.proofs.FieldLaws.{itself, HasLength, IsBelow, zeros, length-zeros, IsBytes-append, IsBytes-replicate}
use Rattle.undo_records.specs.declared.fault.FaultKind.TheVariants.{BadTag}
use Rattle.undo_records.specs.Reading.{Reads, number_from, piece_from, tagged_from, byte_from, name_from, value_length_from, value_from, point_from}
use Rattle.undo_records.specs.Text.{point_text, name_text}
use Rattle.chain_names.specs.Writable.{IsWritablePoint, IsWritableName}
use Rattle.undo_records.specs.Faults.{IsProperFront, IsOther, IsLongLength}
use Rattle.undo_records.proofs.Laws.{Spot, ended, NoFlaw, Part, Core, Ends, PairFlaw, in_first, in_second, then_part, then_core, then_ends, IsSeenBy, seen_core, seen_ends, IsSaid, said_core, said_ends, TagFlaw}
use Rattle.undo_records.proofs.Choices.{no_cut, choice_from, ChoiceFlaw, unknown, behind_tag, Choice, behind_part, choice_part, choice_core, choice_ends, checked_part, checked_core}

-- ---- so many bytes, whatever they are

fewer_ok : {A : Type 0} (b : Bool) (x y : A) → cond b (Err ended) (Ok x) ≡ Ok y → (b ≡ false) × (x ≡ y)
fewer_ok true x y e = absurd cc
fewer_ok false x y e = (refl, ok_is x y e)

fewer_err : {A : Type 0} (b : Bool) (x : A) (e : Spot) → cond b (Err ended) (Ok x) ≡ Err e → (b ≡ true) × (ended ≡ e)
fewer_err true x e h = (refl, err_is ended e h)
fewer_err false x e h = absurd cc

-- a front that is longer than what stands before it
proper_length : (xs bytes : List ℕ) (b : ℕ) (more : List ℕ) → xs ≡ bytes ++ b ∷ more → length bytes < length xs
proper_length xs bytes b more e = let h : length xs ≡ length (bytes ++ b ∷ more) = ap length e in omega (arith, h, length-append bytes (b ∷ more))

-- bytes that are fewer than so many, made up to them
filled : (n : ℕ) (bytes : List ℕ) → length bytes < n → length (bytes ++ 0 ∷ zeros (n - suc (length bytes))) ≡ n
filled n bytes lt = omega (arith, lt, length-append bytes (0 ∷ zeros (n - suc (length bytes))), length-zeros (n - suc (length bytes)))

-- nothing stands behind the end
at_end : (bytes : List ℕ) (e : Spot) → ended ≡ e → (front : List ℕ) × (bytes ≡ front ++ e.1)
at_end bytes e is = (bytes, sym (append-nil bytes) ∙ ap (λ (s : Spot). bytes ++ s.1) is)

abbrev pub piece_part : ℕ → Part (List ℕ)
piece_part n = record { text = itself; Fits = HasLength n; Flawed = NoFlaw; read = piece_from n }

pub piece_core : (n : ℕ) → Core (piece_part n)
piece_core n = record {
  takes = λ bytes x fits e.
      let w = fewer_ok (ltb (length bytes) n) (take n bytes, drop n bytes) x e in
      (piece_reads n).takes bytes x fits (rw w.0 (ap (λ (y : List ℕ × List ℕ). Some y) w.1));
  again = λ x rest fits. let lt : ltb (length (x ++ rest)) n ≡ false = le-ltb (length (x ++ rest)) n (omega (arith, fits, length-append x rest)) in some_ok n x rest lt ((piece_reads n).again x rest fits);
  stops = λ bytes e fits h. inl (sym (fewer_err (ltb (length bytes) n) (take n bytes, drop n bytes) e h).1);
  flawed = λ bytes e f. absurd f;
  behind = λ bytes e fits h. at_end bytes e (fewer_err (ltb (length bytes) n) (take n bytes, drop n bytes) e h).1;
}
  where
    some_ok : (n : ℕ) (x rest : List ℕ) → ltb (length (x ++ rest)) n ≡ false → piece_at n (x ++ rest) ≡ Some (x, rest) → piece_from n (x ++ rest) ≡ Ok (x, rest)
    some_ok n x rest lt e =
        let found : Some (take n (x ++ rest), drop n (x ++ rest)) ≡ Some (x, rest) = rw lt at e in
        let same : (take n (x ++ rest), drop n (x ++ rest)) ≡ (x, rest) = cc in
        rw lt (ap (λ (y : List ℕ × List ℕ). Ok y) same)

pub piece_ends : (n : ℕ) → Ends (piece_part n)
piece_ends n = record {
  short = λ bytes front. let lt : ltb (length bytes) n ≡ true = lt-ltb (length bytes) n (omega (arith, front.fits, proper_length front.value bytes front.next front.more front.text_is)) in rw lt refl;
  begun = λ bytes fits h.
      let lt : length bytes < n = ltb-true (length bytes) n (fewer_err (ltb (length bytes) n) (take n bytes, drop n bytes) ended h).0 in
      record { value = bytes ++ 0 ∷ zeros (n - suc (length bytes)); fits = filled n bytes lt; next = 0; more = zeros (n - suc (length bytes)); text_is = refl };
  sample = zeros n;
  sample_fits = length-zeros n;
}

-- ---- numbers

IsBytes-zeros : (n : ℕ) → IsBytes (zeros n)
IsBytes-zeros n = IsBytes-replicate n 0 (omega arith)

abbrev pub number_part : Width → ℕ → Part ℕ
number_part w limit = record { text = to_le_bytes w; Fits = IsBelow limit; Flawed = NoFlaw; read = number_from w }

module _ (w : Width) (limit : ℕ) (wide : IsWide w limit) where
  number_some : (bytes : List ℕ) (x : ℕ × List ℕ) → number_at w bytes ≡ Some x → number_from w bytes ≡ Ok x
  number_some bytes x e =
      elim (cases_Bool (ltb (length bytes) (byte_len w))) [
        | inl lt ↦ let none : None ≡ Some x = rw lt at e in absurd cc
        | inr le ↦
            let found : Some (from_le_bytes w (take (byte_len w) bytes), drop (byte_len w) bytes) ≡ Some x = rw le at e in
            let same : (from_le_bytes w (take (byte_len w) bytes), drop (byte_len w) bytes) ≡ x = cc in
            rw le (ap (λ (y : ℕ × List ℕ). Ok y) same)
      ]

  pub number_core : Core (number_part w limit)
  number_core = record {
    takes = λ bytes x fits e.
        let o = fewer_ok (ltb (length bytes) (byte_len w)) (from_le_bytes w (take (byte_len w) bytes), drop (byte_len w) bytes) x e in
        (number_reads w limit wide).takes bytes x fits (rw o.0 (ap (λ (y : ℕ × List ℕ). Some y) o.1));
    again = λ x rest fits. number_some (to_le_bytes w x ++ rest) (x, rest) ((number_reads w limit wide).again x rest fits);
    stops = λ bytes e fits h. inl (sym (fewer_err (ltb (length bytes) (byte_len w)) (from_le_bytes w (take (byte_len w) bytes), drop (byte_len w) bytes) e h).1);
    flawed = λ bytes e f. absurd f;
    behind = λ bytes e fits h. at_end bytes e (fewer_err (ltb (length bytes) (byte_len w)) (from_le_bytes w (take (byte_len w) bytes), drop (byte_len w) bytes) e h).1;
  }

  pub number_ends : Ends (number_part w limit)
  number_ends = record {
    short = λ bytes front.
        let lt : ltb (length bytes) (byte_len w) ≡ true = lt-ltb (length bytes) (byte_len w) (omega (arith, wide.len front.value, proper_length (to_le_bytes w front.value) bytes front.next front.more front.text_is)) in
        rw lt refl;
    begun = λ bytes fits h.
        let lt : length bytes < byte_len w = ltb-true (length bytes) (byte_len w) (fewer_err (ltb (length bytes) (byte_len w)) (from_le_bytes w (take (byte_len w) bytes), drop (byte_len w) bytes) ended h).0 in
        let more = zeros (byte_len w - suc (length bytes)) in
        let whole = bytes ++ 0 ∷ more in
        let are_bytes : IsBytes whole = IsBytes-append bytes (zeros (suc (byte_len w - suc (length bytes)))) fits (IsBytes-zeros (suc (byte_len w - suc (length bytes)))) in
        record { value = from_le_bytes w whole; fits = wide.below whole are_bytes; next = 0; more = more; text_is = wide.back whole (filled (byte_len w) bytes lt) are_bytes };
    sample = from_le_bytes w (zeros (byte_len w));
    sample_fits = wide.below (zeros (byte_len w)) (IsBytes-zeros (byte_len w));
  }

abbrev pub part32 : Part ℕ
part32 = number_part w32 (2 ^ 32)

pub core32 : Core part32
core32 = number_core w32 (2 ^ 32) wide32

pub ends32 : Ends part32
ends32 = number_ends w32 (2 ^ 32) wide32

abbrev part16 : Part ℕ
part16 = number_part w16 (2 ^ 16)

core16 : Core part16
core16 = number_core w16 (2 ^ 16) wide16

ends16 : Ends part16
ends16 = number_ends w16 (2 ^ 16) wide16

-- ---- a length in one byte, and names

byte_text : ℕ → List ℕ
byte_text n = n ∷ []

no_middle : (bytes : List ℕ) (n b : ℕ) (more : List ℕ) → n ∷ [] ≡ bytes ++ b ∷ more → bytes ≡ []
no_middle [] n b more e = refl
no_middle (x ∷ bytes) n b more e = let h : suc zero ≡ length (x ∷ (bytes ++ b ∷ more)) = ap length e in absurd (omega (arith, h, length-append bytes (b ∷ more)))

abbrev byte_part : Part ℕ
byte_part = record { text = byte_text; Fits = IsBelow 256; Flawed = NoFlaw; read = byte_from }

byte_core : Core byte_part
unfolding byte_text
byte_core = record {
  takes = takes;
  again = λ x rest fits. refl;
  stops = stops;
  flawed = λ bytes e f. absurd f;
  behind = behind;
}
  where
    behind : (bytes : List ℕ) (e : Spot) → IsBytes bytes → byte_from bytes ≡ Err e → (front : List ℕ) × (bytes ≡ front ++ e.1)
    behind [] e fits h = at_end [] e (err_is ended e h)
    behind (first ∷ rest) e fits h = absurd cc

    takes : (bytes : List ℕ) (x : ℕ × List ℕ) → IsBytes bytes → byte_from bytes ≡ Ok x → Took byte_text (IsBelow 256) bytes x
    takes [] x fits e = absurd cc
    takes (first ∷ rest) x fits e =
        subst (λ (y : ℕ × List ℕ). Took byte_text (IsBelow 256) (first ∷ rest) y) (ok_is (first, rest) x e)
        (record { parts = refl; fits = fits 0; rest_bytes = λ i. fits (suc i) })

    stops : (bytes : List ℕ) (e : Spot) → IsBytes bytes → byte_from bytes ≡ Err e → (e ≡ ended) ⊎ NoFlaw bytes e
    stops [] e fits h = inl (sym (err_is ended e h))
    stops (first ∷ rest) e fits h = absurd cc

byte_ends : Ends byte_part
unfolding byte_text
byte_ends = record {
  short = λ bytes front. rw (no_middle bytes front.value front.next front.more front.text_is) refl;
  begun = begun;
  sample = 0;
  sample_fits = omega arith;
}
  where
    begun : (bytes : List ℕ) → IsBytes bytes → byte_from bytes ≡ Err ended → IsProperFront byte_text (IsBelow 256) bytes
    begun [] fits h = record { value = 0; fits = omega arith; next = 0; more = []; text_is = refl }
    begun (first ∷ rest) fits h = absurd cc

abbrev of_name : List ℕ → ℕ × List ℕ
of_name name = (length name, name)

-- neither of two parts has a flaw
pub no_pair : {A B : Type 0} (p : Part A) (q : A → Part B) (bytes : List ℕ) (e : Spot) → ((bytes : List ℕ) (e : Spot) → p.Flawed bytes e → ⊥)
    → ((x : A) (bytes : List ℕ) (e : Spot) → (q x).Flawed bytes e → ⊥) → PairFlaw p q bytes e → ⊥
no_pair p q bytes e none1 none2 (in_first f) = none1 bytes e f
no_pair p q bytes e none1 none2 (in_second x mid fits parts f) = none2 x mid e f

abbrev pub name_part : Part (List ℕ)
name_part = record { text = name_text; Fits = IsWritableName; Flawed = NoFlaw; read = name_from }

name_is : IsSeenBy (λ (x : ℕ × List ℕ). x.1) of_name (then_part byte_part piece_part) name_part
unfolding byte_text name_from
name_is = record {
  read = λ bytes. refl;
  back = λ name fits. refl;
  spell = λ x fits. rw fits.1 refl;
  to = λ x fits. omega (arith, fits.0, fits.1);
  from = λ name fits. (omega (arith, fits), refl);
  flaw_to = λ bytes e f. no_pair byte_part piece_part bytes e (λ bytes e f. f) (λ x bytes e f. f) f;
  flaw_from = λ bytes e f. absurd f;
}

pub name_core : Core name_part
name_core = seen_core (λ (x : ℕ × List ℕ). x.1) of_name (then_part byte_part piece_part) name_part name_is (then_core byte_part piece_part byte_core (λ n _. piece_core n))

pub name_ends : Ends name_part
name_ends = seen_ends (λ (x : ℕ × List ℕ). x.1) of_name (then_part byte_part piece_part) name_part name_is (then_ends byte_part piece_part byte_core byte_ends (λ n _. piece_ends n))

-- ---- values

abbrev pub value_text : List ℕ → List ℕ
value_text value = to_le_bytes w16 (length value) ++ value

abbrev pub FitsValue : List ℕ → Type 0
FitsValue value = length value ≤ 1023

abbrev pub IsLongAt : List ℕ → List ℕ → Type 0
IsLongAt bytes rest = IsLongLength bytes × (rest ≡ bytes)

abbrev short_enough : ℕ → Bool
short_enough n = leb n 1023

FitsLength : ℕ → Type 0
FitsLength n = n ≤ 1023

abbrev length_part : Part ℕ
length_part = record { text = to_le_bytes w16; Fits = FitsLength; Flawed = TagFlaw IsLongAt; read = value_length_from }

length_is : IsSaid (checked_part BadTag short_enough part16) length_part
unfolding FitsLength value_length_from
length_is = record {
  read = λ bytes. refl;
  spell = λ x fits. refl;
  to = λ x fits. leb-true x 1023 fits.1;
  from = λ x fits. (omega (arith, fits), le-leb x 1023 fits);
  flaw_to = λ bytes e f. record {
    rest = bytes;
    flaw = (record { number = f.value; more = f.rest; text = f.parts; long = leb-false f.value 1023 f.fails; fits = f.fits }, refl);
    is = f.is;
  };
  flaw_from = λ bytes e f.
      let long = f.flaw.0 in
      record { value = long.number; rest = long.more; fits = long.fits; parts = long.text; fails = lt-leb long.number 1023 long.long; is = ap (λ (l : List ℕ). (BadTag, l)) (sym f.flaw.1) ∙ f.is };
}

length_core : Core length_part
length_core = said_core (checked_part BadTag short_enough part16) length_part length_is (checked_core part16 (λ bytes e f. f) BadTag short_enough core16)

number_cut : (bytes : List ℕ) → value_length_from bytes ≡ Err ended → number_from w16 bytes ≡ Err ended
unfolding value_length_from
number_cut bytes h =
    elim (bind_err (number_from w16 bytes) (λ (x : ℕ × List ℕ). cond (short_enough x.0) (Ok x) (Err (BadTag, bytes))) ended h) [
      | inl w ↦ w
      | inr x ↦ absurd (not_cut (short_enough x.0.0) x.0 bytes x.2)
    ]
  where
    not_cut : (b : Bool) (x : ℕ × List ℕ) (bytes : List ℕ) → cond b (Ok x) (Err (BadTag, bytes)) ≡ Err ended → ⊥
    not_cut true x bytes e = absurd cc
    not_cut false x bytes e = no_cut (ap (λ (s : Spot). s.0) (err_is (BadTag, bytes) ended e))

small16 : (b : ℕ) → b < 256 → from_le_bytes w16 (b ∷ 0 ∷ []) ≤ 1023
small16 b lt = omega (arith, lt)

pair_bytes : (b : ℕ) → b < 256 → IsBytes (b ∷ 0 ∷ [])
pair_bytes b lt = IsBytes-append (b ∷ []) (zeros 1) (one b lt) (IsBytes-zeros 1)
  where
    one : (b : ℕ) → b < 256 → IsBytes (b ∷ [])
    one b lt zero = lt
    one b lt (suc i) = omega arith

length_ends : Ends length_part
unfolding FitsLength value_length_from
length_ends = record {
  short = λ bytes front.
      let cut : number_from w16 bytes ≡ Err ended =
      ends16.short bytes (record { value = front.value; fits = omega (arith, front.fits); next = front.next; more = front.more; text_is = front.text_is }) in
      rw cut refl;
  begun = begun;
  sample = 0;
  sample_fits = omega arith;
}
  where
    begun : (bytes : List ℕ) → IsBytes bytes → value_length_from bytes ≡ Err ended → IsProperFront (to_le_bytes w16) FitsLength bytes
    begun [] fits h = record { value = 0; fits = omega arith; next = 0; more = 0 ∷ []; text_is = refl }
    begun (b ∷ []) fits h =
        record { value = from_le_bytes w16 (b ∷ 0 ∷ []); fits = small16 b (fits 0); next = 0; more = []; text_is = wide16.back (b ∷ 0 ∷ []) refl (pair_bytes b (fits 0)) }
    begun (a ∷ b ∷ more) fits h =
        let cut = ends16.begun (a ∷ b ∷ more) fits (number_cut (a ∷ b ∷ more) h) in
        absurd (omega (arith, wide16.len cut.value, proper_length (to_le_bytes w16 cut.value) (a ∷ b ∷ more) cut.next cut.more cut.text_is))

abbrev of_value : List ℕ → ℕ × List ℕ
of_value value = (length value, value)

first_flaw : (bytes : List ℕ) (e : Spot) → PairFlaw length_part piece_part bytes e → TagFlaw IsLongAt bytes e
first_flaw bytes e (in_first f) = f
first_flaw bytes e (in_second x mid fits parts f) = absurd f

abbrev pub value_part : Part (List ℕ)
value_part = record { text = value_text; Fits = FitsValue; Flawed = TagFlaw IsLongAt; read = value_from }

value_is : IsSeenBy (λ (x : ℕ × List ℕ). x.1) of_value (then_part length_part piece_part) value_part
unfolding FitsLength value_from
value_is = record {
  read = λ bytes. refl;
  back = λ value fits. refl;
  spell = λ x fits. rw fits.1 refl;
  to = λ x fits. omega (arith, fits.0, fits.1);
  from = λ value fits. (fits, refl);
  flaw_to = first_flaw;
  flaw_from = λ bytes e f. in_first f;
}

pub value_core : Core value_part
value_core = seen_core (λ (x : ℕ × List ℕ). x.1) of_value (then_part length_part piece_part) value_part value_is (then_core length_part piece_part length_core (λ n _. piece_core n))

pub value_ends : Ends value_part
value_ends = seen_ends (λ (x : ℕ × List ℕ). x.1) of_value (then_part length_part piece_part) value_part value_is (then_ends length_part piece_part length_core length_ends (λ n _. piece_ends n))

-- ---- outpoints

abbrev of_point : OutPoint → List ℕ × ℕ
of_point point = (point.txid.0, point.index)

abbrev point_of : List ℕ × ℕ → OutPoint
point_of x = record { txid = record { 0 = x.0 }; index = x.1 }

abbrev pub point_part : Part OutPoint
point_part = record { text = point_text; Fits = IsWritablePoint; Flawed = NoFlaw; read = point_from }

abbrev point_parts : Part (List ℕ × ℕ)
point_parts = then_part (piece_part 32) (λ _. part32)

point_is : IsSeenBy point_of of_point point_parts point_part
unfolding point_text point_from
point_is = record {
  read = λ bytes. refl;
  back = λ point fits. refl;
  spell = λ x fits. refl;
  to = λ x fits. record { txid = fits.0; index = fits.1 };
  from = λ point fits. (fits.txid, fits.index);
  flaw_to = λ bytes e f. no_pair (piece_part 32) (λ _. part32) bytes e (λ bytes e f. f) (λ x bytes e f. f) f;
  flaw_from = λ bytes e f. absurd f;
}

pub point_core : Core point_part
point_core = seen_core point_of of_point point_parts point_part point_is (then_core (piece_part 32) (λ _. part32) (piece_core 32) (λ _ _. core32))

pub point_ends : Ends point_part
point_ends = seen_ends point_of of_point point_parts point_part point_is (then_ends (piece_part 32) (λ _. part32) (piece_core 32) (piece_ends 32) (λ _ _. ends32))

-- ---- behind a tag

abbrev pub IsOtherAt : List ℕ → List ℕ → List ℕ → Type 0
IsOtherAt tags bytes rest = IsOther tags bytes × (rest ≡ bytes)

-- what stands behind a byte that must be this one
abbrev pub tagged_part : {A : Type 0} → ℕ → Part A → Part A
tagged_part tag p = record { text = λ x. tag ∷ p.text x; Fits = p.Fits; Flawed = TagFlaw (IsOtherAt (tag ∷ [])); read = tagged_from tag p.read }

module _ {A : Type 0} (tag : ℕ) (p : Part A) (no_flaw : (bytes : List ℕ) (e : Spot) → p.Flawed bytes e → ⊥) where
  one_pick : ℕ → Option (Reads A)
  one_pick first = cond (eqb first tag) (Some p.read) None

  pick_is : (first : ℕ) (found : Reads A) → one_pick first ≡ Some found → (first ≡ tag) × (p.read ≡ found)
  unfolding one_pick
  pick_is first found e =
      elim (cases_Bool (eqb first tag)) [
        | inl same ↦
            let is : Some p.read ≡ Some found = rw same at e in
            (eqb-true first tag same, some_is is)
        | inr other ↦
            let none : None ≡ Some found = rw other at e in
            absurd cc
      ]
    where
      some_is : {x y : Reads A} → Some x ≡ Some y → x ≡ y
      some_is e = cc

  pick_tag : one_pick tag ≡ Some p.read
  unfolding one_pick
  pick_tag = let same : eqb tag tag ≡ true = eq-eqb tag tag refl in rw same refl

  tagged_is : (bytes : List ℕ) → tagged_from tag p.read bytes ≡ choice_from one_pick bytes
  unfolding one_pick
  tagged_is [] = refl
  tagged_is (first ∷ rest) =
      elim (cases_Bool (eqb first tag)) [
        | inl same ↦ rw same refl
        | inr other ↦ rw other refl
      ]

  tagged_to : (bytes : List ℕ) (e : Spot) → ChoiceFlaw one_pick (λ _. p.Flawed) bytes e → TagFlaw (IsOtherAt (tag ∷ [])) bytes e
  unfolding one_pick
  tagged_to bytes e (unknown first more parts none is) =
      record { rest = bytes; flaw = (record { first = first; more = more; text = parts; other = (λ same. absurd (known same none), tt) }, refl); is = is }
    where
      known : first ≡ tag → one_pick first ≡ None → ⊥
      known same none = let t : eqb first tag ≡ true = eq-eqb first tag same in let some : Some p.read ≡ None = rw t at none in absurd cc
  tagged_to bytes e (behind_tag first more found parts is f) = absurd (no_flaw more e f)

  tagged_of : (bytes : List ℕ) (e : Spot) → TagFlaw (IsOtherAt (tag ∷ [])) bytes e → ChoiceFlaw one_pick (λ _. p.Flawed) bytes e
  unfolding one_pick
  tagged_of bytes e f =
      let other = f.flaw.0 in
      let differs : eqb other.first tag ≡ false = ne_eqb other.first tag other.other.0 in
      unknown other.first other.more other.text (rw differs refl) (ap (λ (l : List ℕ). (BadTag, l)) (sym f.flaw.1) ∙ f.is)

  abbrev one_choice : Choice A
  one_choice = record { tag_of = λ _. tag; behind = p.text; Fits = p.Fits; pick = one_pick; FlawAt = λ _. p.Flawed }

  behind_is : (first : ℕ) → first ≡ tag → IsSaid p (behind_part one_choice first p.read)
  behind_is first same = record {
    read = λ bytes. refl;
    spell = λ x fits. refl;
    to = λ x fits. (sym same, fits);
    from = λ x fits. fits.1;
    flaw_to = λ bytes e f. f;
    flaw_from = λ bytes e f. f;
  }

  at_core : Core p → (first : ℕ) (found : Reads A) → one_pick first ≡ Some found → Core (behind_part one_choice first found)
  at_core r first found e =
      let w = pick_is first found e in
      subst (λ (f : Reads A). Core (behind_part one_choice first f)) w.1 (said_core p (behind_part one_choice first p.read) (behind_is first w.0) r)

  at_ends : Ends p → (first : ℕ) (found : Reads A) → one_pick first ≡ Some found → Ends (behind_part one_choice first found)
  at_ends s first found e =
      let w = pick_is first found e in
      subst (λ (f : Reads A). Ends (behind_part one_choice first f)) w.1 (said_ends p (behind_part one_choice first p.read) (behind_is first w.0) s)

  said_tagged : IsSaid (choice_part one_choice) (tagged_part tag p)
  said_tagged = record { read = tagged_is; spell = λ x fits. refl; to = λ x fits. fits; from = λ x fits. fits; flaw_to = tagged_to; flaw_from = tagged_of }

  pub tagged_core : Core p → Core (tagged_part tag p)
  tagged_core r = said_core (choice_part one_choice) (tagged_part tag p) said_tagged (choice_core one_choice (λ x fits. (p.read, pick_tag)) (at_core r))

  pub tagged_ends : Ends p → Ends (tagged_part tag p)
  tagged_ends s = said_ends (choice_part one_choice) (tagged_part tag p) said_tagged (choice_ends one_choice (λ x fits. (p.read, pick_tag)) (at_ends s) s.sample s.sample_fits)
