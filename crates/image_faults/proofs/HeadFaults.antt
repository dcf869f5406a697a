-- The faults of an image's head.
use Rattle.std.proofs.Common.{◌≡◌, ◌≢◌, ℕ, suc, ◌<◌, ◌≤◌, ◌⊎◌, Bool, true, false, cond, List, [], ◌∷◌, ◌++◌, length, take, drop, refl, sym, ap, subst, ◌∙◌, append-nil, length-append, arith, inl, inr}
use Rattle.std.specs.Prelude.{Ok, Err, ◌==◌}
use Rattle.std.specs.Int.{w32, to_le_bytes}
use Rattle.std.proofs.lemmas.Bool.{le-ltb, eqb-true, eqb-false, eq-eqb, ne_eqb}
use Rattle.block_grammar.proofs.Readers.{IsBytes, Took}
use Rattle.block_grammar.proofs.ReaderLaws.{err_is, bind_err}
use Rattle.nmc_base.specs.declared.chain_ends.Profile.{Profile}
use Rattle.nmc_base.specs.declared.chain_ends.Profile.TheVariants.{Regtest, Main}
use Rattle.undo_records.specs.declared.fault.FaultKind.TheVariants.{BadTag}
use Rattle.undo_records.specs.declared.version.Version.{Version}
use Rattle.undo_records.specs.declared.version.Version.TheVariants.{One, Two}
use Rattle.undo_records.specs.Faults.{IsOther}
use Rattle.block_grammar.specs.Combinators.{map_from}
use Rattle.undo_records.specs.Reading.{piece_from, byte_from}
use Rattle.undo_records.proofs.Laws.{Spot, ended, NoFlaw, Part, Core, in_first, in_second, then_part, then_core, IsSeenBy, seen_core}
use Rattle.undo_records.proofs.Choices.{CheckFlaw, checked_part, checked_core}
use Rattle.undo_records.proofs.FieldLaws.{part32, core32, piece_part, piece_core}
use Rattle.image_faults.specs.Faults.{IsBadHead, other_magic, other_version, other_profile}
use Rattle.image_grammar.specs.Reading.{Head, first_other, same_or_fault, exactly_from, head_of, head_from}
use Rattle.image_grammar.specs.Text.{magic, version_byte, version_of, is_version, profile_byte, profile_of, is_profile, head_text}
use Rattle.image_grammar.proofs.TakeLaws.{byte_takes, exactly_takes, is_byte, FitsHead}

-- ---- bytes that must be these

-- where bytes differ from what is wanted
record Differs (want bytes found : List ℕ) : Type 0 where
  front : List ℕ
  wanted : ℕ
  others : List ℕ
  want_is : want ≡ front ++ wanted ∷ others
  text_is : bytes ≡ front ++ found
  other : IsOther (wanted ∷ []) found

differs : (want bytes : List ℕ) (b : ℕ) (more : List ℕ) → first_other want bytes ≡ b ∷ more → Differs want bytes (b ∷ more)
differs [] bytes b more e = absurd cc
differs (w ∷ want) [] b more e = absurd cc
differs (w ∷ want) (x ∷ bytes) b more e = by (differs want bytes b more) (x == w) refl e
  where
    by : (first_other want bytes ≡ b ∷ more → Differs want bytes (b ∷ more)) → (t : Bool) → (x == w) ≡ t → cond t (first_other want bytes) (x ∷ bytes) ≡ b ∷ more
        → Differs (w ∷ want) (x ∷ bytes) (b ∷ more)
    by go true is e' =
        let d = go e' in
        record {
          front = w ∷ d.front;
          wanted = d.wanted;
          others = d.others;
          want_is = ap (λ (l : List ℕ). w ∷ l) d.want_is;
          text_is = λ i. eqb-true x w is i ∷ d.text_is i;
          other = d.other;
        }
    by go false is e' =
        let head : x ≡ b = cc in
        record { front = []; wanted = w; others = want; want_is = refl; text_is = e'; other = record { first = b; more = more; text = refl; other = (λ same. eqb-false x w is (head ∙ same), tt) } }

same_first : (w b : ℕ) (want bytes : List ℕ) → (b == w) ≡ true → first_other (w ∷ want) (b ∷ bytes) ≡ first_other want bytes
same_first w b want bytes same = rw same refl

other_first : (w b : ℕ) (want bytes : List ℕ) → (b == w) ≡ false → first_other (w ∷ want) (b ∷ bytes) ≡ b ∷ bytes
other_first w b want bytes differ = rw differ refl

differs_at : (want front : List ℕ) (wanted : ℕ) (others bytes rest : List ℕ) → want ≡ front ++ wanted ∷ others → bytes ≡ front ++ rest → IsOther (wanted ∷ []) rest → first_other want bytes ≡ rest
differs_at want [] wanted others bytes rest want_is text_is o =
    ap (λ (l : List ℕ). first_other l bytes) want_is ∙ ap (first_other (wanted ∷ others)) (text_is ∙ o.text) ∙ other_first wanted o.first others o.more (ne_eqb o.first wanted o.other.0) ∙ sym o.text
differs_at want (f ∷ front) wanted others bytes rest want_is text_is o =
    ap (λ (l : List ℕ). first_other l bytes) want_is ∙ ap (first_other (f ∷ (front ++ wanted ∷ others))) text_is ∙ same_first f f (front ++ wanted ∷ others) (front ++ rest) (eq-eqb f f refl)
    ∙ differs_at (front ++ wanted ∷ others) front wanted others (front ++ rest) rest refl refl o

pub record MagicFlaw (bytes : List ℕ) (e : Spot) : Type 0 where
  pub front : List ℕ
  pub wanted : ℕ
  pub others : List ℕ
  pub rest : List ℕ
  pub want_is : magic ≡ front ++ wanted ∷ others
  pub long : length magic ≤ length bytes
  pub text_is : bytes ≡ front ++ rest
  pub other : IsOther (wanted ∷ []) rest
  pub is : (BadTag, rest) ≡ e

abbrev magic_part : Part (List ℕ)
magic_part = record { text = λ bytes. bytes; Fits = λ bytes. bytes ≡ magic; Flawed = MagicFlaw; read = exactly_from magic }

magic_again : (rest : List ℕ) → exactly_from magic (magic ++ rest) ≡ Ok (magic, rest)
magic_again rest = rw ((piece_core 4).again magic rest refl) refl

magic_stops : (bytes : List ℕ) (e : Spot) → IsBytes bytes → exactly_from magic bytes ≡ Err e → (e ≡ ended) ⊎ MagicFlaw bytes e
magic_stops bytes e are h =
    elim (bind_err (piece_from 4 bytes) (λ (x : List ℕ × List ℕ). same_or_fault x.0 x.1 (first_other magic bytes)) e h) [
      | inl w ↦ elim ((piece_core 4).stops bytes e are w) [ inl cut ↦ inl cut | inr f ↦ absurd f ]
      | inr x ↦ inr (by x.0 ((piece_core 4).takes bytes x.0 are x.1) (first_other magic bytes) refl x.2)
    ]
  where
    by : (x : List ℕ × List ℕ) → Took (λ bytes. bytes) (λ b. length b ≡ 4) bytes x → (other : List ℕ) → first_other magic bytes ≡ other → same_or_fault x.0 x.1 other ≡ Err e → MagicFlaw bytes e
    by x t [] is h' = absurd cc
    by x t (b ∷ other) is h' =
        let d = differs magic bytes b other is in
        record {
          front = d.front;
          wanted = d.wanted;
          others = d.others;
          rest = b ∷ other;
          want_is = d.want_is;
          long = omega (arith, t.fits, ap length t.parts, length-append x.0 x.1);
          text_is = d.text_is;
          other = d.other;
          is = err_is (BadTag, b ∷ other) e h';
        }

magic_flawed : (bytes : List ℕ) (e : Spot) → MagicFlaw bytes e → exactly_from magic bytes ≡ Err e
magic_flawed bytes e f =
    let piece : piece_from 4 bytes ≡ Ok (take 4 bytes, drop 4 bytes) = rw (le-ltb (length bytes) 4 f.long) refl in
    let found : first_other magic bytes ≡ f.other.first ∷ f.other.more = differs_at magic f.front f.wanted f.others bytes f.rest f.want_is f.text_is f.other ∙ f.other.text in
    let seen : exactly_from magic bytes ≡ Err (BadTag, f.other.first ∷ f.other.more) = rw (piece, found) refl in
    seen ∙ ap (λ (l : List ℕ). Err (BadTag, l)) (sym f.other.text) ∙ ap (λ (s : Spot). Err s) f.is

at_end : (bytes : List ℕ) (e : Spot) → e ≡ ended → (front : List ℕ) × (bytes ≡ front ++ e.1)
at_end bytes e is = (bytes, sym (append-nil bytes) ∙ ap (λ (s : Spot). bytes ++ s.1) (sym is))

magic_core : Core magic_part
magic_core = record {
  takes = exactly_takes magic;
  again = λ x rest fits. subst (λ (m : List ℕ). exactly_from magic (m ++ rest) ≡ Ok (m, rest)) (sym fits) (magic_again rest);
  stops = magic_stops;
  flawed = magic_flawed;
  behind = λ bytes e are h. elim (magic_stops bytes e are h) [ inl cut ↦ at_end bytes e cut | inr f ↦ (f.front, f.text_is ∙ ap (λ (s : Spot). f.front ++ s.1) f.is) ];
}

-- ---- the version and the profile

abbrev byte_part : Part ℕ
byte_part = record { text = λ n. n ∷ []; Fits = λ n. n < 256; Flawed = NoFlaw; read = byte_from }

byte_stops : (bytes : List ℕ) (e : Spot) → IsBytes bytes → byte_from bytes ≡ Err e → (e ≡ ended) ⊎ NoFlaw bytes e
byte_stops [] e are h = inl (sym (err_is ended e h))
byte_stops (first ∷ rest) e are h = absurd cc

byte_core : Core byte_part
byte_core = record {
  takes = byte_takes;
  again = λ x rest fits. refl;
  stops = byte_stops;
  flawed = λ bytes e f. absurd f;
  behind = λ bytes e are h. elim (byte_stops bytes e are h) [ inl cut ↦ at_end bytes e cut | inr f ↦ absurd f ];
}

-- whether a byte is that of a value
abbrev is_byte_of : {A : Type 0} → (A → ℕ) → (ℕ → A) → ℕ → Bool
is_byte_of byte value n = n == byte (value n)

-- a value by its byte
abbrev one_byte_part : {A : Type 0} → (A → ℕ) → (ℕ → A) → Part A
one_byte_part byte value = record {
  text = λ v. byte v ∷ [];
  Fits = λ _. Unit {0};
  Flawed = CheckFlaw byte_part BadTag (is_byte_of byte value);
  read = map_from value (checked_part BadTag (is_byte_of byte value) byte_part).read;
}

-- each value has a byte of its own
record HaveBytes {A : Type 0} (byte : A → ℕ) (value : ℕ → A) : Type 0 where
  back : (v : A) → value (byte v) ≡ v
  fits : (v : A) → (byte v < 256) × (is_byte_of byte value (byte v) ≡ true)

one_byte_is : {A : Type 0} (byte : A → ℕ) (value : ℕ → A) → HaveBytes byte value
    → IsSeenBy value byte (checked_part BadTag (is_byte_of byte value) byte_part) (one_byte_part byte value)
one_byte_is byte value have = record {
  read = λ bytes. refl;
  back = λ v fits. have.back v;
  spell = λ n fits. is_byte n (byte (value n)) fits.1;
  to = λ n fits. tt;
  from = λ v fits. have.fits v;
  flaw_to = λ bytes e f. f;
  flaw_from = λ bytes e f. f;
}

one_byte_core : {A : Type 0} (byte : A → ℕ) (value : ℕ → A) → HaveBytes byte value → Core (one_byte_part byte value)
one_byte_core byte value have =
    seen_core value byte (checked_part BadTag (is_byte_of byte value) byte_part) (one_byte_part byte value) (one_byte_is byte value have)
    (checked_core byte_part (λ bytes e f. f) BadTag (is_byte_of byte value) byte_core)

abbrev version_part : Part Version
version_part = one_byte_part version_byte version_of

version_back : (v : Version) → version_of (version_byte v) ≡ v
version_back One = refl
version_back Two = refl

version_fits : (v : Version) → (version_byte v < 256) × (is_version (version_byte v) ≡ true)
version_fits One = (omega arith, refl)
version_fits Two = (omega arith, refl)

version_core : Core version_part
version_core = one_byte_core version_byte version_of (record { back = version_back; fits = version_fits })

abbrev profile_part : Part Profile
profile_part = one_byte_part profile_byte profile_of

profile_back : (p : Profile) → profile_of (profile_byte p) ≡ p
profile_back Regtest = refl
profile_back Main = refl

profile_fits : (p : Profile) → (profile_byte p < 256) × (is_profile (profile_byte p) ≡ true)
profile_fits Regtest = (omega arith, refl)
profile_fits Main = (omega arith, refl)

profile_core : Core profile_part
profile_core = one_byte_core profile_byte profile_of (record { back = profile_back; fits = profile_fits })

-- ---- the head, and the number of records behind it

abbrev Fields : Type 0
Fields = List ℕ × (Version × (Profile × (ℕ × List ℕ)))

abbrev behind_profile : Part (ℕ × List ℕ)
behind_profile = then_part part32 (λ _. piece_part 32)

abbrev behind_version : Part (Profile × (ℕ × List ℕ))
behind_version = then_part profile_part (λ _. behind_profile)

abbrev behind_magic : Part (Version × (Profile × (ℕ × List ℕ)))
behind_magic = then_part version_part (λ _. behind_version)

abbrev fields_part : Part Fields
fields_part = then_part magic_part (λ _. behind_magic)

fields_core : Core fields_part
fields_core =
    then_core magic_part (λ _. behind_magic) magic_core
    (λ _ _. then_core version_part (λ _. behind_version) version_core (λ _ _. then_core profile_part (λ _. behind_profile) profile_core (λ _ _. then_core part32 (λ _. piece_part 32) core32 (λ _ _. piece_core 32))))

abbrev of_head : Head → Fields
of_head h = (magic, (h.0, (h.1.profile, (h.1.height, h.1.hash.0))))

abbrev head_part : Part Head
head_part = record { text = λ h. head_text h.0 h.1; Fits = FitsHead; Flawed = fields_part.Flawed; read = head_from }

head_is : IsSeenBy head_of of_head fields_part head_part
head_is = record {
  read = λ bytes. refl;
  back = λ h fits. refl;
  spell = λ x fits. ap (λ (m : List ℕ). m ++ (version_byte x.1.0 ∷ profile_byte x.1.1.0 ∷ (to_le_bytes w32 x.1.1.1.0 ++ x.1.1.1.1))) (sym fits.0);
  to = λ x fits. (fits.1.1.1.0, fits.1.1.1.1);
  from = λ h fits. (refl, (tt, (tt, (fits.0, fits.1))));
  flaw_to = λ bytes e f. f;
  flaw_from = λ bytes e f. f;
}

head_core : Core head_part
head_core = seen_core head_of of_head fields_part head_part head_is fields_core

abbrev pub opening_part : Part (Head × ℕ)
opening_part = then_part head_part (λ _. part32)

pub opening_core : Core opening_part
opening_core = then_core head_part (λ _. part32) head_core (λ _ _. core32)

-- ---- by the grammar

not_version : (n : ℕ) → is_version n ≡ false → (n ≢ 1) × (n ≢ 2)
not_version n fails = (
  λ same. let h : true ≡ false = subst (λ (k : ℕ). is_version k ≡ false) same fails in cc,
  λ same. let h : true ≡ false = subst (λ (k : ℕ). is_version k ≡ false) same fails in cc,
)

not_profile : (n : ℕ) → is_profile n ≡ false → (n ≢ 1) × (n ≢ 2)
not_profile n fails = (
  λ same. let h : true ≡ false = subst (λ (k : ℕ). is_profile k ≡ false) same fails in cc,
  λ same. let h : true ≡ false = subst (λ (k : ℕ). is_profile k ≡ false) same fails in cc,
)

no_version : (n : ℕ) → n ≢ 1 → n ≢ 2 → is_version n ≡ false
no_version n one two = rw (ne_eqb n 2 two, ne_eqb n 1 one) refl

no_profile : (n : ℕ) → n ≢ 1 → n ≢ 2 → is_profile n ≡ false
no_profile n one two = rw (ne_eqb n 2 two, ne_eqb n 1 one) refl

-- a byte that is neither of the two
other_of : (bytes : List ℕ) (value : ℕ) (rest : List ℕ) → bytes ≡ value ∷ rest → (value ≢ 1) × (value ≢ 2) → IsOther (1 ∷ 2 ∷ []) bytes
other_of bytes value rest parts differ = record { first = value; more = rest; text = parts; other = (differ.0, (differ.1, tt)) }

pub opening_bad : (bytes : List ℕ) (e : Spot) → opening_part.Flawed bytes e → IsBadHead bytes e.1
opening_bad bytes e (in_second h mid fits parts f) = absurd f
opening_bad bytes e (in_first (in_first f)) = subst (IsBadHead bytes) (ap (λ (s : Spot). s.1) f.is) (other_magic f.front f.wanted f.others f.want_is f.long f.text_is f.other)
opening_bad bytes e (in_first (in_second m mid fits parts (in_first c))) =
    subst (IsBadHead bytes) (ap (λ (s : Spot). s.1) c.is) (other_version (parts ∙ ap (λ (l : List ℕ). l ++ mid) fits) (other_of mid c.value c.rest c.parts (not_version c.value c.fails)))
opening_bad bytes e (in_first (in_second m mid fits parts (in_second v mid2 fits2 parts2 (in_first c)))) =
    subst (IsBadHead bytes) (ap (λ (s : Spot). s.1) c.is)
    (other_profile v (parts ∙ (λ i. fits i ++ parts2 i)) (other_of mid2 c.value c.rest c.parts (not_profile c.value c.fails)))
opening_bad bytes e (in_first (in_second m mid fits parts (in_second v mid2 fits2 parts2 (in_second p mid3 fits3 parts3 (in_first f))))) = absurd f
opening_bad bytes e (in_first (in_second m mid fits parts (in_second v mid2 fits2 parts2 (in_second p mid3 fits3 parts3 (in_second n mid4 fits4 parts4 f))))) = absurd f

other_byte : (test : ℕ → Bool) (bytes : List ℕ) (o : IsOther (1 ∷ 2 ∷ []) bytes) → ((n : ℕ) → n ≢ 1 → n ≢ 2 → test n ≡ false) → o.first < 256 → CheckFlaw byte_part BadTag test bytes (BadTag, bytes)
other_byte test bytes o fails low = record { value = o.first; rest = o.more; fits = low; parts = o.text; fails = fails o.first o.other.0 o.other.1.0; is = refl }

first_low : (bytes : List ℕ) (o : IsOther (1 ∷ 2 ∷ []) bytes) → IsBytes bytes → o.first < 256
first_low bytes o are = let all : IsBytes (o.first ∷ o.more) = subst IsBytes o.text are in all 0

pub opening_flawed : (bytes rest : List ℕ) → IsBytes bytes → IsBadHead bytes rest → opening_part.Flawed bytes (BadTag, rest)
opening_flawed bytes rest are (other_magic front wanted others want_is long text_is o) =
    in_first (in_first (record { front = front; wanted = wanted; others = others; rest = rest; want_is = want_is; long = long; text_is = text_is; other = o; is = refl }))
opening_flawed bytes rest are (other_version parts o) =
    let all : IsBytes (magic ++ rest) = subst IsBytes parts are in
    in_first (in_second magic rest refl parts (in_first (other_byte is_version rest o no_version (first_low rest o (λ i. all (suc (suc (suc (suc i)))))))))
opening_flawed bytes rest are (other_profile v parts o) =
    let all : IsBytes (magic ++ (version_byte v ∷ rest)) = subst IsBytes parts are in
    in_first (in_second magic (version_byte v ∷ rest) refl parts (in_second v rest tt refl (in_first (other_byte is_profile rest o no_profile (first_low rest o (λ i. all (suc (suc (suc (suc (suc i)))))))))))
