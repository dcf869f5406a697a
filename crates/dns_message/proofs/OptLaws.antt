-- An OPT record is read where it stands, and nowhere else.
use Rattle.std.proofs.Common.{◌≡◌, ℕ, ◌+◌, ◌-◌, ◌/◌, ◌%◌, ◌^◌, ◌<◌, ◌≤◌, ◌==◌, ◌&&◌, not, nat_lt, nat_le, List, ◌∷◌, ◌++◌, length, get_or, slice_index, take, drop, Bool, true, false, refl, sym, ap, subst, ◌∙◌, arith, if◌then◌else◌, length-append}
use Rattle.std.proofs.lemmas.Bool.{and_parts, and_from}
use Rattle.std.proofs.lemmas.Bool.Decides.{nat_tests}
use Rattle.std.proofs.lemmas.List.{take-append-drop}
use Rattle.std.proofs.lemmas.Nat.{from_be_bytes-to_be_bytes_2}
use Rattle.std.proofs.lemmas.Grind.{common_steps}
use Rattle.domain_text.proofs.NameLaws.{guard}
use Rattle.dns_message.specs.Header.{word_text}
use Rattle.dns_message.specs.Edns.{opt_front, opt_flags, opt_text, HasAdditional, BeginsOpt, HasOpt, IsCut}
use Rattle.dns_message.specs.Reading.{word_at, edns_at, has_additional, begins_opt, opt_at, additional_at}
use Rattle.dns_message.specs.declared.edns.Additional.{Additional}
use Rattle.dns_message.specs.declared.edns.Additional.TheVariants.{NoOpt, Opt, CutOpt}
use Rattle.dns_message.specs.declared.edns.Edns.{Edns}
use Rattle.dns_message.specs.declared.header.Header.{Header}
use Rattle.dns_message.specs.declared.numbers.TheConstants.{OPT, OPT_SIZE}
use Rattle.dns_message.proofs.BufferLemmas.{length-take}
use Rattle.dns_message.proofs.HeaderLaws.{AreBytes, word_fits, drop-word_at}
use Rattle.dns_message.proofs.NumberTests.{below, not_below, same_number, was_same, other_number, was_other}

-- ---- the counts

additional_read : (h : Header) → HasAdditional h → has_additional h ≡ true
additional_read h is =
    rw (same_number h.answers 0 is.answers, same_number h.authorities 0 is.authorities, other_number h.additionals 0 (λ e. omega (arith, is.additionals, e))) refl

not_zero : (n : ℕ) → not (n == 0) ≡ true → 1 ≤ n
not_zero n e = grind (arith, nat_tests, e)

additional_found : (h : Header) → has_additional h ≡ true → HasAdditional h
additional_found h e =
    let a = and_parts (h.answers == 0) ((h.authorities == 0) && not (h.additionals == 0)) e in
    let b = and_parts (h.authorities == 0) (not (h.additionals == 0)) a.1 in
    record { answers = was_same h.answers 0 a.0; authorities = was_same h.authorities 0 b.0; additionals = not_zero h.additionals b.1 }

-- ---- the front

drop-byte_at : (at : ℕ) (bytes : List ℕ) → at < length bytes → drop at bytes ≡ get_or bytes at 0 ∷ drop (at + 1) bytes
drop-byte_at at bytes within = grind (arith, common_steps)

was_within : (m n : ℕ) → nat_le m n ≡ true → m ≤ n
was_within m n e = grind (arith, nat_tests, e)

is_within : (m n : ℕ) → m ≤ n → nat_le m n ≡ true
is_within m n h = grind arith

front_read : (rest : List ℕ) → begins_opt (opt_front ++ rest) ≡ true
front_read rest = and_from (nat_le 3 (length (opt_front ++ rest))) true (is_within 3 (length (opt_front ++ rest)) (omega arith)) refl

front_found : (more : List ℕ) → AreBytes more → begins_opt more ≡ true → more ≡ opt_front ++ drop 3 more
front_found more are e =
    let a = and_parts (nat_le 3 (length more)) ((slice_index more 0 == 0) && (word_at 1 more == OPT)) e in
    let b = and_parts (slice_index more 0 == 0) (word_at 1 more == OPT) a.1 in
    let long = was_within 3 (length more) a.0 in
    drop-byte_at 0 more (omega (arith, long)) ∙ ap (λ w. get_or more 0 0 ∷ w) (drop-word_at 1 more are (omega (arith, long)))
    ∙ ap (λ n. n ∷ (word_text (word_at 1 more) ++ drop 3 more)) (was_same (slice_index more 0) 0 b.0)
    ∙ ap (λ n. 0 ∷ (word_text n ++ drop 3 more)) (was_same (word_at 1 more) OPT b.1)

front_is : (h : Header) (more : List ℕ) → BeginsOpt h more → more ≡ opt_front ++ drop 3 more
front_is h more is = is.text ∙ ap (λ w. opt_front ++ w) (sym (ap (drop 3) is.text))

-- ---- whether one begins

pub begins_found : (h : Header) (more : List ℕ) → AreBytes more → has_additional h && begins_opt more ≡ true → BeginsOpt h more
begins_found h more are e =
    let a = and_parts (has_additional h) (begins_opt more) e in
    record { counts = additional_found h a.0; rest = drop 3 more; text = front_found more are a.1 }

pub begins_read : (h : Header) (more : List ℕ) → BeginsOpt h more → has_additional h && begins_opt more ≡ true
begins_read h more is =
    and_from (has_additional h) (begins_opt more) (additional_read h is.counts) (ap begins_opt is.text ∙ front_read is.rest)

whole_begins : (e : Edns) (h : Header) (more : List ℕ) → HasOpt e h more → BeginsOpt h more
whole_begins e h more is = record {
  counts = is.counts;
  rest = word_text e.size ++ (is.extended ∷ (e.version ∷ (word_text (opt_flags e.dnssec is.z) ++ (word_text (length is.options) ++ (is.options ++ is.rest)))));
  text = is.text;
}

none_begun : (h : Header) (more : List ℕ) → AreBytes more → (BeginsOpt h more → ⊥) → (b : Bool) → has_additional h && begins_opt more ≡ b
    → (if b then opt_at more else NoOpt) ≡ NoOpt
none_begun h more are none true e = absurd (none (begins_found h more are e))
none_begun h more are none false e = refl

pub additional_at-none : (h : Header) (more : List ℕ) → AreBytes more → (BeginsOpt h more → ⊥) → additional_at h more ≡ NoOpt
unfolding additional_at
additional_at-none h more are none = none_begun h more are none (has_additional h && begins_opt more) refl

pub additional_at-begun : (h : Header) (more : List ℕ) → BeginsOpt h more → additional_at h more ≡ opt_at more
unfolding additional_at
additional_at-begun h more is = rw (begins_read h more is) refl

-- ---- whether it is whole

same_edns : (e : Edns) (size version : ℕ) (dnssec : Bool) → size ≡ e.size → version ≡ e.version → dnssec ≡ e.dnssec
    → record { size = size; version = version; dnssec = dnssec } ≡ e
same_edns e size version dnssec a b c = rw (a, b, c) refl

flags_fit : (dnssec : Bool) (z : ℕ) → z < 2 ^ 15 → opt_flags dnssec z < 2 ^ 16
flags_fit true z fits = omega (arith, fits)
flags_fit false z fits = omega (arith, fits)

do_read : (dnssec : Bool) (z : ℕ) → z < 2 ^ 15 → (opt_flags dnssec z / 2 ^ 15 == 1) ≡ dnssec
do_read true z fits = same_number ((2 ^ 15 + z) / 2 ^ 15) 1 (omega (arith, fits))
do_read false z fits = other_number ((0 + z) / 2 ^ 15) 1 (λ e. omega (arith, fits, e))

edns_read : (e : Edns) (extended z : ℕ) (options rest : List ℕ) → e.size < 2 ^ 16 → z < 2 ^ 15 → edns_at (opt_text e extended z options ++ rest) ≡ e
edns_read e extended z options rest size fits =
    same_edns e _ _ _ (from_be_bytes-to_be_bytes_2 e.size size) refl
    (ap (λ n. n / 2 ^ 15 == 1) (from_be_bytes-to_be_bytes_2 (opt_flags e.dnssec z) (flags_fit e.dnssec z fits)) ∙ do_read e.dnssec z fits)

opt_at-opt_text : (e : Edns) (extended z : ℕ) (options rest : List ℕ) → e.size < 2 ^ 16 → z < 2 ^ 15 → length options < 2 ^ 16
    → opt_at (opt_text e extended z options ++ rest) ≡ Opt e
opt_at-opt_text e extended z options rest size fits few =
    let text = opt_text e extended z options ++ rest in
    let behind = length-append options rest in
    let long : nat_lt (length text) OPT_SIZE ≡ false = below (length text) OPT_SIZE (omega arith) in
    let said : word_at 9 text ≡ length options = from_be_bytes-to_be_bytes_2 (length options) few in
    let all : nat_lt (length text - OPT_SIZE) (length options) ≡ false = below (length text - OPT_SIZE) (length options) (omega (arith, behind)) in
    rw (long, said, all) (ap Opt (edns_read e extended z options rest size fits))

pub opt_read : (e : Edns) (h : Header) (more : List ℕ) → HasOpt e h more → additional_at h more ≡ Opt e
opt_read e h more is =
    additional_at-begun h more (whole_begins e h more is) ∙ ap opt_at is.text
    ∙ opt_at-opt_text e is.extended is.z is.options is.rest is.size is.z_fits is.options_fit

flags_found : (n : ℕ) → n < 2 ^ 16 → (b : Bool) → (n / 2 ^ 15 == 1) ≡ b → n ≡ opt_flags b (n % 2 ^ 15)
flags_found n fits true e = omega (arith, was_same (n / 2 ^ 15) 1 e)
flags_found n fits false e = let other : n / 2 ^ 15 ≡ 1 → ⊥ = was_other (n / 2 ^ 15) 1 e in grind (arith, fits, other)

-- the fields behind the front
fields : (more : List ℕ) → AreBytes more → OPT_SIZE ≤ length more
    → drop 3 more ≡ word_text (word_at 3 more) ++ (get_or more 5 0 ∷ (get_or more 6 0 ∷ (word_text (word_at 7 more) ++ (word_text (word_at 9 more) ++ drop 11 more))))
fields more are long =
    drop-word_at 3 more are (omega (arith, long)) ∙ ap (λ w. word_text (word_at 3 more) ++ w) (
    drop-byte_at 5 more (omega (arith, long)) ∙ ap (λ w. get_or more 5 0 ∷ w) (
    drop-byte_at 6 more (omega (arith, long)) ∙ ap (λ w. get_or more 6 0 ∷ w) (
    drop-word_at 7 more are (omega (arith, long)) ∙ ap (λ w. word_text (word_at 7 more) ++ w) (
    drop-word_at 9 more are (omega (arith, long))))))

opt_there : (h : Header) (more : List ℕ) → AreBytes more → BeginsOpt h more → OPT_SIZE ≤ length more → word_at 9 more ≤ length more - OPT_SIZE
    → HasOpt (edns_at more) h more
opt_there h more are begins long whole =
    let said = word_at 9 more in
    let behind = drop 11 more in
    let size : length (take said behind) ≡ said = length-take said behind (grind (arith, common_steps)) in
    let flags = flags_found (word_at 7 more) (word_fits 7 more are) (word_at 7 more / 2 ^ 15 == 1) refl in
    let front = word_text (word_at 3 more) in
    record {
      counts = begins.counts;
      extended = get_or more 5 0;
      z = word_at 7 more % 2 ^ 15;
      options = take said behind;
      rest = drop said behind;
      text = front_is h more begins ∙ ap (λ w. opt_front ++ w) (fields more are long
          ∙ ap (λ n. front ++ (get_or more 5 0 ∷ (get_or more 6 0 ∷ (word_text n ++ (word_text said ++ behind))))) flags
          ∙ ap (λ n. front ++ (get_or more 5 0 ∷ (get_or more 6 0 ∷ (word_text (opt_flags (word_at 7 more / 2 ^ 15 == 1) (word_at 7 more % 2 ^ 15)) ++ (word_text n ++ behind))))) (sym size)
          ∙ ap (λ w. front ++ (get_or more 5 0 ∷ (get_or more 6 0 ∷ (word_text (opt_flags (word_at 7 more / 2 ^ 15 == 1) (word_at 7 more % 2 ^ 15)) ++ (word_text (length (take said behind)) ++ w))))) (sym (take-append-drop said behind)));
      size = word_fits 3 more are;
      version = are 6;
      extended_fits = are 5;
      z_fits = omega arith;
      options_fit = omega (arith, size, word_fits 9 more are);
    }

pub opt_found : (e : Edns) (h : Header) (more : List ℕ) → AreBytes more → BeginsOpt h more → opt_at more ≡ Opt e → HasOpt e h more
opt_found e h more are begins is =
    let tail : Additional = if nat_lt (length more - OPT_SIZE) (word_at 9 more) then CutOpt else Opt (edns_at more) in
    let a = guard (nat_lt (length more) OPT_SIZE) CutOpt tail (Opt e) is (λ w. absurd (cc)) in
    let b = guard (nat_lt (length more - OPT_SIZE) (word_at 9 more)) CutOpt (Opt (edns_at more)) (Opt e) a.1 (λ w. absurd (cc)) in
    let same : edns_at more ≡ e = cc in
    subst (λ x. HasOpt x h more) same
    (opt_there h more are begins (not_below (length more) OPT_SIZE a.0) (not_below (length more - OPT_SIZE) (word_at 9 more) b.0))

some_opt : (a b : Bool) (e : Edns) → (if a then CutOpt else if b then CutOpt else Opt e) ≡ NoOpt → ⊥
some_opt true b e is = absurd (cc)
some_opt false true e is = absurd (cc)
some_opt false false e is = absurd (cc)

-- it is whole or cut
pub not_none : (more : List ℕ) → opt_at more ≡ NoOpt → ⊥
not_none more is = some_opt (nat_lt (length more) OPT_SIZE) (nat_lt (length more - OPT_SIZE) (word_at 9 more)) (edns_at more) is

pub cut_found : (h : Header) (more : List ℕ) → BeginsOpt h more → opt_at more ≡ CutOpt → IsCut h more
cut_found h more begins is = record { begins = begins; not_whole = λ e whole. absurd (cc (opt_read e h more whole, additional_at-begun h more begins, is)) }

cut_read : (h : Header) (more : List ℕ) → AreBytes more → IsCut h more → (a : Additional) → opt_at more ≡ a → opt_at more ≡ CutOpt
cut_read h more are is NoOpt e = absurd (not_none more e)
cut_read h more are is CutOpt e = e
cut_read h more are is (Opt edns) e = absurd (is.not_whole edns (opt_found edns h more are is.begins e))

pub additional_at-cut : (h : Header) (more : List ℕ) → AreBytes more → IsCut h more → additional_at h more ≡ CutOpt
additional_at-cut h more are is = additional_at-begun h more is.begins ∙ cut_read h more are is (opt_at more) refl
