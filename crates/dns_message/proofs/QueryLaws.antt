-- What comes of a message is what the rules say.
use Rattle.std.proofs.Common.{◌≡◌, ◌≢◌, ℕ, ◌^◌, ◌<◌, ◌≤◌, ◌==◌, ◌&&◌, List, ◌++◌, length, take, drop, Bool, true, false, refl, sym, ap, subst, ◌∙◌, arith, nat_lt, if◌then◌else◌, append_assoc, Option, Some, None}
use Rattle.std.proofs.lemmas.List.{drop_at, take_at, take-append-drop, nil_from_length}
use Rattle.std.proofs.lemmas.Nat.{from_be_bytes-to_be_bytes_2}
use Rattle.domain_text.specs.Names.{IsName, wire_of}
use Rattle.domain_text.specs.Reading.{name_length}
use Rattle.domain_text.specs.declared.limits.TheConstants.{LONGEST_WIRE}
use Rattle.domain_text.proofs.NameLaws.{guard, name_found, name_only}
use Rattle.dns_message.specs.Header.{word_text, header_text, qr_of, opcode_of}
use Rattle.dns_message.specs.Query.{Query, Reading, question_text, HasHeader, IsStandardQuery, BeginsQuestion, HasOneQuestion, IsQuery, IsKnownVersion, IsOtherVersion, IfQuery, IsByVersion, ReadsAs, query_of, asked_of}
use Rattle.dns_message.specs.Query.Reading.{Dropped, NotImplemented, FormatError, BadVersion, Asks}
use Rattle.dns_message.specs.Query.ReadsAs.{no_header, response, other_opcode, no_question, cut_opt, bad_version, question}
use Rattle.dns_message.specs.Reading.{word_at, header_at, question_at, query_of_length, query_at, has_additional, begins_opt, opt_at, additional_at, with_edns, with_additional, one_question, reading_behind, reading_of}
use Rattle.dns_message.specs.Edns.{TellsEdns, BeginsOpt, IsCut}
use Rattle.dns_message.specs.Edns.TellsEdns.{no_opt, opt}
use Rattle.dns_message.specs.declared.edns.Additional.{Additional}
use Rattle.dns_message.specs.declared.edns.Additional.TheVariants.{NoOpt, Opt, CutOpt}
use Rattle.dns_message.specs.declared.edns.Edns.{Edns}
use Rattle.dns_message.specs.declared.header.Header.{Header}
use Rattle.dns_message.specs.declared.query.Asked.{Asked}
use Rattle.dns_message.specs.declared.query.Asked.TheVariants as asked
use Prim.{tt}
use Rattle.dns_message.specs.declared.numbers.TheConstants.{HEADER_SIZE, TYPE_AND_CLASS_SIZE}
use Rattle.dns_message.proofs.BufferLemmas.{length-take}
use Rattle.dns_message.proofs.NumberTests.{below, not_below, is_below, was_below, same_number, was_same, other_number, was_other}
use Rattle.dns_message.proofs.OptLaws.{begins_found, begins_read, additional_at-none, additional_at-cut, opt_read, opt_found, not_none, cut_found}
use Rattle.dns_message.proofs.HeaderLaws.{AreBytes, AreBytes-drop, word_fits, drop-word_at, header_found, header_at-header_text}

-- QR is 0 where it isn't 1
is_query_bit : (flags : ℕ) → flags < 2 ^ 16 → qr_of flags ≢ 1 → qr_of flags ≡ 0
is_query_bit flags fits other = omega (arith, fits, other)

no_response : (flags : ℕ) → qr_of flags ≡ 0 → (qr_of flags == 1) ≡ false
no_response flags query = other_number (qr_of flags) 1 (λ e. omega (arith, query, e))

-- ---- the question behind a header

-- the query, without what stands behind its question
abbrev plain : Query → Query
plain q = record { id = q.id; flags = q.flags; name = q.name; kind = q.kind; «class» = q.«class»; edns = None }

words_read : (q : Query) (h : Header) (bytes more : List ℕ) → bytes ≡ q.name ++ (word_text q.kind ++ (word_text q.«class» ++ more)) → BeginsQuestion q h bytes more
    → query_of_length h bytes (Some (length q.name)) ≡ Some (plain q, more)
words_read q h bytes more shape is =
    let words = word_text q.kind ++ (word_text q.«class» ++ more) in
    let dropped : drop (length q.name) bytes ≡ words = ap (drop (length q.name)) shape ∙ drop_at q.name words (length q.name) refl in
    let taken : take (length q.name) bytes ≡ q.name = ap (take (length q.name)) shape ∙ take_at q.name words (length q.name) refl in
    let long : nat_lt LONGEST_WIRE (length q.name) ≡ false = below LONGEST_WIRE (length q.name) is.name.fits in
    let four : nat_lt (length words) TYPE_AND_CLASS_SIZE ≡ false = below (length words) TYPE_AND_CLASS_SIZE (omega arith) in
    let kind_is : word_at 0 words ≡ q.kind = from_be_bytes-to_be_bytes_2 q.kind is.kind in
    let class_is : word_at 2 words ≡ q.«class» = from_be_bytes-to_be_bytes_2 q.«class» is.class_fits in
    rw (dropped, taken, long, four, kind_is, class_is, sym is.id, sym is.flags) refl

pub query_read : (q : Query) (h : Header) (bytes more : List ℕ) → BeginsQuestion q h bytes more → query_at h bytes ≡ Some (plain q, more)
unfolding query_at
query_read q h bytes more is =
    let words = word_text q.kind ++ (word_text q.«class» ++ more) in
    let shape : bytes ≡ q.name ++ words = is.text ∙ append_assoc q.name (word_text q.kind ++ word_text q.«class») more in
    let size : name_length 0 bytes ≡ Some (length q.name) =
    ap (name_length 0) (shape ∙ ap (λ w. w ++ words) is.name.text) ∙ name_only is.name.labels words is.name.are ∙ ap (λ w. Some (length w)) (sym is.name.text) in
    ap (query_of_length h bytes) size ∙ words_read q h bytes more shape is

-- what stands at the front, and behind it
abbrev question_and_rest : Header → List ℕ → ℕ → Query × List ℕ
question_and_rest h bytes n = (question_at h bytes n, drop TYPE_AND_CLASS_SIZE (drop n bytes))

-- the length that was found, and what it was tested for
record Found (h : Header) (bytes : List ℕ) (found : Query × List ℕ) (o : Option ℕ) : Type 0 where
  n : ℕ
  is : o ≡ Some n
  fits : n ≤ LONGEST_WIRE
  four : TYPE_AND_CLASS_SIZE ≤ length (drop n bytes)
  same : question_and_rest h bytes n ≡ found

length_found : (h : Header) (bytes : List ℕ) (o : Option ℕ) (found : Query × List ℕ) → query_of_length h bytes o ≡ Some found → Found h bytes found o
length_found h bytes None found e = absurd (cc)
length_found h bytes (Some n) found e =
    let all = Some (question_and_rest h bytes n) in
    let a = guard (nat_lt LONGEST_WIRE n) None (if nat_lt (length (drop n bytes)) TYPE_AND_CLASS_SIZE then None else all) (Some found) e (λ w. absurd (cc)) in
    let b = guard (nat_lt (length (drop n bytes)) TYPE_AND_CLASS_SIZE) None all (Some found) a.1 (λ w. absurd (cc)) in
    record { n = n; is = refl; fits = not_below LONGEST_WIRE n a.0; four = not_below (length (drop n bytes)) TYPE_AND_CLASS_SIZE b.0; same = cc }

name_there : (bytes : List ℕ) (n : ℕ) → name_length 0 bytes ≡ Some n → n ≤ LONGEST_WIRE → IsName (take n bytes)
name_there bytes n e fits =
    let at = name_found 0 bytes n e in
    let size : length (take n bytes) ≡ n = length-take n bytes at.within in
    record { labels = at.labels; are = at.are; text = at.text ∙ ap (λ w. w ++ wire_of at.labels) (nil_from_length at.front at.long); fits = omega (arith, size) }

-- a question at the front, of which nothing else is read yet, and the bytes behind it
record Asks_at (h : Header) (bytes : List ℕ) (found : Query × List ℕ) : Type 0 where
  asks : BeginsQuestion found.0 h bytes found.1
  none : found.0.edns ≡ None
  are : AreBytes found.1

question_there : (h : Header) (bytes : List ℕ) (n : ℕ) → AreBytes bytes → h.questions ≡ 1 → TYPE_AND_CLASS_SIZE ≤ length (drop n bytes) → IsName (take n bytes)
    → Asks_at h bytes (question_and_rest h bytes n)
question_there h bytes n are one four name =
    let words = drop n bytes in
    let words_are = AreBytes-drop n bytes are in
    let kind : words ≡ word_text (word_at 0 words) ++ drop 2 words = drop-word_at 0 words words_are (omega (arith, four)) in
    let class_is : drop 2 words ≡ word_text (word_at 2 words) ++ drop 4 words = drop-word_at 2 words words_are (omega (arith, four)) in
    record {
      asks = record {
        one = one;
        text = sym (take-append-drop n bytes) ∙ ap (λ w. take n bytes ++ w) (kind ∙ ap (λ w. word_text (word_at 0 words) ++ w) class_is)
            ∙ sym (append_assoc (take n bytes) (word_text (word_at 0 words) ++ word_text (word_at 2 words)) (drop 4 words));
        name = name;
        kind = word_fits 0 words words_are;
        class_fits = word_fits 2 words words_are;
        id = refl;
        flags = refl;
      };
      none = refl;
      are = AreBytes-drop TYPE_AND_CLASS_SIZE words words_are;
    }

query_found : (h : Header) (bytes : List ℕ) (found : Query × List ℕ) → AreBytes bytes → h.questions ≡ 1 → query_at h bytes ≡ Some found → Asks_at h bytes found
unfolding query_at
query_found h bytes found are one e =
    let f = length_found h bytes (name_length 0 bytes) found e in
    subst (Asks_at h bytes) f.same (question_there h bytes f.n are one f.four (name_there bytes f.n f.is f.fits))

-- ---- each message is read by a rule

-- the same question, with EDNS
asks-with_edns : (e : Edns) (q : Query) (h : Header) (rest more : List ℕ) → BeginsQuestion q h rest more → BeginsQuestion (with_edns e q) h rest more
asks-with_edns e q h rest more is =
    record { one = is.one; text = is.text; name = is.name; kind = is.kind; class_fits = is.class_fits; id = is.id; flags = is.flags }

by_version : (q : Query) (bytes : List ℕ) (e : Edns) → IsQuery (with_edns e q) bytes → (b : Bool) → (e.version == 0) ≡ b
    → ReadsAs bytes (if b then Asks (with_edns e q) else BadVersion (with_edns e q))
by_version q bytes e is true known = question (with_edns e q) is (was_same e.version 0 known)
by_version q bytes e is false other = bad_version (with_edns e q) is (was_other e.version 0 other)

by_opt : (h : Header) (rest bytes : List ℕ) (found : Query × List ℕ) → HasHeader h rest bytes → IsStandardQuery h → Asks_at h rest found → BeginsOpt h found.1
    → (a : Additional) → opt_at found.1 ≡ a → ReadsAs bytes (with_additional found.0 a)
by_opt h rest bytes found begins standard at starts NoOpt e = absurd (not_none found.1 e)
by_opt h rest bytes found begins standard at starts CutOpt e =
    rw (at.asks.id, at.asks.flags) (cut_opt h rest begins standard found.0 found.1 at.asks (cut_found h found.1 starts e))
by_opt h rest bytes found begins standard at starts (Opt edns) e =
    let tells : TellsEdns h found.1 (Some edns) = opt edns (opt_found edns h found.1 at.are starts e) in
    let asked : HasOneQuestion (with_edns edns found.0) h rest = record { more = found.1; asks = asks-with_edns edns found.0 h rest found.1 at.asks; edns = tells } in
    by_version found.0 bytes edns (record { header = h; rest = rest; begins = begins; standard = standard; question = asked }) (edns.version == 0) refl

by_begun : (h : Header) (rest bytes : List ℕ) (found : Query × List ℕ) → HasHeader h rest bytes → IsStandardQuery h → Asks_at h rest found
    → (b : Bool) → has_additional h && begins_opt found.1 ≡ b → ReadsAs bytes (with_additional found.0 (if b then opt_at found.1 else NoOpt))
by_begun h rest bytes found begins standard at true e = by_opt h rest bytes found begins standard at (begins_found h found.1 at.are e) (opt_at found.1) refl
by_begun h rest bytes found begins standard at false e =
    let tells : TellsEdns h found.1 None = no_opt (λ starts. absurd (cc (begins_read h found.1 starts, e))) in
    let asked : HasOneQuestion found.0 h rest = record { more = found.1; asks = at.asks; edns = subst (TellsEdns h found.1) (sym at.none) tells } in
    question found.0 (record { header = h; rest = rest; begins = begins; standard = standard; question = asked }) (subst IsKnownVersion (sym at.none) tt)

by_additional : (h : Header) (rest bytes : List ℕ) (found : Query × List ℕ) → HasHeader h rest bytes → IsStandardQuery h → Asks_at h rest found
    → ReadsAs bytes (with_additional found.0 (additional_at h found.1))
unfolding additional_at
by_additional h rest bytes found begins standard at = by_begun h rest bytes found begins standard at (has_additional h && begins_opt found.1) refl

asks : (h : Header) (rest bytes : List ℕ) → AreBytes rest → HasHeader h rest bytes → IsStandardQuery h → h.questions ≡ 1
    → (o : Option (Query × List ℕ)) → query_at h rest ≡ o → ReadsAs bytes (one_question h o)
asks h rest bytes are begins standard one None e = no_question h rest begins standard (λ q more is. absurd (cc (e, query_read q h rest more is)))
asks h rest bytes are begins standard one (Some found) e = by_additional h rest bytes found begins standard (query_found h rest found are one e)

by_count : (h : Header) (rest bytes : List ℕ) → AreBytes rest → HasHeader h rest bytes → IsStandardQuery h → (b : Bool) → (h.questions == 1) ≡ b
    → ReadsAs bytes (if b then one_question h (query_at h rest) else FormatError h.id h.flags)
by_count h rest bytes are begins standard true e = asks h rest bytes are begins standard (was_same h.questions 1 e) (query_at h rest) refl
by_count h rest bytes are begins standard false e = no_question h rest begins standard (λ q more is. was_other h.questions 1 e is.one)

by_opcode : (h : Header) (rest bytes : List ℕ) → AreBytes rest → HasHeader h rest bytes → qr_of h.flags ≡ 0 → (b : Bool) → (opcode_of h.flags == 0) ≡ b
    → ReadsAs bytes (if b then (if h.questions == 1 then one_question h (query_at h rest) else FormatError h.id h.flags) else NotImplemented h.id h.flags)
by_opcode h rest bytes are begins query true e =
    by_count h rest bytes are begins (record { query = query; opcode = was_same (opcode_of h.flags) 0 e }) (h.questions == 1) refl
by_opcode h rest bytes are begins query false e = other_opcode h rest begins query (was_other (opcode_of h.flags) 0 e)

by_response : (h : Header) (rest bytes : List ℕ) → AreBytes rest → HasHeader h rest bytes → (b : Bool) → (qr_of h.flags == 1) ≡ b
    → ReadsAs bytes (if b then Dropped else if opcode_of h.flags == 0 then (if h.questions == 1 then one_question h (query_at h rest) else FormatError h.id h.flags) else NotImplemented h.id h.flags)
by_response h rest bytes are begins true e = response h rest begins (was_same (qr_of h.flags) 1 e)
by_response h rest bytes are begins false e = by_opcode h rest bytes are begins (is_query_bit h.flags begins.words.flags (was_other (qr_of h.flags) 1 e)) (opcode_of h.flags == 0) refl

behind : (h : Header) (rest bytes : List ℕ) → AreBytes rest → HasHeader h rest bytes → ReadsAs bytes (reading_behind h rest)
unfolding reading_behind
behind h rest bytes are begins = by_response h rest bytes are begins (qr_of h.flags == 1) refl

by_size : (bytes : List ℕ) → AreBytes bytes → (b : Bool) → nat_lt (length bytes) HEADER_SIZE ≡ b
    → ReadsAs bytes (if b then Dropped else reading_behind (header_at bytes) (drop HEADER_SIZE bytes))
by_size bytes are true e = no_header (was_below (length bytes) HEADER_SIZE e)
by_size bytes are false e =
    behind (header_at bytes) (drop HEADER_SIZE bytes) bytes (AreBytes-drop HEADER_SIZE bytes are) (header_found bytes are (not_below (length bytes) HEADER_SIZE e))

pub reads_as : (bytes : List ℕ) → AreBytes bytes → ReadsAs bytes (reading_of bytes)
unfolding reading_of
reads_as bytes are = by_size bytes are (nat_lt (length bytes) HEADER_SIZE) refl

-- ---- by one rule alone

reading_of-header : (h : Header) (rest bytes : List ℕ) → HasHeader h rest bytes → reading_of bytes ≡ reading_behind h rest
unfolding reading_of
reading_of-header h rest bytes begins =
    let long : nat_lt (length (header_text h ++ rest)) HEADER_SIZE ≡ false = below (length (header_text h ++ rest)) HEADER_SIZE (omega arith) in
    rw (begins.text, long, header_at-header_text h rest begins.words) refl

behind_standard : (h : Header) (rest : List ℕ) → IsStandardQuery h
    → reading_behind h rest ≡ (if h.questions == 1 then one_question h (query_at h rest) else FormatError h.id h.flags)
unfolding reading_behind
behind_standard h rest is = rw (no_response h.flags is.query, same_number (opcode_of h.flags) 0 is.opcode) refl

behind_asked : (q : Query) (h : Header) (rest more : List ℕ) → IsStandardQuery h → BeginsQuestion q h rest more
    → reading_behind h rest ≡ with_additional (plain q) (additional_at h more)
behind_asked q h rest more standard is = behind_standard h rest standard ∙ rw (same_number h.questions 1 is.one, query_read q h rest more is) refl

are_after : (q : Query) (h : Header) (rest more : List ℕ) → AreBytes rest → BeginsQuestion q h rest more → AreBytes more
are_after q h rest more are is =
    subst AreBytes (ap (drop (length (question_text q))) is.text ∙ drop_at (question_text q) more (length (question_text q)) refl)
    (AreBytes-drop (length (question_text q)) rest are)

same_query : (q : Query) (o : Option Edns) → q.edns ≡ o → record { id = q.id; flags = q.flags; name = q.name; kind = q.kind; «class» = q.«class»; edns = o } ≡ q
same_query q o e = rw (sym e) refl

known_read : (q : Query) (h : Header) (more : List ℕ) (o : Option Edns) → AreBytes more → q.edns ≡ o → TellsEdns h more o → IsKnownVersion o
    → with_additional (plain q) (additional_at h more) ≡ Asks q
known_read q h more None are e (no_opt none) known = rw (additional_at-none h more are none) (ap Asks (same_query q None e))
known_read q h more (Some edns) are e (opt _ has) known =
    rw (opt_read edns h more has, same_number edns.version 0 known) (ap Asks (same_query q (Some edns) e))

other_read : (q : Query) (h : Header) (more : List ℕ) (o : Option Edns) → q.edns ≡ o → TellsEdns h more o → IsOtherVersion o
    → with_additional (plain q) (additional_at h more) ≡ BadVersion q
other_read q h more None e tells other = absurd other
other_read q h more (Some edns) e (opt _ has) other =
    rw (opt_read edns h more has, other_number edns.version 0 other) (ap BadVersion (same_query q (Some edns) e))

none_asked : (h : Header) (rest : List ℕ) → AreBytes rest → ((q : Query) (more : List ℕ) → BeginsQuestion q h rest more → ⊥) → (b : Bool) → (h.questions == 1) ≡ b
    → (o : Option (Query × List ℕ)) → query_at h rest ≡ o → (if b then one_question h o else FormatError h.id h.flags) ≡ FormatError h.id h.flags
none_asked h rest are none false e o a = refl
none_asked h rest are none true e None a = refl
none_asked h rest are none true e (Some found) a = absurd (none found.0 found.1 (query_found h rest found are (was_same h.questions 1 e) a).asks)

cut_behind : (q : Query) (h : Header) (rest more : List ℕ) → AreBytes rest → IsStandardQuery h → BeginsQuestion q h rest more → IsCut h more
    → reading_behind h rest ≡ FormatError h.id h.flags
cut_behind q h rest more are standard is cut =
    behind_asked q h rest more standard is ∙ rw (additional_at-cut h more (are_after q h rest more are is) cut, is.id, is.flags) refl

known_behind : (q : Query) (h : Header) (rest : List ℕ) → AreBytes rest → IsStandardQuery h → HasOneQuestion q h rest → IsKnownVersion q.edns
    → reading_behind h rest ≡ Asks q
known_behind q h rest are standard is known =
    behind_asked q h rest is.more standard is.asks ∙ known_read q h is.more q.edns (are_after q h rest is.more are is.asks) refl is.edns known

other_behind : (q : Query) (h : Header) (rest : List ℕ) → IsStandardQuery h → HasOneQuestion q h rest → IsOtherVersion q.edns → reading_behind h rest ≡ BadVersion q
other_behind q h rest standard is other = behind_asked q h rest is.more standard is.asks ∙ other_read q h is.more q.edns refl is.edns other

pub behind_response : (h : Header) (rest : List ℕ) → qr_of h.flags ≡ 1 → reading_behind h rest ≡ Dropped
unfolding reading_behind
behind_response h rest is = rw (same_number (qr_of h.flags) 1 is) refl

behind_other_opcode : (h : Header) (rest : List ℕ) → qr_of h.flags ≡ 0 → opcode_of h.flags ≢ 0 → reading_behind h rest ≡ NotImplemented h.id h.flags
unfolding reading_behind
behind_other_opcode h rest query other = rw (no_response h.flags query, other_number (opcode_of h.flags) 0 other) refl

short : (bytes : List ℕ) → length bytes < HEADER_SIZE → reading_of bytes ≡ Dropped
unfolding reading_of
short bytes few = rw (is_below (length bytes) HEADER_SIZE few) refl

are_behind : (h : Header) (rest bytes : List ℕ) → AreBytes bytes → HasHeader h rest bytes → AreBytes rest
are_behind h rest bytes are begins = subst AreBytes (ap (drop HEADER_SIZE) begins.text) (AreBytes-drop HEADER_SIZE bytes are)

pub reading_is : (bytes : List ℕ) (reading : Reading) → AreBytes bytes → ReadsAs bytes reading → reading_of bytes ≡ reading
reading_is bytes reading are (no_header few) = short bytes few
reading_is bytes reading are (response h rest begins is) = reading_of-header h rest bytes begins ∙ behind_response h rest is
reading_is bytes reading are (other_opcode h rest begins query other) = reading_of-header h rest bytes begins ∙ behind_other_opcode h rest query other
reading_is bytes reading are (no_question h rest begins standard none) =
    reading_of-header h rest bytes begins ∙ behind_standard h rest standard
    ∙ none_asked h rest (are_behind h rest bytes are begins) none (h.questions == 1) refl (query_at h rest) refl
reading_is bytes reading are (cut_opt h rest begins standard q more asked cut) =
    reading_of-header h rest bytes begins ∙ cut_behind q h rest more (are_behind h rest bytes are begins) standard asked cut
reading_is bytes reading are (bad_version q is other) = reading_of-header is.header is.rest bytes is.begins ∙ other_behind q is.header is.rest is.standard is.question other
reading_is bytes reading are (question q is known) =
    reading_of-header is.header is.rest bytes is.begins ∙ known_behind q is.header is.rest (are_behind is.header is.rest bytes are is.begins) is.standard is.question known

-- what is read as a query is one, of a version that is known
asked_by_rule : (bytes : List ℕ) (q : Query) (reading : Reading) → reading ≡ Asks q → ReadsAs bytes reading → IsQuery q bytes × IsKnownVersion q.edns
asked_by_rule bytes q reading e (no_header few) = absurd (cc)
asked_by_rule bytes q reading e (response h rest begins is) = absurd (cc)
asked_by_rule bytes q reading e (other_opcode h rest begins query other) = absurd (cc)
asked_by_rule bytes q reading e (no_question h rest begins standard none) = absurd (cc)
asked_by_rule bytes q reading e (cut_opt h rest begins standard other more asked cut) = absurd (cc)
asked_by_rule bytes q reading e (bad_version other is unknown) = absurd (cc)
asked_by_rule bytes q reading e (question other is known) = let same : other ≡ q = cc in subst (λ (z : Query). IsQuery z bytes × IsKnownVersion z.edns) same (is, known)

-- the same of one of another version
bad_version_by_rule : (bytes : List ℕ) (q : Query) (reading : Reading) → reading ≡ BadVersion q → ReadsAs bytes reading → IsQuery q bytes × IsOtherVersion q.edns
bad_version_by_rule bytes q reading e (no_header few) = absurd (cc)
bad_version_by_rule bytes q reading e (response h rest begins is) = absurd (cc)
bad_version_by_rule bytes q reading e (other_opcode h rest begins query other) = absurd (cc)
bad_version_by_rule bytes q reading e (no_question h rest begins standard none) = absurd (cc)
bad_version_by_rule bytes q reading e (cut_opt h rest begins standard other more asked cut) = absurd (cc)
bad_version_by_rule bytes q reading e (question other is known) = absurd (cc)
bad_version_by_rule bytes q reading e (bad_version other is unknown) =
    let same : other ≡ q = cc in subst (λ (z : Query). IsQuery z bytes × IsOtherVersion z.edns) same (is, unknown)

pub asks_query : (bytes : List ℕ) (q : Query) → AreBytes bytes → Asks q ≡ reading_of bytes → IsQuery q bytes × IsKnownVersion q.edns
asks_query bytes q are e = asked_by_rule bytes q (reading_of bytes) (sym e) (reads_as bytes are)

pub bad_version_query : (bytes : List ℕ) (q : Query) → AreBytes bytes → BadVersion q ≡ reading_of bytes → IsQuery q bytes × IsOtherVersion q.edns
bad_version_query bytes q are e = bad_version_by_rule bytes q (reading_of bytes) (sym e) (reads_as bytes are)

pub is_query : (bytes : List ℕ) (a : Asked) → AreBytes bytes → asked_of a ≡ reading_of bytes → IfQuery a (λ q. IsQuery (query_of q) bytes)
is_query bytes (asked.Query q) are e = (asks_query bytes (query_of q) are e).0
is_query bytes (asked.BadVersion q) are e = (bad_version_query bytes (query_of q) are e).0
is_query bytes asked.Drop are e = tt
is_query bytes (asked.FormErr id flags) are e = tt
is_query bytes (asked.NotImp id flags) are e = tt

pub is_by_version : (bytes : List ℕ) (a : Asked) → AreBytes bytes → asked_of a ≡ reading_of bytes → IsByVersion a
is_by_version bytes (asked.Query q) are e = (asks_query bytes (query_of q) are e).1
is_by_version bytes (asked.BadVersion q) are e = (bad_version_query bytes (query_of q) are e).1
is_by_version bytes asked.Drop are e = tt
is_by_version bytes (asked.FormErr id flags) are e = tt
is_by_version bytes (asked.NotImp id flags) are e = tt
