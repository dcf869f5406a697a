-- What is kept of a reply has a text, and serves all who ask the same.
use Rattle.std.proofs.Common.{◌≡◌, ℕ, ◌+◌, ◌^◌, ◌<◌, ◌≤◌, nat_le, if◌then◌else◌, Bool, true, false, List, [], ◌∷◌, ◌++◌, length, Option, Some, None, is_some, refl, sym, ap, ap₂, ◌∙◌, arith, append_assoc, length-append}
use Rattle.std.proofs.lemmas.List.{length-map}
use Rattle.std.proofs.lemmas.Bool.Decides.{nat_tests}
use Rattle.std.specs.List.{flat_map}
use Rattle.std.specs.Char.{to_ascii_lowercase}
use Rattle.std.specs.Str.{bytes_eq}
use Rattle.domain_text.specs.Names.{lower}
use Rattle.dns_message.specs.Header.{word_text}
use Rattle.dns_message.specs.Edns.{opt_size_of_reply}
use Rattle.dns_message.specs.Query.{question_text}
use Rattle.dns_message.specs.Records.{Record, record_text, owner_by, fixed_text, text_by}
use Rattle.dns_message.specs.Replies.{Contents, records_text, body_text, whole_text, truncated_text, reply_text}
use Rattle.dns_message.specs.declared.numbers.TheConstants.{GREATEST_LIMIT}
use Rattle.dns_message.specs.declared.edns.Edns.{Edns}
use Rattle.dns_message.proofs.FinishLemmas.{length-whole_text}
use Rattle.kept_answers.specs.Kept.{IsKept, AskAlike, reply_with, kept_whole, kept_truncated, kept_reply}

was_within : (m n : ℕ) → nat_le m n ≡ true → m ≤ n
was_within m n e = grind (arith, nat_tests, e)

-- the bytes of a name, of QTYPE and QCLASS, and of the records
length-body_text : (t : Contents) → length (body_text t) ≡ length t.query.name + 4 + length (records_text t.query t.answer ++ records_text t.query t.authority)
length-body_text t =
    let words = word_text t.query.kind ++ word_text t.query.«class» in
    omega (arith, length-append (question_text t.query) (records_text t.query t.answer ++ records_text t.query t.authority), length-append t.query.name words)

some_text : (is_asked : Bool) (r : Record) → 1 ≤ length (text_by is_asked r)
some_text is_asked r =
    let fixed = fixed_text r.kind (length r.rdata) in
    omega (arith, length-append (owner_by is_asked r.owner ++ fixed) r.rdata, length-append (owner_by is_asked r.owner) fixed)

-- a byte at least for each record
few_records : (f : Record → List ℕ) → ((r : Record) → 1 ≤ length (f r)) → (records : List Record) → length records ≤ length (flat_map f records)
few_records f some [] = omega arith
few_records f some (r ∷ records) = omega (arith, length-append (f r) (flat_map f records), some r, few_records f some records)

whole_fits : (t : Contents) (rcode : ℕ) (aa : Bool) → length (whole_text t rcode aa) ≤ GREATEST_LIMIT → rcode < 2 ^ 4 → IsKept (kept_whole t rcode aa)
whole_fits t rcode aa within small =
    let some : (r : Record) → 1 ≤ length (record_text t.query.name r) = λ r. some_text _ r in
    let answer = records_text t.query t.answer in
    let authority = records_text t.query t.authority in
    let records = length-append answer authority in
    record {
      rcode = small;
      answers = omega (arith, length-whole_text t rcode aa, length-body_text t, records, few_records (record_text t.query.name) some t.answer);
      authorities = omega (arith, length-whole_text t rcode aa, length-body_text t, records, few_records (record_text t.query.name) some t.authority);
    }

by_fit : (limit : ℕ) (t : Contents) (rcode : ℕ) (aa : Bool) → limit ≤ GREATEST_LIMIT → rcode < 2 ^ 4 → (b : Bool) → nat_le (length (whole_text t rcode aa)) limit ≡ b
    → IsKept (if b then kept_whole t rcode aa else kept_truncated rcode aa)
by_fit limit t rcode aa greatest small true e =
    whole_fits t rcode aa (let within : length (whole_text t rcode aa) ≤ limit = was_within (length (whole_text t rcode aa)) limit e in omega arith) small
by_fit limit t rcode aa greatest small false e = record { rcode = small; answers = omega arith; authorities = omega arith }

pub kept_fits : (limit : ℕ) (t : Contents) (rcode : ℕ) (aa : Bool) → limit ≤ GREATEST_LIMIT → rcode < 2 ^ 4 → IsKept (kept_reply limit t rcode aa)
kept_fits limit t rcode aa greatest small = by_fit limit t rcode aa greatest small (nat_le (length (whole_text t rcode aa)) limit) refl

-- ---- the reply

whole_kept : (t : Contents) (rcode : ℕ) (aa : Bool) → whole_text t rcode aa ≡ reply_with t.query (kept_whole t rcode aa)
whole_kept t rcode aa = simp append_assoc

by_size : (t : Contents) (rcode : ℕ) (aa fits : Bool)
    → (if fits then whole_text t rcode aa else truncated_text t rcode aa) ≡ reply_with t.query (if fits then kept_whole t rcode aa else kept_truncated rcode aa)
by_size t rcode aa true = whole_kept t rcode aa
by_size t rcode aa false = refl

pub reply_kept : (limit : ℕ) (t : Contents) (rcode : ℕ) (aa : Bool) → reply_text limit t rcode aa ≡ reply_with t.query (kept_reply limit t rcode aa)
reply_kept limit t rcode aa = by_size t rcode aa (nat_le (length (whole_text t rcode aa)) limit)

-- ---- two askers

-- a record's text goes by the question's name in lower case
same_records : (asked other : List ℕ) (records : List Record) → lower asked ≡ lower other → flat_map (record_text asked) records ≡ flat_map (record_text other) records
same_records asked other records e = ap (λ name. flat_map (λ r. text_by (bytes_eq (lower r.owner) name) r) records) e

same_opt : (a b : Option Edns) → is_some a ≡ is_some b → opt_size_of_reply a ≡ opt_size_of_reply b
same_opt None None e = refl
same_opt None (Some b) e = absurd (cc)
same_opt (Some a) None e = absurd (cc)
same_opt (Some a) (Some b) e = refl

same_text : (t u : Contents) → AskAlike t.query u.query → t.answer ≡ u.answer → t.authority ≡ u.authority
    → records_text t.query t.answer ++ records_text t.query t.authority ≡ records_text u.query u.answer ++ records_text u.query u.authority
same_text t u ask answer authority =
    ap₂ (λ a b. records_text t.query a ++ records_text t.query b) answer authority
    ∙ ap₂ (λ a b. a ++ b) (same_records t.query.name u.query.name u.answer ask.name) (same_records t.query.name u.query.name u.authority ask.name)

same_length : (t u : Contents) (rcode : ℕ) (aa : Bool) → AskAlike t.query u.query → records_text t.query t.answer ++ records_text t.query t.authority ≡ records_text u.query u.answer ++ records_text u.query u.authority
    → length (whole_text t rcode aa) ≡ length (whole_text u rcode aa)
same_length t u rcode aa ask same =
    let name : length t.query.name ≡ length u.query.name = sym (length-map t.query.name to_ascii_lowercase) ∙ ap length ask.name ∙ length-map u.query.name to_ascii_lowercase in
    let behind = ap length same in
    omega (arith, length-whole_text t rcode aa, length-whole_text u rcode aa, length-body_text t, length-body_text u, name, behind, same_opt t.query.edns u.query.edns ask.edns)

pub kept_alike : (limit : ℕ) (t u : Contents) (rcode : ℕ) (aa : Bool) → AskAlike t.query u.query → t.answer ≡ u.answer → t.authority ≡ u.authority
    → kept_reply limit t rcode aa ≡ kept_reply limit u rcode aa
kept_alike limit t u rcode aa ask answer authority =
    let same = same_text t u ask answer authority in
    ap (λ n. if nat_le n limit then kept_whole t rcode aa else kept_truncated rcode aa) (same_length t u rcode aa ask same)
    ∙ ap (λ k. if nat_le (length (whole_text u rcode aa)) limit then k else kept_truncated rcode aa) (rw (same, answer, authority) refl)
