-- A reply keeps its limit, and is a response.
use Rattle.std.proofs.Common.{◌≡◌, ℕ, ◌+◌, ◌*◌, ◌%◌, ◌^◌, ◌<◌, ◌≤◌, List, [], ◌++◌, length, Option, Some, None, Bool, true, false, refl, sym, ap, subst, ◌∙◌, arith, nat_le, nat_lt, if◌then◌else◌, append_assoc, length-append}
use Rattle.std.proofs.lemmas.List.{append-nil}
use Rattle.std.proofs.lemmas.Nat.{from_be_bytes-to_be_bytes_2}
use Rattle.std.proofs.lemmas.Bool.Decides.{nat_tests}
use Rattle.domain_text.specs.Names.{IsName}
use Rattle.dns_message.specs.Header.{word_text, header_text, qr_of, opcode_of, rd_of, flags_of_reply}
use Rattle.dns_message.specs.Edns.{edns_of_reply, opt_text, opt_of_reply, opt_size_of_reply, additionals_of_reply}
use Rattle.dns_message.specs.Limits.{udp_limit, limit_of, most_of}
use Rattle.dns_message.specs.Query.{Query, question_text}
use Rattle.dns_message.specs.Query.Reading.{Dropped}
use Rattle.dns_message.specs.Reading.{reading_of, header_at}
use Rattle.dns_message.specs.Replies.{Contents, without_records, header_by, records_text, head_text, body_text, additional_text, extended_of, whole_text, truncated_text, reply_text, bad_version_text, bare_text}
use Rattle.dns_message.specs.ReplyLaws.{IsHeaded, EndsWith}
use Rattle.dns_message.specs.declared.header.Header.{Header}
use Rattle.dns_message.specs.declared.edns.Edns.{Edns}
use Rattle.dns_message.specs.declared.transport.Transport.{Transport}
use Rattle.dns_message.specs.declared.transport.Transport.TheVariants.{Udp, Tcp}
use Rattle.dns_message.specs.declared.rcode.TheConstants.{BADVERS}
use Rattle.dns_message.specs.declared.numbers.TheConstants.{HEADER_SIZE, LEAST_LIMIT, GREATEST_LIMIT, EDNS_SIZE}
use Rattle.dns_message.proofs.NumberTests.{below}
use Rattle.dns_message.proofs.FinishLemmas.{is_within, length-opt_of_reply, length-whole_text}
use Rattle.dns_message.proofs.QueryLaws.{behind_response}

-- ---- its size

by_fit : (limit : ℕ) (whole cut : List ℕ) → length cut ≤ limit → (b : Bool) → nat_le (length whole) limit ≡ b → length (if b then whole else cut) ≤ limit
by_fit limit whole cut short true e = grind (arith, nat_tests, e)
by_fit limit whole cut short false e = short

few_opt : (edns : Option Edns) → opt_size_of_reply edns ≤ 11
few_opt None = omega arith
few_opt (Some e) = omega arith

few_asked : (q : Query) → IsName q.name → length (question_text q) ≤ 259
few_asked q name =
    let question = length-append q.name (word_text q.kind ++ word_text q.«class») in
    omega (arith, question, name.fits)

length-truncated_text : (t : Contents) (rcode : ℕ) (aa : Bool) → IsName t.query.name → length (truncated_text t rcode aa) ≤ LEAST_LIMIT
length-truncated_text t rcode aa name =
    let additional = additional_text t.query (extended_of rcode) in
    let all = length-append (head_text t.query rcode aa true 0 0) (question_text t.query ++ additional) in
    let behind = length-append (question_text t.query) additional in
    let opt = length-opt_of_reply t.query.edns (extended_of rcode) in
    omega (arith, all, behind, opt, few_opt t.query.edns, few_asked t.query name)

pub length-reply_text : (limit : ℕ) (t : Contents) (rcode : ℕ) (aa : Bool) → LEAST_LIMIT ≤ limit → IsName t.query.name → length (reply_text limit t rcode aa) ≤ limit
length-reply_text limit t rcode aa least name =
    let short = length-truncated_text t rcode aa name in
    by_fit limit (whole_text t rcode aa) (truncated_text t rcode aa) (omega (arith, short, least)) (nat_le (length (whole_text t rcode aa)) limit) refl

length-without_records : (q : Query) (rcode : ℕ) (aa : Bool) → IsName q.name → length (whole_text (without_records q) rcode aa) ≤ LEAST_LIMIT
length-without_records q rcode aa name =
    let body : length (body_text (without_records q)) ≡ length (question_text q) = ap length (append-nil (question_text q)) in
    omega (arith, length-whole_text (without_records q) rcode aa, body, few_opt q.edns, few_asked q name)

pub length-bad_version_text : (q : Query) → IsName q.name → length (bad_version_text q) ≤ LEAST_LIMIT
length-bad_version_text q name = length-without_records q BADVERS false name

-- a reply without records is whole, whatever its limit
pub reply_text-without_records : (limit : ℕ) (q : Query) (rcode : ℕ) (aa : Bool) → LEAST_LIMIT ≤ limit → IsName q.name
    → reply_text limit (without_records q) rcode aa ≡ whole_text (without_records q) rcode aa
reply_text-without_records limit q rcode aa least name =
    let few = length-without_records q rcode aa name in
    rw (is_within (length (whole_text (without_records q) rcode aa)) limit (omega (arith, few, least))) refl

-- ---- a response

weight : (n : ℕ) (b : Bool) → (if b then n else 0) ≤ n
weight n true = omega arith
weight n false = omega arith

below_qr : (flags : ℕ) (aa tc : Bool) (rcode : ℕ)
    → opcode_of flags * 2 ^ 11 + (if aa then 2 ^ 10 else 0) + (if tc then 2 ^ 9 else 0) + rd_of flags * 2 ^ 8 + rcode % 2 ^ 4 < 2 ^ 15
below_qr flags aa tc rcode = omega (arith, weight (2 ^ 10) aa, weight (2 ^ 9) tc)

flags_fit : (flags : ℕ) (aa tc : Bool) (rcode : ℕ) → flags_of_reply flags aa tc rcode < 2 ^ 16
flags_fit flags aa tc rcode = omega (arith, below_qr flags aa tc rcode)

qr_of-flags_of_reply : (flags : ℕ) (aa tc : Bool) (rcode : ℕ) → qr_of (flags_of_reply flags aa tc rcode) ≡ 1
qr_of-flags_of_reply flags aa tc rcode = omega (arith, below_qr flags aa tc rcode)

response_dropped : (h : Header) (rest : List ℕ) → h.flags < 2 ^ 16 → qr_of h.flags ≡ 1 → reading_of (header_text h ++ rest) ≡ Dropped
unfolding reading_of
response_dropped h rest fits is =
    let long : nat_lt (length (header_text h ++ rest)) HEADER_SIZE ≡ false = below (length (header_text h ++ rest)) HEADER_SIZE (omega arith) in
    rw long (behind_response (header_at (header_text h ++ rest)) rest (ap qr_of (from_be_bytes-to_be_bytes_2 h.flags fits) ∙ is))

head_dropped : (q : Query) (rcode : ℕ) (aa tc : Bool) (answers authorities : ℕ) (rest : List ℕ) → reading_of (head_text q rcode aa tc answers authorities ++ rest) ≡ Dropped
head_dropped q rcode aa tc answers authorities rest =
    response_dropped (header_by q.id (flags_of_reply q.flags aa tc rcode) answers authorities (additionals_of_reply q.edns)) rest (flags_fit q.flags aa tc rcode)
    (qr_of-flags_of_reply q.flags aa tc rcode)

pub reading_of-whole_text : (t : Contents) (rcode : ℕ) (aa : Bool) → reading_of (whole_text t rcode aa) ≡ Dropped
reading_of-whole_text t rcode aa = head_dropped t.query rcode aa false (length t.answer) (length t.authority) (body_text t ++ additional_text t.query (extended_of rcode))

by_text : (whole cut : List ℕ) (b : Bool) → reading_of whole ≡ Dropped → reading_of cut ≡ Dropped → reading_of (if b then whole else cut) ≡ Dropped
by_text whole cut true e f = e
by_text whole cut false e f = f

pub reading_of-reply_text : (limit : ℕ) (t : Contents) (rcode : ℕ) (aa : Bool) → reading_of (reply_text limit t rcode aa) ≡ Dropped
reading_of-reply_text limit t rcode aa =
    by_text (whole_text t rcode aa) (truncated_text t rcode aa) (nat_le (length (whole_text t rcode aa)) limit) (reading_of-whole_text t rcode aa)
    (head_dropped t.query rcode aa true 0 0 (question_text t.query ++ additional_text t.query (extended_of rcode)))

pub reading_of-bad_version_text : (q : Query) → reading_of (bad_version_text q) ≡ Dropped
reading_of-bad_version_text q = reading_of-whole_text (without_records q) BADVERS false

pub reading_of-bare_text : (id flags rcode : ℕ) → reading_of (bare_text id flags rcode) ≡ Dropped
reading_of-bare_text id flags rcode =
    let h : Header = record { id = id; flags = flags_of_reply flags false false rcode; questions = 0; answers = 0; authorities = 0; additionals = 0 } in
    ap reading_of (append-nil (header_text h)) ∙ response_dropped h [] (flags_fit flags false false rcode) (qr_of-flags_of_reply flags false false rcode)

-- ---- its header, its question and its OPT record

headed_by : (t : Contents) (rcode : ℕ) (aa : Bool) (b : Bool) → IsHeaded t.query rcode aa (if b then whole_text t rcode aa else truncated_text t rcode aa)
headed_by t rcode aa true =
    let records = records_text t.query t.answer ++ records_text t.query t.authority in
    let additional = additional_text t.query (extended_of rcode) in
    record {
      truncated = false;
      answers = length t.answer;
      authorities = length t.authority;
      records = records;
      text_is = ap (λ w. head_text t.query rcode aa false (length t.answer) (length t.authority) ++ w) (append_assoc (question_text t.query) records additional);
    }
headed_by t rcode aa false = record { truncated = true; answers = 0; authorities = 0; records = []; text_is = refl }

pub reply_headed : (limit : ℕ) (t : Contents) (rcode : ℕ) (aa : Bool) → IsHeaded t.query rcode aa (reply_text limit t rcode aa)
reply_headed limit t rcode aa = headed_by t rcode aa (nat_le (length (whole_text t rcode aa)) limit)

pub headed_ends : (q : Query) (rcode : ℕ) (aa : Bool) (text : List ℕ) → IsHeaded q rcode aa text → EndsWith (additionals_of_reply q.edns) (additional_text q (extended_of rcode)) text
headed_ends q rcode aa text h = record {
  header = header_by q.id (flags_of_reply q.flags aa h.truncated rcode) h.answers h.authorities (additionals_of_reply q.edns);
  between = question_text q ++ h.records;
  counted = refl;
  text_is = h.text_is ∙ ap (λ w. head_text q rcode aa h.truncated h.answers h.authorities ++ w) (sym (append_assoc (question_text q) h.records (additional_text q (extended_of rcode))));
}

pub ends_with_opt : (limit : ℕ) (t : Contents) (rcode : ℕ) (aa : Bool) (e : Edns) → t.query.edns ≡ Some e
    → EndsWith 1 (opt_text (edns_of_reply e) (extended_of rcode) 0 []) (reply_text limit t rcode aa)
ends_with_opt limit t rcode aa e is =
    subst (λ o. EndsWith (additionals_of_reply o) (opt_of_reply o (extended_of rcode)) (reply_text limit t rcode aa)) is
    (headed_ends t.query rcode aa (reply_text limit t rcode aa) (reply_headed limit t rcode aa))

pub ends_without_opt : (limit : ℕ) (t : Contents) (rcode : ℕ) (aa : Bool) → t.query.edns ≡ None → EndsWith 0 [] (reply_text limit t rcode aa)
ends_without_opt limit t rcode aa is =
    subst (λ o. EndsWith (additionals_of_reply o) (opt_of_reply o (extended_of rcode)) (reply_text limit t rcode aa)) is
    (headed_ends t.query rcode aa (reply_text limit t rcode aa) (reply_headed limit t rcode aa))

pub bad_version_ends : (q : Query) (e : Edns) → q.edns ≡ Some e
    → bad_version_text q ≡ header_text (header_by q.id (flags_of_reply q.flags false false 0) 0 0 1) ++ (question_text q ++ opt_text (edns_of_reply e) 1 0 [])
bad_version_ends q e is = rw (is, append-nil (question_text q)) refl

-- ---- its limit

udp_between : (o : Option Edns) → (LEAST_LIMIT ≤ udp_limit o) × (udp_limit o ≤ EDNS_SIZE)
udp_between None = (omega arith, omega arith)
udp_between (Some e) = (grind arith, grind arith)

pub limit_between : (transport : Transport) (q : Query) → (LEAST_LIMIT ≤ limit_of transport q) × (limit_of transport q ≤ most_of transport)
limit_between Udp q = udp_between q.edns
limit_between Tcp q = (omega arith, omega arith)

pub most_fits : (transport : Transport) → most_of transport ≤ GREATEST_LIMIT
most_fits Udp = omega arith
most_fits Tcp = omega arith

pub limit_without_opt : (q : Query) → q.edns ≡ None → limit_of Udp q ≡ 512
limit_without_opt q is = ap udp_limit is
