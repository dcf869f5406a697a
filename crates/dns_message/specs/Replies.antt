-- Replies (RFC 1035, 4.1): header, question, answer, authority, and the OPT record of EDNS (RFC 6891, 6.1).
use Rattle.std.specs.Prelude.{ℕ, ◌/◌, ◌^◌, nat_le, if◌then◌else◌, Bool, true, false, List, [], ◌++◌, length}
use Rattle.std.specs.List.{flat_map}
use Rattle.dns_message.specs.Header.{header_text, flags_of_reply}
use Rattle.dns_message.specs.Edns.{opt_of_reply, additionals_of_reply}
use Rattle.dns_message.specs.Query.{Query, question_text}
use Rattle.dns_message.specs.Records.{Record, record_text}
use Rattle.dns_message.specs.declared.header.Header.{Header}
use Rattle.dns_message.specs.declared.rcode.TheConstants.{BADVERS}

-- what a reply says: the query that it answers, and the records of its sections
pub record Contents : Type 0 where
  pub query : Query
  pub answer : List Record
  pub authority : List Record

abbrev pub without_records : Query → Contents
without_records q = record { query = q; answer = []; authority = [] }

-- a header of one question and so many records (4.1.1)
abbrev pub header_by : ℕ → ℕ → ℕ → ℕ → ℕ → Header
header_by id flags answers authorities additionals =
    record { id = id; flags = flags; questions = 1; answers = answers; authorities = authorities; additionals = additionals }

abbrev pub records_text : Query → List Record → List ℕ
records_text q records = flat_map (record_text q.name) records

-- what stands behind the header: the question as it was asked, the answer, the authority
abbrev pub body_text : Contents → List ℕ
body_text t = question_text t.query ++ (records_text t.query t.answer ++ records_text t.query t.authority)

-- the high bits of an RCODE, above the four that the header has: the OPT record has them (RFC 6891, 6.1.3)
abbrev pub extended_of : ℕ → ℕ
extended_of rcode = rcode / 2 ^ 4

-- the additional section: an OPT record exactly where the query has one, and nothing else (RFC 6891, 6.1.1)
abbrev pub additional_text : Query → ℕ → List ℕ
additional_text q extended = opt_of_reply q.edns extended

-- a header with so many records of answer and authority
abbrev pub head_text : Query → ℕ → Bool → Bool → ℕ → ℕ → List ℕ
head_text q rcode aa tc answers authorities =
    header_text (header_by q.id (flags_of_reply q.flags aa tc rcode) answers authorities (additionals_of_reply q.edns))

abbrev pub whole_text : Contents → ℕ → Bool → List ℕ
whole_text t rcode aa =
    head_text t.query rcode aa false (length t.answer) (length t.authority) ++ (body_text t ++ additional_text t.query (extended_of rcode))

-- TC, and no records but an OPT; AA and RCODE stay (4.1.1; RFC 6891, 7)
abbrev pub truncated_text : Contents → ℕ → Bool → List ℕ
truncated_text t rcode aa = head_text t.query rcode aa true 0 0 ++ (question_text t.query ++ additional_text t.query (extended_of rcode))

-- the reply of at most so many bytes: truncated exactly where the whole has more
abbrev pub reply_text : ℕ → Contents → ℕ → Bool → List ℕ
reply_text limit t rcode aa = if nat_le (length (whole_text t rcode aa)) limit then whole_text t rcode aa else truncated_text t rcode aa

-- the reply to a version that isn't known (RFC 6891, 6.1.3): the question, AA 0, no records but the OPT, which tells version 0
abbrev pub bad_version_text : Query → List ℕ
bad_version_text q = whole_text (without_records q) BADVERS false

-- a reply of a header alone, its counts 0
abbrev pub bare_text : ℕ → ℕ → ℕ → List ℕ
bare_text id flags rcode =
    header_text (record { id = id; flags = flags_of_reply flags false false rcode; questions = 0; answers = 0; authorities = 0; additionals = 0 })
