-- What is kept of a reply to a question (RFC 1035, 4.1), and the reply from it to another asker of the same.
use Rattle.std.specs.Prelude.{◌≡◌, ℕ, ◌+◌, ◌<◌, ◌^◌, nat_le, is_some, if◌then◌else◌, Bool, true, false, List, [], ◌∷◌, ◌++◌, length}
use Rattle.domain_text.specs.Names.{lower}
use Rattle.dns_message.specs.Header.{word_text}
use Rattle.dns_message.specs.Query.{Query, question_text}
use Rattle.dns_message.specs.Replies.{Contents, records_text, extended_of, additional_text, head_text, whole_text}

-- A reply without what belongs to its question and its asker: ID, OPCODE and RD, the question, the OPT record.
pub record Kept : Type 0 where
  pub aa : Bool
  pub tc : Bool
  pub rcode : ℕ
  pub answers : ℕ
  pub authorities : ℕ
  -- the text of the answer and of the authority section
  pub records : List ℕ

-- An RCODE of four bits, as the header alone has it (RFC 1035, 4.1.1), and counts of 16 bits.
pub record IsKept (k : Kept) : Type 0 where
  pub rcode : k.rcode < 2 ^ 4
  pub answers : k.answers < 2 ^ 16
  pub authorities : k.authorities < 2 ^ 16

-- the reply to a query that has what was kept: header, question, records, additional section
abbrev pub reply_with : Query → Kept → List ℕ
reply_with q k =
    head_text q k.rcode k.aa k.tc k.answers k.authorities ++ (question_text q ++ (k.records ++ additional_text q (extended_of k.rcode)))

abbrev pub kept_whole : Contents → ℕ → Bool → Kept
kept_whole t rcode aa = record { aa = aa; tc = false; rcode = rcode; answers = length t.answer; authorities = length t.authority; records = records_text t.query t.answer ++ records_text t.query t.authority }

-- TC, and no records
abbrev pub kept_truncated : ℕ → Bool → Kept
kept_truncated rcode aa = record { aa = aa; tc = true; rcode = rcode; answers = 0; authorities = 0; records = [] }

-- what is kept of the reply of at most so many bytes with these contents, which is truncated exactly where the whole has more
abbrev pub kept_reply : ℕ → Contents → ℕ → Bool → Kept
kept_reply limit t rcode aa = if nat_le (length (whole_text t rcode aa)) limit then kept_whole t rcode aa else kept_truncated rcode aa

-- ---- as text

-- AA and TC, as they stand in the high byte of a header's flags
abbrev pub bits_of : Kept → ℕ
bits_of k = (if k.aa then 2 ^ 2 else 0) + (if k.tc then 2 ^ 1 else 0)

-- the 8 bytes at its front: AA and TC; RCODE; the counts of answer, authority and additional section, of which the last is 0
abbrev pub kept_head : Kept → List ℕ
kept_head k = bits_of k ∷ (k.rcode ∷ (word_text k.answers ++ (word_text k.authorities ++ word_text 0)))

abbrev pub kept_text : Kept → List ℕ
kept_text k = kept_head k ++ k.records

-- ---- two askers

-- The same is asked: the name without regard to the case of letters (RFC 1035, 2.3.3), QTYPE and QCLASS, and whether there is an
-- OPT record, whatever it tells.
pub record AskAlike (p q : Query) : Type 0 where
  pub name : lower p.name ≡ lower q.name
  pub kind : p.kind ≡ q.kind
  pub «class» : p.«class» ≡ q.«class»
  pub edns : is_some p.edns ≡ is_some q.edns
