-- What a reply that is being written, and its buffer, hold.
use Rattle.std.specs.Prelude.{◌≡◌, ℕ, ◌+◌, ◌<◌, ◌≤◌, true, false, List, [], ◌∷◌, ◌++◌, length, take, drop}
use Rattle.dns_message.specs.Edns.{opt_size_of_reply}
use Rattle.dns_message.specs.Query.{question_text}
use Rattle.dns_message.specs.Records.{Record}
use Rattle.dns_message.specs.Replies.{Contents, body_text}
use Rattle.dns_message.specs.declared.numbers.TheConstants.{HEADER_SIZE, GREATEST_LIMIT}
use Rattle.dns_message.specs.declared.counts.Counts.{Counts}
use Rattle.dns_message.specs.declared.counts.Section.{Section}
use Rattle.dns_message.specs.declared.counts.Section.TheVariants.{Answer, Authority}
use Rattle.dns_message.specs.declared.reply.Reply.{Reply}

-- The reply says this so far: the buffer has room for its limit, and begins with the text behind a header that is
-- still to be written, as is the OPT record, for which there is room; or text and OPT pass the limit, and the reply is
-- truncated.
pub record Holds (t : Contents) (r : Reply) (buf : List ℕ) : Type 0 where
  pub room : r.limit ≤ length buf
  pub small : r.limit ≤ GREATEST_LIMIT
  pub id : r.id ≡ t.query.id
  pub flags : r.flags ≡ t.query.flags
  pub edns : r.edns ≡ t.query.edns
  pub start : r.start ≡ HEADER_SIZE + length (question_text t.query)
  pub from : r.start ≤ r.len
  pub within : r.len + opt_size_of_reply r.edns ≤ r.limit
  pub question : drop HEADER_SIZE (take r.start buf) ≡ question_text t.query
  pub few : r.counts.answers + r.counts.authorities < r.len
  pub answers : r.truncated ≡ false → r.counts.answers ≡ length t.answer
  pub authorities : r.truncated ≡ false → r.counts.authorities ≡ length t.authority
  pub text : r.truncated ≡ false → drop HEADER_SIZE (take r.len buf) ≡ body_text t
  pub over : r.truncated ≡ true → r.limit < HEADER_SIZE + (length (body_text t) + opt_size_of_reply r.edns)

-- records behind those of the answer, and of the authority section
abbrev pub answer_with : Section → List Record → List Record → List Record
answer_with Answer more records = records ++ more
answer_with Authority more records = records

abbrev pub authority_with : Section → List Record → List Record → List Record
authority_with Answer more records = records
authority_with Authority more records = records ++ more

-- more records of a section
abbrev pub with_records : Section → List Record → Contents → Contents
with_records section more t = record { query = t.query; answer = answer_with section more t.answer; authority = authority_with section more t.authority }

abbrev pub with_record : Section → Record → Contents → Contents
with_record section r t = with_records section (r ∷ []) t

-- answers are added before authority
abbrev pub MayAdd : Section → Contents → Type 0
MayAdd Answer t = t.authority ≡ []
MayAdd Authority t = Unit {0}

-- one more of a section
abbrev pub answers_with : Section → ℕ → ℕ
answers_with Answer n = n + 1
answers_with Authority n = n

abbrev pub authorities_with : Section → ℕ → ℕ
authorities_with Answer n = n
authorities_with Authority n = n + 1

abbrev pub one_more_of : Section → Counts → Counts
one_more_of section counts = record { answers = answers_with section counts.answers; authorities = authorities_with section counts.authorities }
