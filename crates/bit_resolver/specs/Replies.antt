-- What a message is answered with, whole: no reply, or the bytes of one (RFC 1035, 4.1; RFC 6891, 6.1), from the values of the names
-- that are served, the zone's host and its serial, and what carries it.
use Rattle.std.specs.Prelude.{◌≡◌, ◌≤◌, ℕ, false, List, map, take, Option, Some, None}
use Rattle.dns_message.specs.Limits.{limit_of}
use Rattle.dns_message.specs.Query.{Query, Reading}
use Rattle.dns_message.specs.Query.Reading.{Dropped, NotImplemented, FormatError, BadVersion, Asks}
use Rattle.dns_message.specs.Reading.{reading_of}
use Rattle.dns_message.specs.Records.{Record, record_of}
use Rattle.dns_message.specs.Replies.{Contents, without_records, whole_text, reply_text, bad_version_text, bare_text}
use Rattle.dns_message.specs.declared.numbers.TheConstants.{HEADER_SIZE}
use Rattle.dns_message.specs.declared.rcode.TheConstants.{FORMERR, SERVFAIL, NOTIMP}
use Rattle.dns_message.specs.declared.transport.Transport.{Transport}
use Rattle.import_expand.specs.Sources.{Live}
use Rattle.bit_resolver.specs.Answers.{Answer, answer_to}
use Rattle.bit_resolver.specs.declared.resource.Resource.{Resource}
use Rattle.bit_resolver.specs.declared.zone.Zone.{Zone}
use Rattle.bit_resolver.specs.declared.replying.Answered.{Answered}
use Rattle.bit_resolver.specs.declared.replying.Answered.TheVariants as answered
use Rattle.bit_resolver.specs.declared.replying.Replied.{Replied}
use Rattle.bit_resolver.specs.declared.replying.Replied.TheVariants as replied

-- ---- the reply

-- a record as it is written
abbrev pub written : Resource → Record
written r = record_of r.owner r.kind r.rdata

-- what the reply says: the query, and the records of the answer
abbrev pub contents_of : Query → Answer → Contents
contents_of q a = record { query = q; answer = map written a.answer; authority = map written a.authority }

-- header, question and records, of at most so many bytes; with TC and no records where they are more (4.1.1)
abbrev pub answer_text : ℕ → Query → Answer → List ℕ
answer_text limit q a = reply_text limit (contents_of q a) a.rcode a.aa

-- The reply to what comes of a message, a rule a case: none; NOTIMP and FORMERR, a header alone; BADVERS; the answer to the question.
abbrev pub reply_for : Live → Zone → Transport → Reading → Option (List ℕ)
reply_for live z transport Dropped = None
reply_for live z transport (NotImplemented id flags) = Some (bare_text id flags NOTIMP)
reply_for live z transport (FormatError id flags) = Some (bare_text id flags FORMERR)
reply_for live z transport (BadVersion q) = Some (bad_version_text q)
reply_for live z transport (Asks q) = Some (answer_text (limit_of transport q) q (answer_to live z q))

-- the reply to a message that came so
unfoldable pub dns_reply : Live → Zone → Transport → List ℕ → Option (List ℕ)
dns_reply live z transport bytes = reply_for live z transport (reading_of bytes)

-- how many bytes it may have: to a question, by its transport and its EDNS; else a header alone, or none
abbrev pub limit_for : Transport → Reading → ℕ
limit_for transport Dropped = 0
limit_for transport (NotImplemented id flags) = HEADER_SIZE
limit_for transport (FormatError id flags) = HEADER_SIZE
limit_for transport (BadVersion q) = limit_of transport q
limit_for transport (Asks q) = limit_of transport q

-- ---- want of memory

-- SERVFAIL (4.1.1): the question, AA 0 and no records but the OPT, where one is asked
abbrev pub failure_text : Query → List ℕ
failure_text q = whole_text (without_records q) SERVFAIL false

-- how many bytes of the buffer are the reply to a question
abbrev pub replied_size : Replied → ℕ
replied_size (replied.Answer size) = size
replied_size (replied.Failure size) = size

-- what a question is answered with: its answer, or SERVFAIL for want of memory
abbrev pub IsReplied : Live → Zone → ℕ → Query → Replied → List ℕ → Type 0
IsReplied live z limit q (replied.Answer size) buffer = take size buffer ≡ answer_text limit q (answer_to live z q)
IsReplied live z limit q (replied.Failure size) buffer = take size buffer ≡ failure_text q

-- What a message may be answered with: the reply; or SERVFAIL for want of memory, where a question is asked.
pub data MayReply (live : Live) (z : Zone) (transport : Transport) (bytes : List ℕ) (reply : Option (List ℕ)) : Type 0 where
  replies : reply ≡ dns_reply live z transport bytes → MayReply live z transport bytes reply
  lacks_memory : (q : Query) → reading_of bytes ≡ Asks q → reply ≡ Some (failure_text q) → MayReply live z transport bytes reply

-- ---- what a call answers

-- no reply, or so many bytes of the buffer
abbrev pub told : Answered → List ℕ → Option (List ℕ)
told answered.Dropped buffer = None
told (answered.Text size) buffer = Some (take size buffer)

-- so many bytes are no more than the limit
abbrev pub IsWithin : ℕ → Answered → Type 0
IsWithin limit answered.Dropped = Unit {0}
IsWithin limit (answered.Text size) = size ≤ limit
