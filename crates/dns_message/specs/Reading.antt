-- What comes of a message, read from its front.
use Rattle.std.specs.Prelude.{ℕ, ◌+◌, ◌-◌, ◌/◌, ◌^◌, nat_lt, nat_le, ◌==◌, ◌&&◌, not, Bool, if◌then◌else◌, List, [], ◌∷◌, length, take, drop, slice_index, Option, Some, None}
use Rattle.std.specs.Int.{w16, from_be_bytes}
use Rattle.domain_text.specs.Reading.{name_length}
use Rattle.domain_text.specs.declared.limits.TheConstants.{LONGEST_WIRE}
use Rattle.dns_message.specs.Header.{qr_of, opcode_of}
use Rattle.dns_message.specs.Query.{Query, Reading}
use Rattle.dns_message.specs.Query.Reading.{Dropped, NotImplemented, FormatError, BadVersion, Asks}
use Rattle.dns_message.specs.declared.edns.Additional.{Additional}
use Rattle.dns_message.specs.declared.edns.Additional.TheVariants.{NoOpt, Opt, CutOpt}
use Rattle.dns_message.specs.declared.edns.Edns.{Edns}
use Rattle.dns_message.specs.declared.header.Header.{Header}
use Rattle.dns_message.specs.declared.numbers.TheConstants.{HEADER_SIZE, TYPE_AND_CLASS_SIZE, OPT, OPT_SIZE}

-- the number of 16 bits at a place, the high byte first
abbrev pub word_at : ℕ → List ℕ → ℕ
word_at at bytes = from_be_bytes w16 (slice_index bytes at ∷ slice_index bytes (at + 1) ∷ [])

-- the header at the front
abbrev pub header_at : List ℕ → Header
header_at bytes = record { id = word_at 0 bytes; flags = word_at 2 bytes; questions = word_at 4 bytes; answers = word_at 6 bytes; authorities = word_at 8 bytes; additionals = word_at 10 bytes }

-- the question at the front, whose name has so many bytes; what follows it isn't read yet
abbrev pub question_at : Header → List ℕ → ℕ → Query
question_at h bytes n = record { id = h.id; flags = h.flags; name = take n bytes; kind = word_at 0 (drop n bytes); «class» = word_at 2 (drop n bytes); edns = None }

abbrev pub query_of_length : Header → List ℕ → Option ℕ → Option (Query × List ℕ)
query_of_length h bytes None = None
query_of_length h bytes (Some n) =
    if nat_lt LONGEST_WIRE n then None
    else if nat_lt (length (drop n bytes)) TYPE_AND_CLASS_SIZE then None
    else Some (question_at h bytes n, drop TYPE_AND_CLASS_SIZE (drop n bytes))

-- the question behind a header, if one stands there, and the bytes behind it
unfoldable pub query_at : Header → List ℕ → Option (Query × List ℕ)
query_at h bytes = query_of_length h bytes (name_length 0 bytes)

-- what the OPT record at the front of these tells
abbrev pub edns_at : List ℕ → Edns
edns_at more = record { size = word_at 3 more; version = slice_index more 6; dnssec = word_at 7 more / 2 ^ 15 == 1 }

-- the counts of a header let an OPT record stand right behind the question
abbrev pub has_additional : Header → Bool
has_additional h = (h.answers == 0) && ((h.authorities == 0) && not (h.additionals == 0))

-- the root and the type of an OPT record stand at the front
abbrev pub begins_opt : List ℕ → Bool
begins_opt more = nat_le 3 (length more) && ((slice_index more 0 == 0) && (word_at 1 more == OPT))

-- the OPT record at the front, by its length
abbrev pub opt_at : List ℕ → Additional
opt_at more =
    if nat_lt (length more) OPT_SIZE then CutOpt
    else if nat_lt (length more - OPT_SIZE) (word_at 9 more) then CutOpt
    else Opt (edns_at more)

-- the OPT record behind the question
unfoldable pub additional_at : Header → List ℕ → Additional
additional_at h more = if has_additional h && begins_opt more then opt_at more else NoOpt

abbrev pub with_edns : Edns → Query → Query
with_edns e q = record { id = q.id; flags = q.flags; name = q.name; kind = q.kind; «class» = q.«class»; edns = Some e }

-- what comes of a question, and of what stands behind it
abbrev pub with_additional : Query → Additional → Reading
with_additional q NoOpt = Asks q
with_additional q CutOpt = FormatError q.id q.flags
with_additional q (Opt e) = if e.version == 0 then Asks (with_edns e q) else BadVersion (with_edns e q)

abbrev pub one_question : Header → Option (Query × List ℕ) → Reading
one_question h None = FormatError h.id h.flags
one_question h (Some found) = with_additional found.0 (additional_at h found.1)

-- what comes of a message of this header
unfoldable pub reading_behind : Header → List ℕ → Reading
reading_behind h rest =
    if qr_of h.flags == 1 then Dropped
    else if opcode_of h.flags == 0
    then (if h.questions == 1 then one_question h (query_at h rest) else FormatError h.id h.flags)
    else NotImplemented h.id h.flags

unfoldable pub reading_of : List ℕ → Reading
reading_of bytes = if nat_lt (length bytes) HEADER_SIZE then Dropped else reading_behind (header_at bytes) (drop HEADER_SIZE bytes)
