-- What comes of a message, by the rules of RFC 1035, 4.1, and RFC 6891, 6.1.
use Rattle.std.specs.Prelude.{◌≡◌, ◌≢◌, ℕ, ◌<◌, ◌^◌, List, ◌++◌, length, Option, IfSome, IsSomeAnd}
use Rattle.domain_text.specs.Names.{IsName}
use Rattle.dns_message.specs.Header.{word_text, header_text, qr_of, opcode_of, IsHeader}
use Rattle.dns_message.specs.Edns.{TellsEdns, IsCut}
use Rattle.dns_message.specs.declared.edns.Edns.{Edns}
use Rattle.dns_message.specs.declared.header.Header.{Header}
use Rattle.dns_message.specs.declared.numbers.TheConstants.{HEADER_SIZE}
use Rattle.dns_message.specs.declared.query.Question.{Question}
use Rattle.dns_message.specs.declared.query.Asked.{Asked}
use Rattle.dns_message.specs.declared.query.Asked.TheVariants as asked

-- a query of one question: ID and flags (4.1.1); QNAME, QTYPE and QCLASS (4.1.2); what its OPT record tells, if it has one
-- (RFC 6891, 6.1)
pub record Query : Type 0 where
  pub id : ℕ
  pub flags : ℕ
  pub name : List ℕ
  pub kind : ℕ
  pub «class» : ℕ
  pub edns : Option Edns

-- the question (4.1.2): QNAME in its wire form, QTYPE, QCLASS
abbrev pub question_text : Query → List ℕ
question_text q = q.name ++ (word_text q.kind ++ word_text q.«class»)

-- what comes of a message
pub data Reading : Type 0 where
  Dropped : Reading
  NotImplemented : (id flags : ℕ) → Reading
  FormatError : (id flags : ℕ) → Reading
  BadVersion : Query → Reading
  Asks : Query → Reading

-- the same of a value of the code, without where a name lies in memory
abbrev pub query_of : Question → Query
query_of q = record { id = q.id; flags = q.flags; name = q.name.now; kind = q.kind; «class» = q.«class»; edns = q.edns }

abbrev pub asked_of : Asked → Reading
asked_of (asked.Query q) = Asks (query_of q)
asked_of (asked.BadVersion q) = BadVersion (query_of q)
asked_of asked.Drop = Dropped
asked_of (asked.FormErr id flags) = FormatError id flags
asked_of (asked.NotImp id flags) = NotImplemented id flags

-- where a question was found, this is so of it
abbrev pub IfQuery : Asked → (Question → Type 0) → Type 0
IfQuery (asked.Query q) IsSo = IsSo q
IfQuery (asked.BadVersion q) IsSo = IsSo q
IfQuery asked.Drop IsSo = Unit {0}
IfQuery (asked.FormErr id flags) IsSo = Unit {0}
IfQuery (asked.NotImp id flags) IsSo = Unit {0}

-- Version 0 is the one that this server knows; without an OPT record none is asked for (RFC 6891, 6.1.3).
abbrev pub IsKnownVersion : Option Edns → Type 0
IsKnownVersion edns = IfSome edns (λ e. e.version ≡ 0)

abbrev pub IsOtherVersion : Option Edns → Type 0
IsOtherVersion edns = IsSomeAnd edns (λ e. e.version ≢ 0)

-- a question is told apart by its version
abbrev pub IsByVersion : Asked → Type 0
IsByVersion (asked.Query q) = IsKnownVersion q.edns
IsByVersion (asked.BadVersion q) = IsOtherVersion q.edns
IsByVersion asked.Drop = Unit {0}
IsByVersion (asked.FormErr id flags) = Unit {0}
IsByVersion (asked.NotImp id flags) = Unit {0}

-- A message begins with this header, and this stands behind it (4.1, 4.1.1).
pub record HasHeader (h : Header) (rest bytes : List ℕ) : Type 0 where
  pub text : bytes ≡ header_text h ++ rest
  pub words : IsHeader h

-- QR is 0, a query, and OPCODE is 0, a standard query (4.1.1)
pub record IsStandardQuery (h : Header) : Type 0 where
  pub query : qr_of h.flags ≡ 0
  pub opcode : opcode_of h.flags ≡ 0

-- QDCOUNT is 1 (4.1.1), and a question begins what stands behind the header (4.1.2); then this follows.
pub record BeginsQuestion (q : Query) (h : Header) (rest more : List ℕ) : Type 0 where
  pub one : h.questions ≡ 1
  pub text : rest ≡ question_text q ++ more
  pub name : IsName q.name
  pub kind : q.kind < 2 ^ 16
  pub class_fits : q.«class» < 2 ^ 16
  pub id : q.id ≡ h.id
  pub flags : q.flags ≡ h.flags

-- One question stands behind the header, and what follows it tells of EDNS what the query has.
pub record HasOneQuestion (q : Query) (h : Header) (rest : List ℕ) : Type 0 where
  pub more : List ℕ
  pub asks : BeginsQuestion q h rest more
  pub edns : TellsEdns h more q.edns

-- a standard query of one question, of any version
pub record IsQuery (q : Query) (bytes : List ℕ) : Type 0 where
  pub header : Header
  pub rest : List ℕ
  pub begins : HasHeader header rest bytes
  pub standard : IsStandardQuery header
  pub question : HasOneQuestion q header rest

-- What comes of a message: a rule for each cause.
pub data ReadsAs (bytes : List ℕ) : Reading → Type 0 where
  -- there is no whole header (4.1.1)
  no_header : length bytes < HEADER_SIZE → ReadsAs bytes Dropped
  -- QR is 1: it is a response (4.1.1)
  response : (h : Header) (rest : List ℕ) → HasHeader h rest bytes → qr_of h.flags ≡ 1 → ReadsAs bytes Dropped
  -- QR is 0, and OPCODE isn't that of a standard query (4.1.1)
  other_opcode : (h : Header) (rest : List ℕ) → HasHeader h rest bytes → qr_of h.flags ≡ 0 → opcode_of h.flags ≢ 0
      → ReadsAs bytes (NotImplemented h.id h.flags)
  -- a standard query, and not of one question (4.1.2)
  no_question : (h : Header) (rest : List ℕ) → HasHeader h rest bytes → IsStandardQuery h
      → ((q : Query) (more : List ℕ) → ¬ (BeginsQuestion q h rest more)) → ReadsAs bytes (FormatError h.id h.flags)
  -- a standard query of one question, and the message ends inside its OPT record (RFC 6891, 6.1.2)
  cut_opt : (h : Header) (rest : List ℕ) → HasHeader h rest bytes → IsStandardQuery h
      → (q : Query) (more : List ℕ) → BeginsQuestion q h rest more → IsCut h more → ReadsAs bytes (FormatError h.id h.flags)
  -- a standard query of one question, whose OPT record has a version that isn't known (RFC 6891, 6.1.3)
  bad_version : (q : Query) → IsQuery q bytes → IsOtherVersion q.edns → ReadsAs bytes (BadVersion q)
  -- a standard query of one question, without an OPT record or with one of version 0
  question : (q : Query) → IsQuery q bytes → IsKnownVersion q.edns → ReadsAs bytes (Asks q)
