-- The OPT record (RFC 6891, 6.1), by which a sender tells how it may be answered, and the one of a reply.
use Rattle.std.specs.Prelude.{◌≡◌, ℕ, ◌+◌, ◌<◌, ◌≤◌, ◌^◌, if◌then◌else◌, Bool, List, [], ◌∷◌, ◌++◌, length, Option, Some, None}
use Rattle.dns_message.specs.Header.{word_text}
use Rattle.dns_message.specs.declared.edns.Edns.{Edns}
use Rattle.dns_message.specs.declared.header.Header.{Header}
use Rattle.dns_message.specs.declared.numbers.TheConstants.{OPT, OPT_SIZE, EDNS_SIZE}

-- the front of an OPT record (6.1.2): NAME, the root; TYPE, 41
abbrev pub opt_front : List ℕ
opt_front = 0 ∷ word_text OPT

-- the flags (6.1.3): DO, the highest bit (RFC 3225, 3), and Z, the 15 bits below
abbrev pub opt_flags : Bool → ℕ → ℕ
opt_flags dnssec z = (if dnssec then 2 ^ 15 else 0) + z

-- An OPT record (6.1.2): NAME and TYPE; CLASS, the sender's UDP payload size; TTL, which is the extended RCODE, VERSION and
-- the flags (6.1.3); RDLENGTH; RDATA, the options.
abbrev pub opt_text : Edns → ℕ → ℕ → List ℕ → List ℕ
opt_text e extended z options =
    opt_front ++ (word_text e.size ++ (extended ∷ (e.version ∷ (word_text (opt_flags e.dnssec z) ++ (word_text (length options) ++ options)))))

-- ---- behind a question

-- The message has no answer and no authority, and a record behind them (RFC 1035, 4.1.1), which so stands right behind
-- the question.
pub record HasAdditional (h : Header) : Type 0 where
  pub answers : h.answers ≡ 0
  pub authorities : h.authorities ≡ 0
  pub additionals : 1 ≤ h.additionals

-- An OPT record begins behind the question: its NAME and its TYPE stand there.
pub record BeginsOpt (h : Header) (more : List ℕ) : Type 0 where
  pub counts : HasAdditional h
  pub rest : List ℕ
  pub text : more ≡ opt_front ++ rest

-- An OPT record with these fields stands there whole, whatever its extended RCODE, Z and options, and whatever follows it.
pub record HasOpt (e : Edns) (h : Header) (more : List ℕ) : Type 0 where
  pub counts : HasAdditional h
  pub extended : ℕ
  pub z : ℕ
  pub options : List ℕ
  pub rest : List ℕ
  pub text : more ≡ opt_text e extended z options ++ rest
  pub size : e.size < 2 ^ 16
  pub version : e.version < 2 ^ 8
  pub extended_fits : extended < 2 ^ 8
  pub z_fits : z < 2 ^ 15
  pub options_fit : length options < 2 ^ 16

-- what the bytes behind a question tell: a case for each
pub data TellsEdns (h : Header) (more : List ℕ) : Option Edns → Type 0 where
  -- no OPT record begins there
  no_opt : ¬ (BeginsOpt h more) → TellsEdns h more None
  -- one stands there whole
  opt : (e : Edns) → HasOpt e h more → TellsEdns h more (Some e)

-- An OPT record begins there, and the message ends inside it.
pub record IsCut (h : Header) (more : List ℕ) : Type 0 where
  pub begins : BeginsOpt h more
  pub not_whole : (e : Edns) → ¬ (HasOpt e h more)

-- ---- in a reply

-- what a reply tells of this server: the size that it reads, version 0, and DO as it was asked (RFC 3225, 3)
abbrev pub edns_of_reply : Edns → Edns
edns_of_reply e = record { size = EDNS_SIZE; version = 0; dnssec = e.dnssec }

-- the OPT record of a reply: one exactly where the query has one (6.1.1), with Z 0 and no options
abbrev pub opt_of_reply : Option Edns → ℕ → List ℕ
opt_of_reply None extended = []
opt_of_reply (Some e) extended = opt_text (edns_of_reply e) extended 0 []

-- ARCOUNT of a reply
abbrev pub additionals_of_reply : Option Edns → ℕ
additionals_of_reply None = 0
additionals_of_reply (Some e) = 1

-- the bytes of its OPT record
abbrev pub opt_size_of_reply : Option Edns → ℕ
opt_size_of_reply None = 0
opt_size_of_reply (Some e) = OPT_SIZE
