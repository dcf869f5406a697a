-- The answers that are kept, and what a message does to them.
use Rattle.std.specs.Prelude.{◌≡◌, ◌≢◌, ℕ, suc, ◌-◌, ◌<◌, ◌≤◌, ◌⊎◌, ◌^◌, nat_lt, if◌then◌else◌, List, length, is_some, Option, Some, None, Contains}
use Rattle.domain_text.specs.Names.{IsName, lower}
use Rattle.dns_message.specs.Limits.{limit_of}
use Rattle.dns_message.specs.Query.{Query, Reading}
use Rattle.dns_message.specs.Query.Reading.{Asks}
use Rattle.dns_message.specs.Reading.{reading_of}
use Rattle.dns_message.specs.declared.transport.Transport.{Transport}
use Rattle.import_expand.specs.Sources.{Live}
use Rattle.bit_resolver.specs.Answers.{answer_to}
use Rattle.bit_resolver.specs.Replies.{contents_of, answer_text, failure_text, MayReply}
use Rattle.bit_resolver.specs.declared.limits.TheConstants.{CLASS_IN}
use Rattle.bit_resolver.specs.declared.zone.Zone.{Zone}
use Rattle.answer_cache.specs.declared.cache_key.CacheKey.{CacheKey}
use Rattle.answer_cache.specs.Marks.{mark_of}
use Rattle.answer_cache.specs.Cached.{Cached, empty_cache, held, found, counted, behind_put, behind_want}
use Rattle.kept_answers.specs.Kept.{Kept, IsKept, kept_reply, kept_text, reply_with}
use Rattle.kept_answers.specs.declared.limits.TheConstants.{LONGEST_KEPT, MOST_KEPT}

-- the zone of a host, at a tip of this height
abbrev pub zone_at : List ℕ → ℕ → Zone
zone_at host height = record { host = host; serial = height }

-- ---- what is kept, and under what

-- the answers that are kept, and how many commands were accepted since the first of them could be
pub record Answering : Type 0 where
  pub cache : Cached
  pub accepted : ℕ

-- how many accepted commands are counted: the count stays there, and then no answer is looked for or kept
abbrev pub last_count : ℕ
last_count = 2 ^ 64 - 1

-- one command more
abbrev pub one_more : ℕ → ℕ
one_more count = if nat_lt count last_count then suc count else count

-- what the answer to a question is kept under: the command that was accepted last; QNAME without regard to case (RFC 1035, 2.3.3), with
-- its mark; QTYPE; how long the reply may be; and whether it has an OPT record
abbrev pub key_for : ℕ → ℕ → Query → CacheKey
key_for accepted limit q = record { accepted = accepted; name = lower q.name; mark = mark_of (lower q.name); kind = q.kind; limit = limit; edns = is_some q.edns }

-- what is kept of the answer to a question
abbrev pub kept_answer : Live → Zone → ℕ → Query → Kept
kept_answer live z limit q = kept_reply limit (contents_of q (answer_to live z q)) (answer_to live z q).rcode (answer_to live z q).aa

-- ---- right answers

-- the text is that of what is kept of the answer to each question of the key
abbrev pub IsRight : Live → Zone → CacheKey → List ℕ → Type 0
IsRight live z key text = (q : Query) → IsName q.name → q.«class» ≡ CLASS_IN → key ≡ key_for key.accepted key.limit q
    → text ≡ kept_text (kept_answer live z key.limit q)

-- None was kept behind later commands than the last; and one behind the last is right, while the count goes on.
abbrev pub IsRightAt : Live → Zone → ℕ → CacheKey × List ℕ → Type 0
IsRightAt live z accepted kept = (kept.0.accepted ≤ accepted) × (kept.0.accepted ≡ accepted → accepted < last_count → IsRight live z kept.0 kept.1)

-- The answers that are kept and may be given are right, where these names are served in this zone.
abbrev pub AreRight : Live → Zone → Answering → Type 0
AreRight live z answers = (kept : CacheKey × List ℕ) → Contains answers.cache.entries kept → IsRightAt live z answers.accepted kept

-- ---- what becomes of them

-- none is kept yet, of so many at most
abbrev pub none_kept : Answering
none_kept = record { cache = empty_cache MOST_KEPT; accepted = 0 }

-- a command was accepted
abbrev pub outdated : Answering → Answering
outdated answers = record { cache = answers.cache; accepted = one_more answers.accepted }

abbrev pub with_cache : Answering → Cached → Answering
with_cache answers cache = record { cache = cache; accepted = answers.accepted }

-- the answer to a question is looked for: its class is IN, and the count goes on
pub record IsLookedFor (answers : Answering) (q : Query) : Type 0 where
  pub in_class : q.«class» ≡ CLASS_IN
  pub counted : answers.accepted < last_count

-- The text that is kept under the key gives the reply to a question: a hit, and it was used last.
pub record GivesKept (key : CacheKey) (q : Query) (old new : Answering) (reply : List ℕ) : Type 0 where
  pub kept : Kept
  pub is_kept : IsKept kept
  pub is_held : held key old.cache ≡ Some (kept_text kept)
  pub found_is : new ≡ with_cache old (found key old.cache)
  pub reply_is : (other : Kept) → IsKept other → kept_text kept ≡ kept_text other → reply ≡ reply_with q other

-- What is kept of a reply is put under its key, so that it is held; or it is counted as missed: the put found no memory, or its records
-- have too many bytes.
pub data Stores (key : CacheKey) (kept : Kept) (old new : Answering) : Type 0 where
  done : length kept.records ≤ LONGEST_KEPT → new ≡ with_cache old (behind_put key (kept_text kept) old.cache) → Stores key kept old new
  lacked : length kept.records ≤ LONGEST_KEPT → new ≡ with_cache old (behind_want old.cache) → Stores key kept old new
  long : LONGEST_KEPT < length kept.records → new ≡ with_cache old (behind_want old.cache) → Stores key kept old new

-- What a question that is looked for does to what is kept, by its reply: a rule a case.
pub data Looks (live : Live) (z : Zone) (limit : ℕ) (q : Query) (reply : List ℕ) (old new : Answering) : Type 0 where
  -- its answer is kept, and the reply is by that: a hit, and it was used last
  hit : (kept : Kept) → held (key_for old.accepted limit q) old.cache ≡ Some (kept_text kept) → reply ≡ reply_with q kept
      → new ≡ with_cache old (found (key_for old.accepted limit q) old.cache) → Looks live z limit q reply old new
  -- it isn't, and the reply is by the names that are served
  answered : held (key_for old.accepted limit q) old.cache ≡ None → reply ≡ answer_text limit q (answer_to live z q)
      → Stores (key_for old.accepted limit q) (kept_answer live z limit q) old new → Looks live z limit q reply old new
  -- it isn't, and memory was wanting for the answer
  failed : held (key_for old.accepted limit q) old.cache ≡ None → reply ≡ failure_text q → new ≡ old → Looks live z limit q reply old new

-- a question's answer, or SERVFAIL
abbrev pub IsAnswered : Live → Zone → ℕ → Query → List ℕ → Type 0
IsAnswered live z limit q text = (text ≡ answer_text limit q (answer_to live z q)) ⊎ (text ≡ failure_text q)

-- What a question is answered with that is looked for, where the answers that are kept are right: they are so then, too. What it does
-- to them.
pub record AnswersQuestion (live : Live) (z : Zone) (limit : ℕ) (q : Query) (old : Answering) (text : List ℕ) (new : Answering) : Type 0 where
  pub may : AreRight live z old → IsAnswered live z limit q text
  pub right : AreRight live z old → AreRight live z new
  pub looks : Looks live z limit q text old new

-- What a message does to what is kept, by its reply.
pub data Keeps (live : Live) (z : Zone) (transport : Transport) (message : Reading) (reply : Option (List ℕ)) (old new : Answering) : Type 0 where
  -- it has no question whose answer is looked for
  unasked : ((q : Query) → message ≡ Asks q → ¬ (IsLookedFor old q)) → new ≡ old → Keeps live z transport message reply old new
  asked : (q : Query) (text : List ℕ) → message ≡ Asks q → IsLookedFor old q → reply ≡ Some text
      → Looks live z (limit_of transport q) q text old new → Keeps live z transport message reply old new

-- What a message is answered with, where the answers that are kept are right: they are so then, too. What it does to them.
pub record AnswersMessage (live : Live) (z : Zone) (transport : Transport) (bytes : List ℕ) (old : Answering) (reply : Option (List ℕ)) (new : Answering) : Type 0 where
  pub may : AreRight live z old → MayReply live z transport bytes reply
  pub right : AreRight live z old → AreRight live z new
  pub keeps : Keeps live z transport (reading_of bytes) reply old new

-- What is held under the key gives the reply to the question.
pub record Holds (key : CacheKey) (q : Query) (reply : Option (List ℕ)) (cached : Cached) : Type 0 where
  pub kept : Kept
  pub held_is : held key cached ≡ Some (kept_text kept)
  pub reply_is : reply ≡ Some (reply_with q kept)

-- The reply to a question that is looked for is held then, or one more was missed; but for SERVFAIL.
abbrev pub IsHeldOrMissed : Transport → Reading → Option (List ℕ) → Answering → Answering → Type 0
IsHeldOrMissed transport message reply old new = (q : Query) → message ≡ Asks q → IsLookedFor old q → reply ≢ Some (failure_text q)
    → Holds (key_for old.accepted (limit_of transport q) q) q reply new.cache ⊎ (new.cache.missed ≡ counted old.cache.missed)
