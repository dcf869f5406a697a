-- Each text that is kept gives a reply, whatever is served.
use Rattle.std.specs.Prelude.{◌≡◌, ℕ, ◌+◌, ◌≤◌, Bool, true, false, List, length, Contains}
use Rattle.dns_message.specs.declared.numbers.TheConstants.{HEADER_SIZE}
use Rattle.answer_cache.specs.declared.cache_key.CacheKey.{CacheKey}
use Rattle.kept_answers.specs.Kept.{Kept, IsKept, kept_text}

-- the bytes of a reply's OPT record, where it has one (RFC 6891, 6.1.2)
abbrev pub opt_size : Bool → ℕ
opt_size false = 0
opt_size true = 11

-- The text is that of something that is kept, and a reply of it to a question of the key is no longer than the key says: header, name,
-- QTYPE and QCLASS, records, OPT.
pub record IsWhole (entry : CacheKey × List ℕ) : Type 0 where
  pub kept : Kept
  pub is_kept : IsKept kept
  pub text_is : entry.1 ≡ kept_text kept
  pub fits : HEADER_SIZE + (length entry.0.name + 4) + (length kept.records + opt_size entry.0.edns) ≤ entry.0.limit

abbrev pub AreWhole : List (CacheKey × List ℕ) → Type 0
AreWhole entries = (entry : CacheKey × List ℕ) → Contains entries entry → IsWhole entry
