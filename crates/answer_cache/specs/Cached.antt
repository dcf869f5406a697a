-- What a cache holds, and what it is behind each call.
use Rattle.std.specs.Prelude.{ℕ, ◌+◌, ◌-◌, ◌^◌, ◌≤◌, List, [], length, Option, min}
use Rattle.std.specs.Option.{option_map_or}
use Rattle.std.specs.List.{IsDistinct}
use Rattle.std.specs.Map.{lookup, keys_of}
use Rattle.lru.specs.LruCache as lru
use Rattle.lru.specs.LruCache.{lru_cache}
use Rattle.answer_cache.specs.Keys.{same_key}
use Rattle.answer_cache.specs.declared.cache_key.CacheKey.{CacheKey}

-- the answers with their keys, the most recently used first; how many there may be; the hits; the answers that weren't kept
pub record Cached : Type 0 where
  pub entries : List (CacheKey × List ℕ)
  pub cap : ℕ
  pub hits : ℕ
  pub missed : ℕ

-- no key is held twice, and no more answers are than there may be
pub record IsBounded (cached : Cached) : Type 0 where
  pub distinct : IsDistinct same_key (keys_of cached.entries)
  pub at_most : length cached.entries ≤ cached.cap

abbrev pub empty_cache : ℕ → Cached
empty_cache cap = record { entries = []; cap = cap; hits = 0; missed = 0 }

-- what is kept under the key
abbrev pub held : CacheKey → Cached → Option (List ℕ)
held key cached = lookup (same_key key) cached.entries

-- one more, up to the greatest number of 64 bits
abbrev pub counted : ℕ → ℕ
counted n = min (n + 1) (2 ^ 64 - 1)

-- behind a look-up that found: the answer goes first, and the hit is counted
abbrev pub found : CacheKey → Cached → Cached
found key cached = record { entries = lru.promoted (same_key key) cached.entries; cap = cached.cap; hits = counted cached.hits; missed = cached.missed }

-- behind a put that was done
abbrev pub behind_put : CacheKey → List ℕ → Cached → Cached
behind_put key text cached = record { entries = lru.put_entries same_key (lru_cache cached.entries cached.cap) key text; cap = cached.cap; hits = cached.hits; missed = cached.missed }

-- behind an answer that isn't kept: a put found no memory, or it is too long to be put
abbrev pub behind_want : Cached → Cached
behind_want cached = record { entries = cached.entries; cap = cached.cap; hits = cached.hits; missed = counted cached.missed }

-- behind a look-up
abbrev pub behind_get : CacheKey → Cached → Cached
behind_get key cached = option_map_or (λ _. found key cached) (held key cached) cached
