-- Of all answers that are kept: what a hit and a put leave of it.
use Rattle.std.proofs.Common.{◌≡◌, ℕ, true, List, Option, Some, None, Contains, sym, ap, subst, inl, inr}
use Rattle.std.specs.Option.{option_map_or}
use Rattle.lru.specs.LruCache.{lru_cache}
use Rattle.lru.proofs.CallerLemmas.{IsPut, Contains-lookup, Contains-promoted, Contains-put_entries}
use Rattle.answer_cache.specs.declared.cache_key.CacheKey.{CacheKey}
use Rattle.answer_cache.specs.Cached.{Cached, held, found, behind_get, behind_put}
use Rattle.answer_cache.specs.Keys.{same_key}
use Rattle.answer_cache.specs.KeyLaws.{same_key-Decides}

-- keys that pass the test are one
one_key : (key other : CacheKey) → same_key key other ≡ true → key ≡ other
one_key key other = (same_key-Decides key other).0

-- what a look-up finds is kept under the key
pub held_is_kept : (key : CacheKey) (cached : Cached) (text : List ℕ) → held key cached ≡ Some text → Contains cached.entries (key, text)
held_is_kept key cached text is =
    let there = Contains-lookup (same_key key) cached.entries text is in
    subst (λ (k : CacheKey). Contains cached.entries (k, text)) (sym (one_key key there.0 there.2)) there.1

-- a look-up that finds, and one that doesn't
pub behind_hit : (key : CacheKey) (cached : Cached) (text : List ℕ) → held key cached ≡ Some text → behind_get key cached ≡ found key cached
behind_hit key cached text is = ap (λ (o : Option (List ℕ)). option_map_or (λ _. found key cached) o cached) is

pub behind_miss : (key : CacheKey) (cached : Cached) → held key cached ≡ None → behind_get key cached ≡ cached
behind_miss key cached is = ap (λ (o : Option (List ℕ)). option_map_or (λ _. found key cached) o cached) is

abbrev pub All : (CacheKey × List ℕ → Type 0) → Cached → Type 0
All P cached = (kept : CacheKey × List ℕ) → Contains cached.entries kept → P kept

module _ (P : CacheKey × List ℕ → Type 0) (key : CacheKey) (cached : Cached) (all : All P cached) where
  pub all_found : All P (found key cached)
  all_found kept is = all kept (Contains-promoted (same_key key) cached.entries kept is)

  module _ (text : List ℕ) (this : P (key, text)) where
    put_is : (kept : CacheKey × List ℕ) → IsPut same_key (lru_cache cached.entries cached.cap) key text kept → (key, text) ≡ kept
    put_is kept put = elim put.1 [
      | inl same ↦ λ i. (sym same i, sym put.0 i)
      | inr other ↦ λ i. (one_key key kept.0 other.2 i, sym put.0 i)
    ]

    pub all_put : All P (behind_put key text cached)
    all_put kept is = elim (Contains-put_entries same_key (lru_cache cached.entries cached.cap) key text kept is) [
      | inl there ↦ all kept there
      | inr put ↦ subst P (put_is kept put) this
    ]
