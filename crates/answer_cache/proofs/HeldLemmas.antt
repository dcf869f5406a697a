-- What is held under each key behind a look-up and behind a put.
use Rattle.std.proofs.Common.{◌≡◌, ℕ, zero, suc, ◌-◌, Bool, true, false, cond, List, [], ◌∷◌, take, Option, Some, None, option_map, refl, sym, ap, ◌∙◌, subst, true≢false}
use Rattle.std.proofs.lemmas.Bool.{false_from_ne_true}
use Rattle.std.specs.Map.{lookup, lookup_entry, remove_entry}
use Rattle.std.specs.Option.{option_map_or}
use Rattle.lru.proofs.CallerLemmas.{Contains-lookup_entry}
use Rattle.lru.proofs.Pairs.{lookup-lookup_entry}
use Rattle.answer_cache.specs.Cached.{Cached, held, behind_get, behind_put}
use Rattle.answer_cache.specs.Keys.{same_key}
use Rattle.answer_cache.specs.KeyLaws.{same_key-Decides}
use Rattle.answer_cache.specs.declared.cache_key.CacheKey.{CacheKey}

-- an answer with its key
abbrev Entry : Type 0
Entry = CacheKey × List ℕ

-- ---- one of the first entries

cut : (test : CacheKey → Bool) (entry : Entry) (rest kept : List Entry) (text : List ℕ) (here : Bool) → test entry.0 ≡ here
    → (lookup test kept ≡ Some text → lookup test rest ≡ Some text)
    → cond here (Some entry.1) (lookup test kept) ≡ Some text → cond here (Some entry.1) (lookup test rest) ≡ Some text
cut test entry rest kept text true e on h = h
cut test entry rest kept text false e on h = on h

lookup-take : (test : CacheKey → Bool) (n : ℕ) (entries : List Entry) (text : List ℕ) → lookup test (take n entries) ≡ Some text → lookup test entries ≡ Some text
lookup-take test zero entries text h = cc
lookup-take test (suc n) [] text h = h
lookup-take test (suc n) (entry ∷ entries) text h = cut test entry entries (take n entries) text (test entry.0) refl (lookup-take test n entries text) h

-- ---- another key

module _ (key other : CacheKey) (differ : key ≡ other → ⊥) where
  -- no key is both
  apart : (one : CacheKey) → same_key key one ≡ true → same_key other one ≡ false
  apart one h = false_from_ne_true (same_key other one) (λ same. differ ((same_key-Decides key one).0 h ∙ sym ((same_key-Decides other one).0 same)))

  skipped : (entry : Entry) (entries : List Entry) (here : Bool) → same_key key entry.0 ≡ here
      → lookup (same_key other) (remove_entry (same_key key) entries) ≡ lookup (same_key other) entries
      → lookup (same_key other) (remove_entry (same_key key) (entry ∷ entries)) ≡ lookup (same_key other) (entry ∷ entries)
  skipped entry entries true h on = rw (h, apart entry.0 h) refl
  skipped entry entries false h on = rw h (ap (cond (same_key other entry.0) (Some entry.1)) on)

  lookup-removed : (entries : List Entry) → lookup (same_key other) (remove_entry (same_key key) entries) ≡ lookup (same_key other) entries
  lookup-removed [] = refl
  lookup-removed (entry ∷ entries) = skipped entry entries (same_key key entry.0) refl (lookup-removed entries)

  -- an entry of the first key goes to the front, maybe with another text
  lookup-moved : (entry : Entry) (text : List ℕ) (entries : List Entry) → same_key key entry.0 ≡ true
      → lookup (same_key other) ((entry.0, text) ∷ remove_entry (same_key key) entries) ≡ lookup (same_key other) entries
  lookup-moved entry text entries h = rw (apart entry.0 h) (lookup-removed entries)

  lookup-put : (text kept : List ℕ) (cached : Cached) (one : Option Entry) → lookup_entry (same_key key) cached.entries ≡ one
      → lookup (same_key other) (option_map_or (λ e. (e.0, text) ∷ remove_entry (same_key key) cached.entries) one ((key, text) ∷ take (cached.cap - 1) cached.entries)) ≡ Some kept
      → held other cached ≡ Some kept
  lookup-put text kept cached None e h =
      lookup-take (same_key other) (cached.cap - 1) cached.entries kept (rw (apart key ((same_key-Decides key key).1 refl)) at h)
  lookup-put text kept cached (Some entry) e h =
      sym (lookup-moved entry text cached.entries (Contains-lookup_entry (same_key key) cached.entries entry e).1) ∙ h

  pub held-behind_put : (text kept : List ℕ) (cached : Cached) → held other (behind_put key text cached) ≡ Some kept → held other cached ≡ Some kept
  held-behind_put text kept cached = lookup-put text kept cached (lookup_entry (same_key key) cached.entries) refl

-- ---- what is promoted

module _ (key other : CacheKey) (entries : List Entry) (entry : Entry) (stands : lookup_entry (same_key key) entries ≡ Some entry) where
  its_key : same_key key entry.0 ≡ true
  its_key = (Contains-lookup_entry (same_key key) entries entry stands).1

  lookup-first : (here : Bool) → same_key key other ≡ here
      → lookup (same_key other) (entry ∷ remove_entry (same_key key) entries) ≡ lookup (same_key other) entries
  lookup-first true h =
      let one = (same_key-Decides key other).0 h in
      let it : same_key other entry.0 ≡ true = subst (λ (k : CacheKey). same_key k entry.0 ≡ true) one its_key in
      let value : lookup (same_key other) entries ≡ Some entry.1 =
      subst (λ (k : CacheKey). lookup (same_key k) entries ≡ Some entry.1) one (sym (lookup-lookup_entry (same_key key) entries) ∙ ap (option_map (λ e. e.1)) stands) in
      rw (it, value) refl
  lookup-first false h = lookup-moved key other (λ e. true≢false (sym ((same_key-Decides key other).1 e) ∙ h)) entry entry.1 entries its_key

promoted-held : (key other : CacheKey) (cached : Cached) (one : Option Entry) → lookup_entry (same_key key) cached.entries ≡ one
    → held other (behind_get key cached) ≡ held other cached
promoted-held key other cached None e =
    let none : held key cached ≡ None = sym (lookup-lookup_entry (same_key key) cached.entries) ∙ ap (option_map (λ e. e.1)) e in
    rw none refl
promoted-held key other cached (Some entry) e =
    let value : held key cached ≡ Some entry.1 = sym (lookup-lookup_entry (same_key key) cached.entries) ∙ ap (option_map (λ e. e.1)) e in
    rw (value, e) (lookup-first key other cached.entries entry e (same_key key other) refl)

pub held-behind_get : (key other : CacheKey) (cached : Cached) → held other (behind_get key cached) ≡ held other cached
held-behind_get key other cached = promoted-held key other cached (lookup_entry (same_key key) cached.entries) refl
