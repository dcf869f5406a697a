-- Two keys are one exactly where the test says so, and then they feed the same to a hasher.
use Rattle.std.specs.Prelude.{◌≡◌, Bool, true, ◌&&◌, ◌==◌, refl}
use mathlib.Core.Path.{ap, subst}
use Rattle.std.specs.Bool.{Decides, beq}
use Rattle.std.specs.Cmp.{IsEquivalence, IsPartialEquivalence, decided, partial_equiv_from_equiv, first_so, second_so, unsigned_Decides, booleans_Decides}
use Rattle.std.specs.Cmp.Lexicographic.{bytes_decides}
use Rattle.answer_cache.specs.Keys.{same_key, key_writes}
use Rattle.answer_cache.specs.declared.cache_key.CacheKey.{CacheKey}

both : {s t : Bool} → s ≡ true → t ≡ true → (s && t) ≡ true
both p q = λ i. p i && q i

itself : (key : CacheKey) → same_key key key ≡ true
itself key =
    both ((unsigned_Decides key.mark key.mark).1 refl)
    (both ((unsigned_Decides key.accepted key.accepted).1 refl)
    (both ((unsigned_Decides key.kind key.kind).1 refl)
    (both ((unsigned_Decides key.limit key.limit).1 refl)
    (both ((booleans_Decides key.edns key.edns).1 refl) ((bytes_decides key.name key.name).1 refl)))))

one : (a b : CacheKey) → same_key a b ≡ true → a ≡ b
one a b h =
    let behind = second_so (a.mark == b.mark) _ h in
    let later = second_so (a.accepted == b.accepted) _ behind in
    let last = second_so (a.kind == b.kind) _ later in
    let end = second_so (a.limit == b.limit) _ last in
    let mark = (unsigned_Decides a.mark b.mark).0 (first_so (a.mark == b.mark) _ h) in
    let accepted = (unsigned_Decides a.accepted b.accepted).0 (first_so (a.accepted == b.accepted) _ behind) in
    let kind = (unsigned_Decides a.kind b.kind).0 (first_so (a.kind == b.kind) _ later) in
    let limit = (unsigned_Decides a.limit b.limit).0 (first_so (a.limit == b.limit) _ last) in
    let edns = (booleans_Decides a.edns b.edns).0 (first_so (beq a.edns b.edns) _ end) in
    let name = (bytes_decides a.name b.name).0 (second_so (beq a.edns b.edns) _ end) in
    λ i. record { accepted = accepted i; name = name i; mark = mark i; kind = kind i; limit = limit i; edns = edns i }

pub same_key-Decides : (a b : CacheKey) → Decides (same_key a b) (a ≡ b)
same_key-Decides a b = (one a b, λ e. subst (λ (key : CacheKey). same_key a key ≡ true) e (itself a))

pub same_key-equivalence : IsEquivalence same_key
same_key-equivalence = decided same_key same_key-Decides

pub same_key-partial_equivalence : IsPartialEquivalence same_key
same_key-partial_equivalence = partial_equiv_from_equiv same_key-equivalence

pub same_writes : (a b : CacheKey) → same_key a b ≡ true → key_writes a ≡ key_writes b
same_writes a b h = ap key_writes (one a b h)
