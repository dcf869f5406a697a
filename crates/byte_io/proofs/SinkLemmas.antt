-- Writes one after the other.
use Rattle.std.proofs.Common.{ℕ, List, [], ◌++◌, Option, Some, None, refl, sym, ◌∙◌, append_assoc, append-nil}
use Rattle.std.specs.Io.KnownBytes.{Appends, Keeps}

-- no write took no bytes
pub Appends_nothing : (taken : Option (List ℕ)) → Appends taken taken []
Appends_nothing None = tt
Appends_nothing (Some before) = sym (append-nil before)

-- a write that failed took no bytes
pub Appends_kept : (before after : Option (List ℕ)) → Keeps before after → Appends before after []
Appends_kept None after p = tt
Appends_kept (Some before) None p = absurd p
Appends_kept (Some before) (Some after) p = p ∙ sym (append-nil before)

-- two runs of writes in a row took the joined bytes
pub Appends_append : (a b c : Option (List ℕ)) (xs ys : List ℕ) → Appends a b xs → Appends b c ys → Appends a c (xs ++ ys)
Appends_append None b c xs ys p q = tt
Appends_append (Some a) None c xs ys p q = absurd p
Appends_append (Some a) (Some b) None xs ys p q = absurd q
Appends_append (Some a) (Some b) (Some c) xs ys p q = rw (q, p, append_assoc) refl
