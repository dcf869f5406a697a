-- Reads one after the other.
use Rattle.std.proofs.Common.{ℕ, List, [], ◌++◌, Option, Some, None, refl, append_assoc}
use Rattle.std.specs.Io.KnownBytes.{Consumes, Keeps}

-- no read gave no bytes
pub Consumes_nothing : (left : Option (List ℕ)) → Consumes left left []
Consumes_nothing None = tt
Consumes_nothing (Some before) = refl

-- a read that failed gave no bytes
pub Consumes_kept : (before after : Option (List ℕ)) → Keeps before after → Consumes before after []
Consumes_kept None after p = tt
Consumes_kept (Some before) None p = absurd p
Consumes_kept (Some before) (Some after) p = rw p refl

-- two runs of reads in a row gave the joined bytes
pub Consumes_append : (a b c : Option (List ℕ)) (xs ys : List ℕ) → Consumes a b xs → Consumes b c ys → Consumes a c (xs ++ ys)
Consumes_append None b c xs ys p q = tt
Consumes_append (Some a) None c xs ys p q = absurd p
Consumes_append (Some a) (Some b) None xs ys p q = absurd q
Consumes_append (Some a) (Some b) (Some c) xs ys p q = rw (p, q, append_assoc) refl
