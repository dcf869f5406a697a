-- Values that are there or not.
use Rattle.std.proofs.Common.{◌≡◌, false, true≢false, Option, Some, None, is_some, refl}

pub none_there : {A : Type 0} (o : Option A) → is_some o ≡ false → o ≡ None
none_there None e = refl
none_there (Some x) e = absurd (true≢false e)
