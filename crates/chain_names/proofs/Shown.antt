-- Whether a verdict is a refusal.
use Rattle.std.proofs.Common.{◌≡◌, Bool, true, false}
use Rattle.chain_names.specs.Verdict.{Verdict, plain, commits, opens, updates, refused}

abbrev pub is_refused : Verdict → Bool
is_refused plain = false
is_refused (commits hash place) = false
is_refused (opens name value place spent) = false
is_refused (updates name value place spent) = false
is_refused (refused refusal) = true

pub true_is_not_false : true ≡ false → ⊥
true_is_not_false e = cc
