use Rattle.std.proofs.Common.{ℕ, ◌<◌, None}
use Rattle.std.specs.Prelude.{◌≢◌}
use Rattle.listing_sessions.specs.Pinned.{listing_at}
use Rattle.listing_sessions.proofs.sessions.least_empty.Given as goal

abbrev pub invariant-loop-number : goal.invariant-loop-number
invariant-loop-number l = (other : ℕ) → other < l.number → listing_at l.held other ≢ None
