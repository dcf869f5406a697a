-- What comes of replies.
use Rattle.std.specs.Prelude.{◌≡◌, ◌⊎◌, ℕ, List, ◌++◌}
use Rattle.system_io.specs.Net.{NetTold, Moves}
use Rattle.system_io.specs.declared.link.Peer.{Peer}
use Rattle.system_io.specs.declared.stream.State.{State}
use Rattle.system_io.specs.declared.stream.State.TheVariants.{Over}

-- The reply is behind what was unsent: of both some from the front went over the connection, in order, and the others are unsent. Or the
-- connection is over, and nothing goes over it any more.
abbrev pub IsKept : (held holds : NetTold) → Peer → (old new : List ℕ) → State → List ℕ → Type 0
IsKept held holds peer old new state bytes = (state ≡ Over) ⊎ Moves held holds peer (old ++ bytes) new
