-- What is kept of an index to be pinned, where it is there.
use Rattle.std.specs.Prelude.{Option, Some, None}
use Rattle.chain_state.specs.Chain.{Indexed}
use Rattle.sliced_save.specs.Mirror.{Mirrored, MirrorsIndex, MirrorsBefore}

-- the mirror of an index as it is, and as it was before its newest block
abbrev pub IsMirrorNow : Indexed → Option Mirrored → Type 0
IsMirrorNow index None = Unit {0}
IsMirrorNow index (Some mirror) = MirrorsIndex index mirror

abbrev pub IsMirrorBefore : Indexed → Option Mirrored → Type 0
IsMirrorBefore index None = Unit {0}
IsMirrorBefore index (Some mirror) = MirrorsBefore index mirror
