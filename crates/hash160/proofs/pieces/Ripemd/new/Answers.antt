use Rattle.std.proofs.Common.{rules}
use Rattle.hash160.specs.Hasher.{Holds}
use Rattle.hash160.specs.Ripemd160.{chaining_after}
use Rattle.hash160.proofs.pieces.Ripemd.new.Goals as goal

pub returns : goal.returns
unfolding Holds chaining_after
returns c = search rules
