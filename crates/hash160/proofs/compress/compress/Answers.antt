use Rattle.std.proofs.Common.{refl}
use Rattle.hash160.specs.Ripemd160.{compress}
use Rattle.hash160.proofs.compress.compress.Goals as goal

pub returns : goal.returns
unfolding compress
returns c = rw (c.left_line-l.ensures, c.right_line-r.ensures, c.block_of-words.ensures) refl
