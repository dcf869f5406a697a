-- The code's tables are those of the right line.
use Rattle.std.proofs.Common.{refl, arith, ◌/◌}
use Rattle.hash160.proofs.Lines.{right_place, right_function}
use Rattle.hash160.proofs.compress.right_step.Goals as goal

pub returns : goal.returns
returns c =
    let j = c.args.j in
    rw (c.rotate_left.ensures, c.rotate_left-2.ensures, c.bit_function.ensures, right_place j, ← right_function (j / 16) (omega arith)) refl
