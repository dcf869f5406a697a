use Rattle.std.proofs.Common.{◌≡◌, length, arith, refl}
use Rattle.hash160.proofs.Lengths.{items_of_five}
use Rattle.hash160.proofs.pieces.digest_of.Goals as goal

pub returns : goal.returns
returns c =
    let five : length c.args.h ≡ 5 = omega arith in
    rw (c.to_le_bytes-a.ensures, c.to_le_bytes-b.ensures, c.to_le_bytes-c.ensures, c.to_le_bytes-d.ensures, c.to_le_bytes-e.ensures)
    (rw (items_of_five c.args.h five) refl)
