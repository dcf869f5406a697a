use Rattle.std.proofs.Common.{sym, arith}
use Rattle.std.proofs.lemmas.Option.{slice_get_within}
use Rattle.sliced_save.proofs.coins.MirrorCoins.at.Goals as goal

pub returns-in-Some-clause-within : goal.returns-in-Some-clause-within
returns-in-Some-clause-within g c =
    omega (arith, slice_get_within c.self.inside.map c.args.i _ (sym c.in-Some.ensures.pair), c.len-count.ensures, c.len-count.type_inv)
