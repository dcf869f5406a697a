use Rattle.std.proofs.Common.{sym, arith}
use Rattle.std.proofs.lemmas.Option.{slice_get_within}
use Rattle.sliced_save.proofs.stage.item_at.Goals as goal

pub returns-in-Some-clause-within : goal.returns-in-Some-clause-within
returns-in-Some-clause-within c =
    omega (arith, slice_get_within c.args.items.now c.args.from c.in-Some.item.now (sym c.in-Some.ensures), c.len-count.ensures, c.len-count.type_inv)
