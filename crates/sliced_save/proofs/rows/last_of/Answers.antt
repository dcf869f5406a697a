use Rattle.std.proofs.Common.{◌-◌, sym, arith}
use Rattle.pin_views.proofs.Filling.{past_end}
use Rattle.sliced_save.proofs.RowLemmas.{last_entry, some_length}
use Rattle.sliced_save.proofs.rows.last_of.Goals as goal

pub unreachable-requires : goal.unreachable-requires
unreachable-requires c = omega (arith, past_end c.args.items.now (c.len.result - 1) c.in-None.ensures, c.len.ensures, some_length c.args.items.now c.requires)

pub returns : goal.returns
returns c =
    sym (last_entry c.args.items.now (c.len.result - 1) c.in-Some.item.now (omega (arith, c.len.ensures, some_length c.args.items.now c.requires)) (sym c.in-Some.ensures))
