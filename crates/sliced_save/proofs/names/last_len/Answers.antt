use Rattle.std.proofs.Common.{◌-◌, sym, arith}
use Rattle.pin_views.proofs.Filling.{past_end}
use Rattle.sliced_save.specs.Kept.{IsKeptItem}
use Rattle.sliced_save.proofs.NameLemmas.{last_item}
use Rattle.sliced_save.proofs.PairLemmas.{all_get}
use Rattle.sliced_save.proofs.names.last_len.Goals as goal

pub returns-in-Some : goal.returns-in-Some
returns-in-Some c =
    let both = last_item c.args.items.now (c.len-count.result - 1) c.in-Some.item.now c.add_item.result (omega (arith, c.len-count.ensures, c.if-count-eq0.false)) c.in-Some.ensures
    (all_get IsKeptItem c.args.items.now (c.len-count.result - 1) c.in-Some.item.now c.requires (sym c.in-Some.ensures)) c.add_item.ensures in
    record { length = both.0; most = both.1 }

pub returns-in-None : goal.returns-in-None
returns-in-None c = absurd (omega (arith, past_end c.args.items.now (c.len-count.result - 1) c.in-None.ensures, c.len-count.ensures, c.if-count-eq0.false))
