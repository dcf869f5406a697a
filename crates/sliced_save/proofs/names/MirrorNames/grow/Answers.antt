use Rattle.sliced_save.specs.Mirror.{items_at}
use Rattle.sliced_save.proofs.NameLemmas.{fits_short, kept_grown, low_items, none_grown, none_of_none, short_items}
use Rattle.sliced_save.proofs.names.MirrorNames.grow.Goals as goal

pub returns-then-items-eq0-clause-names : goal.returns-then-items-eq0-clause-names
returns-then-items-eq0-clause-names g c = none_grown (items_at c.args.self.now) c.args.name.now c.args.items.now (none_of_none c.args.items.now c.if-items-eq0.true)

pub items_of-requires : goal.items_of-requires
items_of-requires g c = rw c.in_ok-key.ensures.bytes (fits_short c.args.name.now c.args.items.now c.if-items-eq0.false c.requires)

pub push_more-requires-clause-short : goal.push_more-requires-clause-short
push_more-requires-clause-short g c = short_items c.args.name.now c.args.items.now c.requires

pub push_more-requires-clause-low : goal.push_more-requires-clause-low
push_more-requires-clause-low g c = low_items c.args.name.now c.args.items.now c.requires

pub set-requires-clause-kept : goal.set-requires-clause-kept
set-requires-clause-kept g c =
    rw (c.in_ok-key.ensures.bytes, c.in_ok-len.ensures.items)
    (kept_grown c.args.name.now c.in_ok-here.here c.args.items.now c.if-items-eq0.false c.requires (rw c.in_ok-len.ensures.items at c.in_ok-len.ensures.kept))
