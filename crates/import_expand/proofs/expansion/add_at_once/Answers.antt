use Rattle.std.proofs.Common.{◌-◌}
use Rattle.import_expand.specs.Books.{objects}
use Rattle.import_expand.proofs.ExpandLemmas.{alone_more}
use Rattle.import_expand.proofs.expansion.add_at_once.Goals as goal

pub returns-then-is_alone-clause-added : goal.returns-then-is_alone-clause-added
returns-then-is_alone-clause-added c told live sound o ms here shown =
    alone_more live (4 - c.args.depth) (objects c.args.book.now) c.args.found.now.items c.add_one.new.found.items c.args.at o ms (c.is_alone.ensures c.if-is_alone.true o here) here c.in_ok-add_one.ensures.added shown
