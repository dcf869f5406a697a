use Rattle.shared_chunks.proofs.Parts.{cut_same}
use Rattle.shared_chunks.proofs.level.cut.Goals as goal

pub returns-clause-same : goal.returns-clause-same
returns-clause-same g c =
    cut_same c.args.subs.now.items c.insert.new.self.items c.index.result.now c.in_ok-front.front c.in_ok-front.back c.args.at c.requires c.index.ensures c.in_ok-front.ensures c.in_ok-insert.ensures.items
