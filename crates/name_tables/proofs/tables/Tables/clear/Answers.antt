use Rattle.name_tables.proofs.RoomLemmas.{held-then}
use Rattle.name_tables.proofs.ClearLemmas.{cleared_filled}
use Rattle.name_tables.proofs.tables.Tables.clear.Goals as goal

pub returns-clause-same : goal.returns-clause-same
returns-clause-same g c = held-then c.args.self.now c.clear_spent.new.self c.clear_expired.new.self c.clear_spent.ensures.same c.clear_expired.ensures.same

pub returns-clause-filled : goal.returns-clause-filled
returns-clause-filled g c = λ filled. cleared_filled c.clear_expired.new.self (c.clear_expired.ensures.filled (c.clear_spent.ensures.filled c.args.expired.now filled))
