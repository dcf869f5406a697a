use Rattle.std.proofs.Common.{subst}
use Rattle.chain_names.specs.Tables.{coins_in, queued_in}
use Rattle.name_tables.specs.Queueing.{IsTaken}
use Rattle.name_tables.proofs.TableLemmas.{taken_new, taken_named}
use Rattle.name_tables.proofs.tables.Tables.dequeue.Goals as goal

pub returns-in-New-clause-queue : goal.returns-in-New-clause-queue
returns-in-New-clause-queue g c =
    taken_new c.requires.queue.0 _ _ _ _ _ (subst (IsTaken c.requires.queue.0 (coins_in c.args.self.now.coins) (queued_in c.args.self.now.queue) c.args.at.now) c.in-New.is c.requires.queue.1)

pub returns-in-Named-clause-queue : goal.returns-in-Named-clause-queue
returns-in-Named-clause-queue g c =
    taken_named c.requires.queue.0 _ _ _ _ _ _ (subst (IsTaken c.requires.queue.0 (coins_in c.args.self.now.coins) (queued_in c.args.self.now.queue) c.args.at.now) c.in-Named.is c.requires.queue.1) c.take.ensures.queued
