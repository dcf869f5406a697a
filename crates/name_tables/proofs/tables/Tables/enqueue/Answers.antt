use Rattle.std.proofs.Common.{ap, sym, ◌∙◌}
use Rattle.std.specs.Prelude.{Some}
use Rattle.chain_names.specs.Points.{same_point, changed}
use Rattle.chain_names.specs.Tables.{coins_in, queue_of, is_named_at}
use Rattle.name_tables.proofs.TableLemmas.{put_new, put_named}
use Rattle.name_tables.proofs.tables.Tables.enqueue.Goals as goal

pub returns-in-New-clause-queue : goal.returns-in-New-clause-queue
returns-in-New-clause-queue g c =
    put_new _ _ _ _ _ c.requires.queue (λ row e. c.requires.free row (ap (λ coin. is_named_at row (Some coin)) c.in-New.is ∙ e))
    ∙ ap (λ coin. queue_of (changed same_point (coins_in c.args.self.now.coins) c.args.at.now (Some coin))) (sym c.in-New.is)

pub returns-in-Named-clause-queue : goal.returns-in-Named-clause-queue
returns-in-Named-clause-queue g c =
    put_named _ _ _ _ _ _ c.requires.queue (λ row e. c.requires.free row (ap (λ coin. is_named_at row (Some coin)) c.in-Named.is ∙ e)) c.put.ensures.queued
    ∙ ap (λ coin. queue_of (changed same_point (coins_in c.args.self.now.coins) c.args.at.now (Some coin))) (sym c.in-Named.is)
