use Rattle.std.proofs.Common.{subst, ◌∙◌}
use Rattle.std.specs.Prelude.{Err}
use Rattle.nmc_base.specs.declared.chain_ends.Base.{Base}
use Rattle.name_snapshot.specs.Answers.{IsSnapshotAnswer}
use Rattle.name_snapshot.specs.SourceAnswers.{TakesUpTo, FaultOf, EndsOf, ReadsSnapshot}
use Rattle.name_snapshot.specs.FeedFaults.{of_snapshot}
use Rattle.name_snapshot.proofs.PieceLemmas.{takes_same, as_fault, end_fault}
use Rattle.name_snapshot.proofs.source_reading.read_snapshot.Goals as goal

pub returns-in_err-finish-in-Ok : goal.returns-in_err-finish-in-Ok
returns-in_err-finish-in-Ok g c =
    let old = g.S.Source.seen c.args.source.now in
    let new = g.S.Source.seen c.feed_source.new.source in
    let base = c.args.base.now in
    let fed = c.in-Ok.ensures.feeds in
    let fault = c.in_err-finish-in-Ok.field-0.0 in
    as_fault (ReadsSnapshot base c.args.limit old new) c.from_residual-in_err-finish-in-Ok.result (of_snapshot fault) c.from_residual-in_err-finish-in-Ok.ensures.1
    (takes_same (EndsOf base c.args.limit old new (Err (of_snapshot fault))) fed
    (end_fault base c.args.limit old new fed.taken fault fed.holds.0
    (subst (λ (b : Base). IsSnapshotAnswer b fed.taken (Err fault)) (c.in-Ok.ensures.base ∙ c.in_ok-snapshot.ensures.base) (c.in_err-finish-in-Ok.ensures.whole fed.taken fed.holds.1))))

pub returns-in-Err : goal.returns-in-Err
returns-in-Err g c =
    let old = g.S.Source.seen c.args.source.now in
    let new = g.S.Source.seen c.feed_source.new.source in
    subst (λ (base : Base). TakesUpTo c.args.limit old new (FaultOf base c.args.limit old new c.in-Err.fault)) c.in_ok-snapshot.ensures.base c.in-Err.ensures.feeds
