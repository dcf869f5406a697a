use Rattle.std.proofs.lemmas.Result.{err_from_is_err_and}
use Rattle.name_snapshot.proofs.TurnLemmas.{waits_there, fails_there}
use Rattle.name_snapshot.proofs.reading.Reading.read.Goals as goal

pub returns-in_err-after-clause-reads : goal.returns-in_err-after-clause-reads
returns-in_err-after-clause-reads c = λ below is.
    let on = c.loop-after.invariant.goes below is in
    let p = err_from_is_err_and c.from_residual.result c.from_residual.ensures.1 in
    rw (p.1, p.2) (fails_there below c.args.self.now c.args.bytes.now c.loop-after.self c.loop-after.rest.now on c.step.new.self _ (c.in_err-after.ensures.steps on.now on.behind))

pub returns-clause-reads : goal.returns-clause-reads
returns-clause-reads c = λ below is.
    let on = c.loop-after.invariant.goes below is in
    waits_there below c.args.self.now c.args.bytes.now c.loop-after.self c.loop-after.rest.now on c.step.new.self _ c.in_default.is (c.in_ok-after.ensures.steps on.now on.behind)
