use Rattle.name_snapshot.proofs.reading.Reading.step.Goals as goal

pub returns-in-None-clause-steps : goal.returns-in-None-clause-steps
returns-in-None-clause-steps c = λ below is. c.end.ensures.steps below
