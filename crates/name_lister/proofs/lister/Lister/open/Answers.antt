use Rattle.name_lister.proofs.lister.Lister.open.Goals as goal

pub returns-in-Ok-over-clause-runs : goal.returns-in-Ok-over-clause-runs
returns-in-Ok-over-clause-runs g c tells run stands = rw c.in-Ok-over.ensures.bridge (c.in-Ok.ensures.runs tells run stands)
