use Rattle.file_trials.proofs.slots.saves.Goals as goal

pub returns : goal.returns
returns g c = λ told. let on = c.in_ok-ready.ensures.on_disk told in (on.0, c.in_ok-count.ensures.adds.on_disk told on.0 on.1)
