use Rattle.file_trials.proofs.store.life.disconnect.Given as goal

abbrev pub ghosts-disconnect_from : goal.ghosts-disconnect_from
ghosts-disconnect_from g a = record { name = a.blank.name; parts = a.blank.parts }
