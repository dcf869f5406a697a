use Rattle.file_trials.proofs.store.life.connect.Given as goal

abbrev pub ghosts-connect_to : goal.ghosts-connect_to
ghosts-connect_to g a = record { name = a.blank.name; parts = a.blank.parts }
