use Rattle.file_trials.proofs.store.memory.connect_again.Given as goal

abbrev pub ghosts-connect_twice : goal.ghosts-connect_twice
ghosts-connect_twice g a = record { name = a.blank.name; parts = a.blank.parts }
