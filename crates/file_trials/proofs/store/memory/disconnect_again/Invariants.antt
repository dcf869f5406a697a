use Rattle.file_trials.proofs.store.memory.disconnect_again.Given as goal

abbrev pub ghosts-disconnect_twice : goal.ghosts-disconnect_twice
ghosts-disconnect_twice g a = record { name = a.blank.name; parts = a.blank.parts }
