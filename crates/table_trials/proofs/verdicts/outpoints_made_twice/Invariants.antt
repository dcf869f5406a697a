use Rattle.table_trials.proofs.verdicts.outpoints_made_twice.Given as goal

abbrev pub ghosts-made_twice : goal.ghosts-made_twice
ghosts-made_twice g a = record { name = a.blank.name; parts = a.blank.parts }
