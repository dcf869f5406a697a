use Rattle.table_trials.proofs.snapshots.told.Given as goal

abbrev pub ghosts-of_name : goal.ghosts-of_name
ghosts-of_name a = record { name = a.blank.name; parts = a.blank.parts }
