use Rattle.table_trials.proofs.verdicts.verdicts_of_the_table.Given as goal

abbrev pub ghosts-table : goal.ghosts-table
ghosts-table g a = record { name = a.blank.name; parts = a.blank.parts }
