use Rattle.table_trials.proofs.heights.registration_heights_follow_from_records.Given as goal

abbrev pub ghosts-heights_follow : goal.ghosts-heights_follow
ghosts-heights_follow g a = record { name = a.blank.name; parts = a.blank.parts }
