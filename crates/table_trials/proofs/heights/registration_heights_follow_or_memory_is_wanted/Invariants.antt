use Rattle.table_trials.proofs.heights.registration_heights_follow_or_memory_is_wanted.Given as goal

abbrev pub ghosts-heights_follow : goal.ghosts-heights_follow
ghosts-heights_follow g a = record { name = a.blank.name; parts = a.blank.parts }
