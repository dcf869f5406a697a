use Rattle.table_trials.proofs.images.are_told.Given as goal

abbrev pub ghosts-is_sound : goal.ghosts-is_sound
ghosts-is_sound g a = record { name = a.blank.name; parts = a.blank.parts }
