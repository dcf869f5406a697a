use Rattle.file_trials.proofs.store.slices.save_opened.Given as goal

abbrev pub ghosts-save_in_slices : goal.ghosts-save_in_slices
ghosts-save_in_slices g a = record { name = a.blank.name; parts = a.blank.parts }
