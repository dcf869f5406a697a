use Rattle.table_trials.proofs.chains.with_memory_each_block_is_answered.Given as goal

abbrev pub ghosts-trial_of : goal.ghosts-trial_of
ghosts-trial_of g a = record { name = a.blank.name; parts = a.blank.parts }
