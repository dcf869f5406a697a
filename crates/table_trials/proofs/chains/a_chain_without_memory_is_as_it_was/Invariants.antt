use Rattle.table_trials.proofs.chains.a_chain_without_memory_is_as_it_was.Given as goal

abbrev pub ghosts-trial_of : goal.ghosts-trial_of
ghosts-trial_of g a = record { name = a.blank.name; parts = a.blank.parts }
