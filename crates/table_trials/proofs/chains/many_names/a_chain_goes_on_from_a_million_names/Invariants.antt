use Rattle.table_trials.proofs.chains.many_names.a_chain_goes_on_from_a_million_names.Given as goal

abbrev pub ghosts-told_of : goal.ghosts-told_of
ghosts-told_of g a = record { name = a.blank.name; parts = a.blank.parts }
