use Rattle.table_trials.proofs.histories.names_in_the_order_of_their_places.Given as goal

abbrev pub ghosts-names_in_order : goal.ghosts-names_in_order
ghosts-names_in_order g a = record { name = a.blank.name; parts = a.blank.parts }
