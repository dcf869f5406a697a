use Rattle.table_trials.proofs.pinned_rows.the_last_value_of_each_name_in_order.Given as goal

abbrev pub ghosts-rows_in_order : goal.ghosts-rows_in_order
ghosts-rows_in_order g a = record { name = a.blank.name; parts = a.blank.parts }
