use Rattle.table_trials.proofs.queue.outpoints_by_height.Given as goal

abbrev pub ghosts-rows_in_order : goal.ghosts-rows_in_order
ghosts-rows_in_order g a = record { name = a.blank.name; parts = a.blank.parts }
