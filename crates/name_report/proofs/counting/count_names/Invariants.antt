use Rattle.name_report.proofs.counting.count_names.Given as goal

abbrev pub ghosts-in_order : goal.ghosts-in_order
ghosts-in_order a = record { name = a.blank.name; parts = a.blank.parts }
