use Rattle.name_report.proofs.reporting.report.Given as goal

abbrev pub ghosts-in_order : goal.ghosts-in_order
ghosts-in_order g a = record { name = a.blank.name; parts = a.blank.parts }
