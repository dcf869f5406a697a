use Rattle.name_report.proofs.reporting.put_name.Given as goal

abbrev pub ghosts-history : goal.ghosts-history
ghosts-history g a = record { name = a.blank.name; parts = a.blank.parts }
