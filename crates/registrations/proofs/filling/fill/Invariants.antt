use Rattle.registrations.proofs.filling.fill.Given as goal

abbrev pub ghosts-fill_by_rule : goal.ghosts-fill_by_rule
ghosts-fill_by_rule a = record { name = a.blank.name; parts = a.blank.parts }
