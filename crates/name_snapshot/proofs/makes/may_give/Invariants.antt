use Rattle.name_snapshot.proofs.makes.may_give.Given as goal

abbrev pub ghosts-is_none : goal.ghosts-is_none
ghosts-is_none a = record { name = a.blank.name; parts = a.blank.parts }
