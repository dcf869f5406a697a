use Rattle.index_commands.proofs.areas.follow_commands.Given as goal

-- the ledger of the steps is the blank's
abbrev pub ghosts-follow_area : goal.ghosts-follow_area
ghosts-follow_area g a = record { name = a.blank.name; parts = a.blank.parts }
