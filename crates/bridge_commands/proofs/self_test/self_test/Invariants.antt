use Rattle.bridge_commands.proofs.self_test.self_test.Given as goal

-- the ledger of the steps is the blank's
abbrev pub ghosts-play_counted : goal.ghosts-play_counted
ghosts-play_counted g a = record { name = a.blank.name; parts = a.blank.parts }
