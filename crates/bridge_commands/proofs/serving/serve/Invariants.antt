use Rattle.bridge_commands.proofs.serving.serve.Given as goal

-- the ledger of the steps is the blank's
abbrev pub ghosts-serve_counted : goal.ghosts-serve_counted
ghosts-serve_counted g a = record { name = a.blank.name; parts = a.blank.parts }
