use Rattle.file_trials.proofs.store.limits.connects.Given as goal

-- the ledger of the steps is the blank's
abbrev pub ghosts-connect_within : goal.ghosts-connect_within
ghosts-connect_within g a = record { name = a.blank.name; parts = a.blank.parts }
