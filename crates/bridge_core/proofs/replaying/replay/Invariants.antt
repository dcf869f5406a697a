use Rattle.bridge_core.proofs.replaying.replay.Given as goal

-- the ledger of the steps is the blank's
abbrev pub ghosts-replay_counted : goal.ghosts-replay_counted
ghosts-replay_counted g a = record { name = a.blank.name; parts = a.blank.parts }
