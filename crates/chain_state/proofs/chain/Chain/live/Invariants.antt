use Rattle.chain_state.proofs.chain.Chain.live.Given as goal

abbrev pub ghosts-entry : goal.ghosts-entry
ghosts-entry a = record { name = a.blank.name; parts = a.blank.parts }
