use Rattle.table_trials.proofs.coins.coins_by_outpoint.Given as goal

abbrev pub ghosts-two_coins : goal.ghosts-two_coins
ghosts-two_coins g a = record { name = a.blank.name; parts = a.blank.parts }
