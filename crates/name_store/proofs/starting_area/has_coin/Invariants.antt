use Rattle.name_store.proofs.starting_area.has_coin.Given as goal

abbrev pub ghosts-finds_coin : goal.ghosts-finds_coin
ghosts-finds_coin a = record { name = a.blank.name; parts = a.blank.parts }
