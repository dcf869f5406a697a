use Rattle.state_image.proofs.live_coins.add_coin.Given as goal

abbrev pub ghosts-put_coin : goal.ghosts-put_coin
ghosts-put_coin a = record { name = a.blank.name; parts = a.blank.parts }
