use Rattle.name_snapshot.proofs.putting.put_make.Given as goal

abbrev pub ghosts-put_coin : goal.ghosts-put_coin
ghosts-put_coin a = record { name = a.blank.name; parts = a.blank.parts }
