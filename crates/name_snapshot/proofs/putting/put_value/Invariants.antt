use Rattle.name_snapshot.proofs.putting.put_value.Given as goal

abbrev pub ghosts-put_coin : goal.ghosts-put_coin
ghosts-put_coin a = record { name = a.blank.name; parts = a.blank.parts }

abbrev pub ghosts-push_item : goal.ghosts-push_item
ghosts-push_item a = record { name = a.blank.name; parts = a.blank.parts }
