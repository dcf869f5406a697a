use Rattle.image_writer.proofs.places.FilledCoins.item.Given as goal

abbrev pub ghosts-counted_item : goal.ghosts-counted_item
ghosts-counted_item a = record { name = a.blank.name; parts = a.blank.parts }
