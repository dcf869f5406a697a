use Rattle.image_writer.proofs.places.name_in.Given as goal

abbrev pub ghosts-counted_name : goal.ghosts-counted_name
ghosts-counted_name a = record { name = a.blank.name; parts = a.blank.parts }
