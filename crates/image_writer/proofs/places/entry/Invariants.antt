use Rattle.image_writer.proofs.places.entry.Given as goal

abbrev pub ghosts-counted_entry : goal.ghosts-counted_entry
ghosts-counted_entry a = record { name = a.blank.name; parts = a.blank.parts }
