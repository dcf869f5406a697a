use Rattle.image_writer.proofs.length.image_len.Given as goal

abbrev pub ghosts-add_parts : goal.ghosts-add_parts
ghosts-add_parts a = record { name = a.blank.name; parts = a.blank.parts }
