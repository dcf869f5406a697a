use Rattle.state_image.proofs.histories.add_item.Given as goal

abbrev pub ghosts-push_item : goal.ghosts-push_item
ghosts-push_item a = record { name = a.blank.name; parts = a.blank.parts }
