use Rattle.file_trials.proofs.store.life.connect.Goals as goal

pub connect_to-left-requires-clause-on_disk : goal.connect_to-left-requires-clause-on_disk
connect_to-left-requires-clause-on_disk g c = λ told. (c.in-Ok.ensures.answer told).on_disk
