use Rattle.file_trials.proofs.store.memory.connect_again.Goals as goal

pub connect_twice-left-requires-clause-on_disk : goal.connect_twice-left-requires-clause-on_disk
connect_twice-left-requires-clause-on_disk g c = λ told. (c.in-Ok.ensures.answer told).on_disk
