use Rattle.file_trials.proofs.store.memory.disconnect_again.Goals as goal

pub disconnect_twice-left-requires-clause-on_disk : goal.disconnect_twice-left-requires-clause-on_disk
disconnect_twice-left-requires-clause-on_disk g c = λ told. (c.in-Ok.ensures.answer told).on_disk
