use Rattle.file_trials.proofs.store.life.disconnect.Goals as goal

pub disconnect_from-left-requires-clause-on_disk : goal.disconnect_from-left-requires-clause-on_disk
disconnect_from-left-requires-clause-on_disk g c = λ told. (c.in-Ok.ensures.answer told).on_disk
