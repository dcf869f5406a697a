use Rattle.file_trials.proofs.store.memory.connect_twice.Goals as goal

-- the store that is handed back is still on the disk
pub connect-requires-in-NoMemory-clause-on_disk : goal.connect-requires-in-NoMemory-clause-on_disk
connect-requires-in-NoMemory-clause-on_disk g c = λ told. c.in-NoMemory.ensures.leaves.still_on told
