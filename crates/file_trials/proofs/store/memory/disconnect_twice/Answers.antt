use Rattle.file_trials.proofs.store.memory.disconnect_twice.Goals as goal

-- the store that is handed back is still on the disk
pub execute-requires-in-NoMemory-clause-on_disk : goal.execute-requires-in-NoMemory-clause-on_disk
execute-requires-in-NoMemory-clause-on_disk g c = λ told. c.in-NoMemory.ensures.leaves.still_on told
