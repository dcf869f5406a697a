use Rattle.chain_names.proofs.QueueLemmas.{queue_of-more, queue_of-less, queue_of-still}
use Rattle.chain_names.proofs.laws.queue_follows.Goals as goal

pub returns-clause-more : goal.returns-clause-more
returns-clause-more c = queue_of-more

pub returns-clause-less : goal.returns-clause-less
returns-clause-less c = queue_of-less

pub returns-clause-still : goal.returns-clause-still
returns-clause-still c = queue_of-still
