use Rattle.name_lister.proofs.PinLemmas.{pinned}
use Rattle.name_lister.proofs.laws.pinned_pages.Goals as goal

pub returns : goal.returns
returns c = λ size number position chain rows old new events replies listing at stays run. pinned size number chain rows listing position old new events replies at stays run
