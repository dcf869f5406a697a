use Rattle.name_lister.proofs.AcceptingLemmas.{accepted_by}
use Rattle.name_lister.proofs.laws.accepted_commands.Goals as goal

pub returns : goal.returns
returns c = λ size old new events replies run. accepted_by size old new events replies run
