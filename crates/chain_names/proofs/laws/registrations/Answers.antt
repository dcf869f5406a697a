use Rattle.chain_names.proofs.RegistrationLemmas.{opened-begins, updated-goes_on}
use Rattle.chain_names.proofs.laws.registrations.Goals as goal

pub returns-clause-opens : goal.returns-clause-opens
returns-clause-opens c = opened-begins

pub returns-clause-updates : goal.returns-clause-updates
returns-clause-updates c = updated-goes_on
