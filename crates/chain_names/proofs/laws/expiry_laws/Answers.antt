use Rattle.chain_names.proofs.LogLemmas.{some_depth, no_lower, no_steeper, stays_expired}
use Rattle.chain_names.proofs.laws.expiry_laws.Goals as goal

pub returns-clause-positive : goal.returns-clause-positive
returns-clause-positive c = some_depth

pub returns-clause-never_falls : goal.returns-clause-never_falls
returns-clause-never_falls c = no_lower

pub returns-clause-by_one : goal.returns-clause-by_one
returns-clause-by_one c = no_steeper

pub returns-clause-stays : goal.returns-clause-stays
returns-clause-stays c = stays_expired
