use Rattle.chain_names.proofs.DueLemmas.{unless_expired-row, unless_expired-none, cleared-row}
use Rattle.chain_names.proofs.laws.due_coins.Goals as goal

pub returns-clause-row : goal.returns-clause-row
returns-clause-row c = unless_expired-row

pub returns-clause-none : goal.returns-clause-none
returns-clause-none c = unless_expired-none

pub returns-clause-cleared : goal.returns-clause-cleared
returns-clause-cleared c = cleared-row
