use Rattle.chain_names.proofs.UndoableLemmas.{fit_allows, expired-row, expired-none}
use Rattle.chain_names.proofs.undoing.fit_allows_undoing.Goals as goal

pub returns-clause-operations : goal.returns-clause-operations
returns-clause-operations c = fit_allows

pub returns-clause-row : goal.returns-clause-row
returns-clause-row c = expired-row

pub returns-clause-none : goal.returns-clause-none
returns-clause-none c = expired-none
