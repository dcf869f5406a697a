use Rattle.index_commands.proofs.ChainLemmas.{allowed_if, taken_if, stands_behind}
use Rattle.index_commands.proofs.laws.commands_follow.Goals as goal

pub returns-clause-just : goal.returns-clause-just
returns-clause-just c = λ index chain command stands. (allowed_if index chain stands command, taken_if index chain stands command)

pub returns-clause-stands : goal.returns-clause-stands
returns-clause-stands c = λ index new chain command stands. stands_behind index chain stands command new
