use Rattle.index_commands.proofs.LeadLemmas.{led_stands, led_allowed, allowed_taken}
use Rattle.index_commands.proofs.laws.commands_lead.Goals as goal

pub returns-clause-allowed : goal.returns-clause-allowed
returns-clause-allowed c = λ first index chain commands stands. led_allowed first chain stands index commands

pub returns-clause-stands : goal.returns-clause-stands
returns-clause-stands c = λ first index chain commands stands. led_stands first chain stands index commands

pub returns-clause-taken : goal.returns-clause-taken
returns-clause-taken c = λ first chain commands stands. allowed_taken first chain stands commands
