use Rattle.chain_commands.proofs.SavingLemmas.{command_keeps, saved_has, save_keeps}
use Rattle.chain_commands.proofs.saves.saved_texts_stay.Goals as goal

pub returns-clause-command : goal.returns-clause-command
returns-clause-command c = command_keeps

pub returns-clause-text : goal.returns-clause-text
returns-clause-text c = saved_has

pub returns-clause-answered : goal.returns-clause-answered
returns-clause-answered c = save_keeps
