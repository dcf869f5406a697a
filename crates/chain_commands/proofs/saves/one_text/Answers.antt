use Rattle.chain_commands.proofs.SavingLemmas as laws
use Rattle.chain_commands.proofs.saves.one_text.Goals as goal

pub returns : goal.returns
returns c = laws.one_text
