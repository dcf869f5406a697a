use Rattle.name_script.proofs.NameScripts.{one_name_script}
use Rattle.name_script.proofs.one_operation.Goals as goal

pub returns : goal.returns
returns c = one_name_script
