use Rattle.index_commands.proofs.LeadLemmas.{allowed_of_parts, parts_allowed}
use Rattle.index_commands.proofs.laws.allowed_in_two_parts.Goals as goal

pub returns : goal.returns
returns c = λ first later earlier. (allowed_of_parts first later earlier, λ both. parts_allowed first later earlier both.0 both.1)
