use Rattle.image_faults.proofs.DamageLemmas.{fault_damages, damage_only}
use Rattle.image_faults.proofs.laws.damage_by_the_grammar.Goals as goal

pub returns-clause-fault : goal.returns-clause-fault
returns-clause-fault c = fault_damages

pub returns-clause-only : goal.returns-clause-only
returns-clause-only c = damage_only
