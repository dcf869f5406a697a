use Rattle.name_snapshot.proofs.StayLaws.{one_start, one_fault, no_fault, either}
use Rattle.name_snapshot.proofs.laws.one_answer.Goals as goal

pub returns-clause-makes : goal.returns-clause-makes
returns-clause-makes c = one_start

pub returns-clause-fault : goal.returns-clause-fault
returns-clause-fault c = one_fault

pub returns-clause-apart : goal.returns-clause-apart
returns-clause-apart c = no_fault

pub returns-clause-either : goal.returns-clause-either
returns-clause-either c = either
