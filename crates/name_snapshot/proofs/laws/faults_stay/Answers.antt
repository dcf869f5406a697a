use Rattle.name_snapshot.proofs.StayLaws.{bad_stays}
use Rattle.name_snapshot.proofs.laws.faults_stay.Goals as goal

pub returns : goal.returns
returns c = λ base text more rest. bad_stays more base text rest
