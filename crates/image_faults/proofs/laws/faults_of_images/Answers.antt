use Rattle.image_faults.proofs.FaultLaws.{fault_told, fault_only}
use Rattle.image_faults.proofs.laws.faults_of_images.Goals as goal

pub returns-clause-told : goal.returns-clause-told
returns-clause-told c = λ text kind rest are h. fault_told text (kind, rest) are h

pub returns-clause-only : goal.returns-clause-only
returns-clause-only c = λ text at are has. let f = fault_only text at are has in (f.fault.0, f.fault.1, f.reads, f.at_is)
