use Rattle.port_loop.proofs.LawLemmas.{one_reading}
use Rattle.port_loop.proofs.law.one_reading.Goals as goal

pub returns : goal.returns
returns c = λ kinds. one_reading {kinds = kinds}
