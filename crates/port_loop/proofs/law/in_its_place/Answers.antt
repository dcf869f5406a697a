use Rattle.port_loop.proofs.LawLemmas.{in_place, counted}
use Rattle.port_loop.proofs.law.in_its_place.Goals as goal

pub returns-clause-place : goal.returns-clause-place
returns-clause-place c = λ kinds. in_place {kinds = kinds}

pub returns-clause-polls : goal.returns-clause-polls
returns-clause-polls c = λ kinds. counted {kinds = kinds}
