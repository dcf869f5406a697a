use Rattle.port_loop.proofs.StretchLemmas.{keeps_streams, breaks_streams}
use Rattle.port_loop.proofs.law.streams_are_answered.Goals as goal

pub returns-clause-dealt : goal.returns-clause-dealt
returns-clause-dealt c = λ kinds. keeps_streams {kinds = kinds}

pub returns-clause-broken : goal.returns-clause-broken
returns-clause-broken c = λ kinds. breaks_streams {kinds = kinds}
