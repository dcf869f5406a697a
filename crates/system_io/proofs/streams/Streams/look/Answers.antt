use Rattle.std.proofs.Common.{refl}
use Rattle.system_io.proofs.StreamsLemmas.{GivesAnew-same}
use Rattle.system_io.proofs.streams.Streams.look.Goals as goal

pub returns-clause-anew : goal.returns-clause-anew
returns-clause-anew c = GivesAnew-same _ _ _ _ refl c.look_at_each.ensures.clients
