use Rattle.system_io.proofs.StreamsLemmas.{gone-of}
use Rattle.system_io.proofs.streams.Streams.close.Goals as goal

pub returns-in-Some-clause-gone : goal.returns-in-Some-clause-gone
returns-in-Some-clause-gone c = gone-of c.args.self.now.streams.items c.let_go.new.self.streams.items c.in-Some.at c.args.client c.in-Some.ensures.within c.in-Some.ensures.its c.let_go.ensures.gone
