use Rattle.std.proofs.Common.{[]}
use Rattle.system_io.specs.Net.{Adds}
use Rattle.system_io.proofs.feed_link.FeedLink.drain.Given as goal

abbrev pub invariant-loop : goal.invariant-loop
invariant-loop g l = Adds (g.N.Net.told l.initial.net) (g.N.Net.told l.net) []
