use Rattle.std.proofs.Common.{◌≡◌, ◌++◌, drop}
use Rattle.domain_text.specs.Names.{joined_to}
use Rattle.bit_resolver.proofs.place.joined.Given as goal

abbrev pub invariant-loop-label : goal.invariant-loop-label
invariant-loop-label l = l.found ++ joined_to (drop l.label-index l.labels) l.end ≡ joined_to l.labels l.end
