use Rattle.std.proofs.Common.{length}
use Rattle.domain_text.specs.Names.{IsName, lower}
use Rattle.bit_resolver.specs.Places.{labels_of}
use Rattle.bit_resolver.proofs.PlaceLemmas.{OnLabels}
use Rattle.bit_resolver.proofs.place.place_in.Given as goal

abbrev pub invariant-loop-label : goal.invariant-loop-label
invariant-loop-label l = IsName l.rest × OnLabels (labels_of (lower l.fn.wire)) l.path.items (lower l.rest)

abbrev pub decreases-loop-label : goal.decreases-loop-label
decreases-loop-label l = length l.rest
