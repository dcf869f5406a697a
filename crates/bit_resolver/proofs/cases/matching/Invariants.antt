use Rattle.std.proofs.Common.{◌≡◌, take}
use Rattle.bit_resolver.specs.Nodes.{Node}
use Rattle.bit_resolver.specs.Answers.{matching}
use Rattle.bit_resolver.specs.Ends.{ShowsNode}
use Rattle.bit_resolver.proofs.cases.matching.Given as goal

abbrev pub invariant-loop-key : goal.invariant-loop-key
invariant-loop-key l = (n : Node) → ShowsNode l.room l.node n → l.found.items ≡ matching n l.kind (take l.key-index l.keys)
