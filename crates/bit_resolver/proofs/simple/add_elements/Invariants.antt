use Rattle.std.proofs.Common.{◌≡◌, ℕ, List, ◌++◌, take, Option}
use Rattle.std.specs.List.{flat_map}
use Rattle.ifa_value.specs.Elements.{alone}
use Rattle.bit_resolver.specs.Rdata.{rdata_of}
use Rattle.bit_resolver.specs.Answers.{records_of}
use Rattle.bit_resolver.proofs.simple.add_elements.Given as goal

abbrev pub invariant-loop-element : goal.invariant-loop-element
invariant-loop-element l = (name : List ℕ → Option (List ℕ)) → l.into.items ≡ l.initial.into.items ++ records_of l.owner l.kind (flat_map (λ e. alone (rdata_of name e)) (take l.element-index l.elements))
