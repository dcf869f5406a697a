use Rattle.std.proofs.Common.{◌≡◌, take}
use Rattle.std.specs.List.{filter_map}
use Rattle.serde_json.specs.View.{view}
use Rattle.ifa_value.specs.Elements.{element_in}
use Rattle.ifa_value.proofs.elements.each.Given as goal

abbrev pub invariant-loop-value : goal.invariant-loop-value
invariant-loop-value l = l.found.items ≡ filter_map (λ d. element_in l.key (view d)) (take l.value-index l.values)
