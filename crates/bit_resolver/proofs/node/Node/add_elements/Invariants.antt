use Rattle.std.proofs.Common.{◌≡◌, ◌++◌, take}
use Rattle.std.specs.List.{flat_map}
use Rattle.domain_text.specs.Host.{host_name}
use Rattle.ifa_value.specs.Elements.{alone}
use Rattle.bit_resolver.specs.Rdata.{rdata_of}
use Rattle.bit_resolver.specs.Answers.{records_of}
use Rattle.bit_resolver.proofs.node.Node.add_elements.Given as goal

abbrev pub invariant-loop-element : goal.invariant-loop-element
invariant-loop-element l = l.into.items ≡ l.initial.into.items ++ records_of l.self.own l.kind (flat_map (λ e. alone (rdata_of (host_name l.self.own l.self.top.now) e)) (take l.element-index l.elements))
