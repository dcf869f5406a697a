use Rattle.std.proofs.Common.{◌≡◌, ◌≤◌, ◌-◌, ◌++◌, take, drop, length, option_map}
use Rattle.domain_text.specs.Ipv6.{gap_of}
use Rattle.domain_text.proofs.ipv6.gap.Given as goal

abbrev pub invariant-loop-at : goal.invariant-loop-at
invariant-loop-at l = record { within : l.at ≤ length l.text; found : option_map (λ p. (take l.at l.text ++ p.0, p.1)) (gap_of (drop l.at l.text)) ≡ gap_of l.text }

abbrev pub decreases-loop-at : goal.decreases-loop-at
decreases-loop-at l = length l.text - l.at
