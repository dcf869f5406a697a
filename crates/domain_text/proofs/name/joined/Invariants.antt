use Rattle.std.proofs.Common.{◌≡◌, ◌+◌, ◌++◌, length, true, []}
use Rattle.std.specs.List.{list_all}
use Rattle.std.specs.Option.{option_map_or}
use Rattle.domain_text.specs.Label.{is_label}
use Rattle.domain_text.specs.Host.{parts, parts_of}
use Rattle.domain_text.specs.Names.{joined_to}
use Rattle.domain_text.proofs.name.joined.Given as goal

abbrev pub invariant-loop-rest : goal.invariant-loop-rest
invariant-loop-rest l = (list_all is_label (option_map_or (λ text. parts text.now) l.rest []) ≡ true) × (l.front ++ joined_to (option_map_or (λ text. parts text.now) l.rest []) l.end ≡ joined_to (parts_of l.labels) l.end)

abbrev pub decreases-loop-rest : goal.decreases-loop-rest
decreases-loop-rest l = option_map_or (λ text. length text.now + 1) l.rest 0
