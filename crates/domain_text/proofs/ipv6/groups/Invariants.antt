use Rattle.std.proofs.Common.{◌≡◌, ◌≤◌, ◌+◌, ◌++◌, ◌==◌, length, []}
use Rattle.std.specs.List.{slice_split}
use Rattle.std.specs.Option.{option_and_then, option_map_or}
use Rattle.domain_text.specs.Ipv6.{groups_in, groups_of, if_few}
use Rattle.domain_text.proofs.ipv6.groups.Given as goal

abbrev pub invariant-loop-rest : goal.invariant-loop-rest
invariant-loop-rest l = record {
  few : length l.found ≤ 8;
  read : option_and_then (λ more. if_few (l.found ++ more)) (groups_in (option_map_or (λ part. slice_split (λ c. c == 58) part.now) l.rest [])) ≡ option_and_then if_few (groups_of l.fn.text);
}

abbrev pub decreases-loop-rest : goal.decreases-loop-rest
decreases-loop-rest l = option_map_or (λ part. length part.now + 1) l.rest 0
