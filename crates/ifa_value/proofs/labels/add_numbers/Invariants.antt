use Rattle.std.proofs.Common.{◌≡◌, ◌++◌}
use Rattle.serde_json.specs.View.{members_view}
use Rattle.ifa_value.specs.Labels.{keys_of, label_numbers}
use Rattle.ifa_value.proofs.labels.add_numbers.Given as goal

abbrev pub invariant-loop-key : goal.invariant-loop-key
invariant-loop-key l = l.into.items ++ label_numbers (keys_of (members_view l.key-iterator)) ≡ l.initial.into.items ++ label_numbers (keys_of (members_view l.members.entries))
