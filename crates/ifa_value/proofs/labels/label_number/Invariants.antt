use Rattle.std.proofs.Common.{◌≡◌, drop}
use Rattle.ifa_value.specs.Labels.{number_from, label_number}
use Rattle.ifa_value.proofs.labels.label_number.Given as goal

abbrev pub invariant-loop-byte : goal.invariant-loop-byte
invariant-loop-byte l = number_from l.number (drop l.byte-index l.label) ≡ label_number l.label
