use Rattle.std.proofs.Common.{◌≡◌, length}
use Rattle.std.specs.List.{list_all}
use Rattle.domain_text.specs.Label.{is_label}
use Rattle.domain_text.specs.Host.{parts}
use Rattle.domain_text.proofs.host.are_labels.Given as goal

abbrev pub invariant-loop-rest : goal.invariant-loop-rest
invariant-loop-rest l = list_all is_label (parts l.text) ≡ list_all is_label (parts l.fn.text)

abbrev pub decreases-loop-rest : goal.decreases-loop-rest
decreases-loop-rest l = length l.text
