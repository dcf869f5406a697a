use Rattle.domain_text.proofs.NameForms.{IsName-joined}
use Rattle.domain_text.proofs.name.Name.with_labels.Goals as goal

pub invariant_of-result : goal.invariant_of-result
invariant_of-result c = IsName-joined _ _ _ c.requires.labels c.wire.ensures.name c.in_ok-wire.ensures
