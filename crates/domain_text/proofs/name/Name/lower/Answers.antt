use Rattle.std.proofs.Common.{sym, subst}
use Rattle.domain_text.specs.Names.{IsName}
use Rattle.domain_text.proofs.NameForms.{IsName-lower}
use Rattle.domain_text.proofs.name.Name.lower.Goals as goal

pub invariant_of-result : goal.invariant_of-result
invariant_of-result c = subst IsName (sym c.lower.ensures) (IsName-lower _ c.self.invariant)
