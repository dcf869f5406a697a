use Rattle.std.proofs.Common.{List, [], ℕ, None, sym, subst}
use Rattle.name_snapshot.specs.Feeding.{feeding_of, HasRead}
use Rattle.name_snapshot.proofs.BeginLemmas.{begins_read}
use Rattle.name_snapshot.proofs.feeding.Snapshot.new.Goals as goal

pub returns-clause-read : goal.returns-clause-read
returns-clause-read c =
    let r = c.in_ok-new.field-0 in
    subst (λ (held : List ℕ). HasRead [] (feeding_of r held 0 None)) (sym c.new-2.ensures) (begins_read r c.in_ok-new.ensures.next c.in_ok-new.ensures.behind)
