use Rattle.std.proofs.Common.{List, ℕ, sym, subst, ◌∙◌}
use Rattle.name_snapshot.specs.Turning.{ReadsOn}
use Rattle.name_snapshot.proofs.feeding.take.Goals as goal

pub returns-in_ok-kept-in-Ok-clause-takes : goal.returns-in_ok-kept-in-Ok-clause-takes
returns-in_ok-kept-in-Ok-clause-takes c = λ below is.
    subst (λ (l : List ℕ). ReadsOn below c.args.reading.now l c.read.new.self c.in_ok-kept-in-Ok.kept) (c.as_slice.ensures ∙ c.in_ok-extend.ensures.ok)
    (subst (λ (l : List ℕ). ReadsOn below c.args.reading.now c.as_slice.result.now c.read.new.self l) (sym c.in_ok-kept-in-Ok.ensures) (c.in-Ok.ensures.reads below is))
