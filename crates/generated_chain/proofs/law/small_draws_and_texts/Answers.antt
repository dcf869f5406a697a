use Rattle.std.specs.Fmt.{digits}
use Rattle.std.proofs.Common.{refl}
use Rattle.generated_chain.proofs.law.small_draws_and_texts.Goals as goal

pub returns-clause-name : goal.returns-clause-name
unfolding digits
returns-clause-name c = (refl, refl, refl)

pub returns-clause-value : goal.returns-clause-value
unfolding digits
returns-clause-value c = (refl, refl, refl)

pub returns-clause-query : goal.returns-clause-query
unfolding digits
returns-clause-query c = refl
