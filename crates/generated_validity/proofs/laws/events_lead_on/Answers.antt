use Rattle.generated_validity.proofs.Rounds.{leads_round, leads_rounds}
use Rattle.generated_validity.proofs.laws.events_lead_on.Goals as goal

pub returns-clause-round : goal.returns-clause-round
returns-clause-round c = λ seed blocks most. leads_round seed most blocks

pub returns-clause-rounds : goal.returns-clause-rounds
returns-clause-rounds c = λ seed blocks most. leads_rounds seed most blocks
