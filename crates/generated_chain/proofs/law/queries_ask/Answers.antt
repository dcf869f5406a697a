use Rattle.generated_chain.proofs.Queries.{asks}
use Rattle.generated_chain.proofs.law.queries_ask.Goals as goal

pub returns : goal.returns
returns c = asks
