use Rattle.std.proofs.Common.{arith}
use Rattle.chain_names.proofs.laws.starts_empty.Goals as goal

pub returns : goal.returns
returns c = λ profile base. record { makes = tt; few = omega arith }
