use Rattle.generated_validity.proofs.Validity.{valid_or}
use Rattle.generated_validity.proofs.laws.blocks_are_valid.Goals as goal

pub returns : goal.returns
returns c = valid_or
