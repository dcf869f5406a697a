use Rattle.name_store.proofs.DamageLaws.{one_first}
use Rattle.name_store.proofs.law.one_damage.Goals as goal

pub returns : goal.returns
returns c = λ files file at other place a b. one_first files file at other place a b
