use Rattle.name_lister.proofs.AcceptingLemmas as accepting
use Rattle.name_lister.proofs.laws.saves_in_slices.Goals as goal

pub returns : goal.returns
returns c = λ size asked number old begun mid new events replies first run on last. accepting.saves_in_slices size asked number old begun mid new events replies first run on last
