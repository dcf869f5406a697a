use Rattle.chain_names.proofs.RecordLemmas.{chain_has_undos}
use Rattle.chain_names.proofs.undoing.chains_have_undos.Goals as goal

pub returns : goal.returns
returns c = λ profile start base blocks accepted. ((chain_has_undos profile start base blocks accepted).undos, (chain_has_undos profile start base blocks accepted).are_undos)
