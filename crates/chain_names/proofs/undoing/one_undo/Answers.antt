use Rattle.chain_names.proofs.OneRecordLemmas.{one_undo-block, one_undo-chain, one_undo-maps}
use Rattle.chain_names.proofs.undoing.one_undo.Goals as goal

pub returns-clause-block : goal.returns-clause-block
returns-clause-block c = one_undo-block

pub returns-clause-chain : goal.returns-clause-chain
returns-clause-chain c = one_undo-chain

pub returns-clause-maps : goal.returns-clause-maps
returns-clause-maps c = one_undo-maps
