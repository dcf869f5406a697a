use Rattle.saved_widths.proofs.ChainLemmas.{chain_measured, undos_measured, undos_writable}
use Rattle.saved_widths.proofs.laws.chains_have_widths.Goals as goal

pub returns-clause-maps : goal.returns-clause-maps
returns-clause-maps c = chain_measured

pub returns-clause-undos : goal.returns-clause-undos
returns-clause-undos c = undos_measured

pub returns-clause-writable : goal.returns-clause-writable
returns-clause-writable c = undos_writable
