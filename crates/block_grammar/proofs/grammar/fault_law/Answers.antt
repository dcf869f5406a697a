use Rattle.block_grammar.specs.Transaction.{transaction_text, FitsTransaction}
use Rattle.block_grammar.specs.Header.{header_text, FitsHeader}
use Rattle.block_grammar.specs.FaultRows.{TransactionByte, HeaderByte}
use Rattle.block_grammar.specs.Reading.{transaction_from, header_from}
use Rattle.block_grammar.proofs.BodyLaws.{transaction_laws}
use Rattle.block_grammar.proofs.HeaderLaws.{header_laws}
use Rattle.block_grammar.proofs.RowLaws.{fault_told, fault_met}
use Rattle.block_grammar.proofs.FaultRowLaws.{transaction_bytes}
use Rattle.block_grammar.proofs.HeaderRowLaws.{header_bytes}
use Rattle.block_grammar.proofs.BlockRowLaws.{block_told, block_met}
use Rattle.block_grammar.proofs.grammar.fault_law.Goals as goal

pub returns-clause-transaction : goal.returns-clause-transaction
returns-clause-transaction c = λ bytes kind place fits.
    ((λ h. fault_told transaction_text FitsTransaction TransactionByte transaction_from transaction_laws transaction_bytes bytes kind place fits h.1 h.0), λ f. fault_met transaction_text FitsTransaction TransactionByte transaction_from transaction_laws transaction_bytes bytes kind place fits f)

pub returns-clause-header : goal.returns-clause-header
returns-clause-header c = λ bytes kind place fits.
    ((λ h. fault_told header_text FitsHeader HeaderByte header_from header_laws header_bytes bytes kind place fits h.1 h.0), λ f. fault_met header_text FitsHeader HeaderByte header_from header_laws header_bytes bytes kind place fits f)

pub returns-clause-block : goal.returns-clause-block
returns-clause-block c = λ bytes kind place fits. ((λ h. block_told bytes kind place fits h.1 h.0), block_met bytes kind place fits)
