-- Inputs and outputs, without where their scripts lie in memory.
use Rattle.block_grammar.specs.Transaction.{TxInput, TxOutput}
use Rattle.tx_reader.specs.declared.inputs.TxIn.{TxIn}
use Rattle.tx_reader.specs.declared.outputs.TxOut.{TxOut}

abbrev pub seen_input : TxIn → TxInput
seen_input i = record { txid = i.previous.txid.0; index = i.previous.index; script = i.script.now; sequence = i.sequence }

abbrev pub seen_output : TxOut → TxOutput
seen_output o = record { value = o.value; script = o.script.now }
