-- Which kinds say that the bytes end too early.
use Rattle.std.specs.Prelude.{Bool, true, false}
use Rattle.block_grammar.specs.declared.kinds.TxKind.{TxKind}
use Rattle.block_grammar.specs.declared.kinds.TxKind.TheVariants.{Cut, LongForm, BadFlag, NoInput, NoOutput, EmptyWitness}
use Rattle.block_grammar.specs.declared.kinds.BlockKind.{BlockKind}
use Rattle.block_grammar.specs.declared.kinds.BlockKind.TheVariants.{Header, Count, NoTransaction, Transaction, Trailing}

abbrev pub is_cut : TxKind → Bool
is_cut Cut = true
is_cut LongForm = false
is_cut BadFlag = false
is_cut NoInput = false
is_cut NoOutput = false
is_cut EmptyWitness = false

abbrev pub is_cut_block : BlockKind → Bool
is_cut_block (Header kind) = is_cut kind
is_cut_block (Count kind) = is_cut kind
is_cut_block NoTransaction = false
is_cut_block (Transaction kind) = is_cut kind
is_cut_block Trailing = false
