use Rattle.std.proofs.Common.{refl}
use Rattle.block_grammar.specs.CompactSize.{compact_size}
use Rattle.block_grammar.specs.Transaction.{transaction_text, input_text, output_text}
use Rattle.block_grammar.proofs.grammar.small_texts.Goals as goal

pub returns-clause-one_byte : goal.returns-clause-one_byte
unfolding compact_size
returns-clause-one_byte c = refl

pub returns-clause-three_bytes : goal.returns-clause-three_bytes
unfolding compact_size
returns-clause-three_bytes c = refl

pub returns-clause-last_of_three : goal.returns-clause-last_of_three
unfolding compact_size
returns-clause-last_of_three c = refl

pub returns-clause-five_bytes : goal.returns-clause-five_bytes
unfolding compact_size
returns-clause-five_bytes c = refl

pub returns-clause-nine_bytes : goal.returns-clause-nine_bytes
unfolding compact_size
returns-clause-nine_bytes c = refl

pub returns-clause-transaction : goal.returns-clause-transaction
unfolding compact_size transaction_text input_text output_text
returns-clause-transaction c = refl
