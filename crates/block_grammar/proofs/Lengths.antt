-- A block has no more transactions than bytes, and no more outputs.
use Rattle.std.proofs.Common.{ℕ, ◌≤◌, List, [], ◌∷◌, ◌++◌, length, sym, subst, arith, le_trans, length-append}
use Rattle.std.specs.Prelude.{Option, Some, None}
use Rattle.std.specs.Int.{w32, to_le_bytes}
use Rattle.std.specs.List.{flat_map}
use Rattle.block_grammar.specs.CompactSize.{compact_size, counted_list}
use Rattle.block_grammar.specs.Transaction.{TxInput, TxOutput, input_text, output_text, Transaction, body_text, transaction_text}
use Rattle.block_grammar.specs.Witness.{stack_text}
use Rattle.block_grammar.specs.Header.{header_text}
use Rattle.block_grammar.specs.Block.{Block, IsBlock, block_text, count_outputs}

in_front : (a b : List ℕ) → length b ≤ length (a ++ b)
in_front a b = omega (arith, length-append a b)

behind : (a b : List ℕ) → length a ≤ length (a ++ b)
behind a b = omega (arith, length-append a b)

-- ---- transactions

text_long : (t : Transaction) → 1 ≤ length (transaction_text t)
unfolding transaction_text
text_long t = omega arith

texts_long : (ts : List Transaction) → length ts ≤ length (flat_map transaction_text ts)
texts_long [] = omega arith
texts_long (t ∷ ts) = omega (arith, texts_long ts, text_long t, length-append (transaction_text t) (flat_map transaction_text ts))

in_block : (b : Block) → length (flat_map transaction_text b.transactions) ≤ length (block_text b)
unfolding block_text
in_block b =
    le_trans (in_front (compact_size (length b.transactions)) (flat_map transaction_text b.transactions))
    (in_front (header_text b.header) (counted_list transaction_text b.transactions))

pub transactions_short : (b : Block) → length b.transactions ≤ length (block_text b)
transactions_short b = le_trans (texts_long b.transactions) (in_block b)

-- ---- outputs

one_byte : (o : TxOutput) → 1 ≤ length (output_text o)
unfolding output_text
one_byte o = omega arith

listed_long : (os : List TxOutput) → length os ≤ length (flat_map output_text os)
listed_long [] = omega arith
listed_long (o ∷ os) = omega (arith, one_byte o, listed_long os, length-append (output_text o) (flat_map output_text os))

counted_long : (os : List TxOutput) → length os ≤ length (counted_list output_text os)
counted_long os = le_trans (listed_long os) (in_front (compact_size (length os)) (flat_map output_text os))

body_long : (inputs : List TxInput) (outputs : List TxOutput) (witness : Option (List (List (List ℕ)))) (lock_time : ℕ) → length outputs ≤ length (body_text inputs outputs witness lock_time)
body_long inputs outputs None lock_time =
    le_trans (le_trans (counted_long outputs) (behind (counted_list output_text outputs) (to_le_bytes w32 lock_time)))
    (in_front (counted_list input_text inputs) (counted_list output_text outputs ++ to_le_bytes w32 lock_time))
body_long inputs outputs (Some stacks) lock_time =
    let rest = flat_map stack_text stacks ++ to_le_bytes w32 lock_time in
    let long : length outputs ≤ length (counted_list input_text inputs ++ (counted_list output_text outputs ++ rest)) =
    le_trans (le_trans (counted_long outputs) (behind (counted_list output_text outputs) rest)) (in_front (counted_list input_text inputs) (counted_list output_text outputs ++ rest)) in
    omega (arith, long)

transaction_long : (t : Transaction) → length t.outputs ≤ length (transaction_text t)
unfolding transaction_text
transaction_long t =
    le_trans (body_long t.inputs t.outputs t.witness t.lock_time) (in_front (to_le_bytes w32 t.version) (body_text t.inputs t.outputs t.witness t.lock_time))

all_long : (ts : List Transaction) → count_outputs ts ≤ length (flat_map transaction_text ts)
all_long [] = omega arith
all_long (t ∷ ts) = omega (arith, transaction_long t, all_long ts, length-append (transaction_text t) (flat_map transaction_text ts))

pub outputs_short : (b : Block) → count_outputs b.transactions ≤ length (block_text b)
outputs_short b = le_trans (all_long b.transactions) (in_block b)

pub outputs-bytes : (bytes : List ℕ) (b : Block) → IsBlock bytes b → count_outputs b.transactions ≤ length bytes
outputs-bytes bytes b is = subst (λ (text : List ℕ). count_outputs b.transactions ≤ length text) (sym is.text) (outputs_short b)
