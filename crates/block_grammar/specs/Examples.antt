-- Small texts, written out.
use Rattle.std.specs.Prelude.{ℕ, List, [], ◌∷◌, ◌++◌, replicate, None}
use Rattle.block_grammar.specs.Transaction.{Transaction}

-- one input that spends nothing, and one output of 50 with the script OP_1
abbrev pub tiny_transaction : Transaction
tiny_transaction = record {
  version = 1;
  inputs = record { txid = replicate 32 0; index = 0xFFFF_FFFF; script = []; sequence = 0xFFFF_FFFE } ∷ [];
  outputs = record { value = 50; script = 0x51 ∷ [] } ∷ [];
  witness = None;
  lock_time = 0x0102;
}

abbrev pub tiny_text : List ℕ
tiny_text =
    (1 ∷ 0 ∷ 0 ∷ 0 ∷ [])
    ++ ((1 ∷ [])
    ++ (replicate 32 0
    ++ ((0xFF ∷ 0xFF ∷ 0xFF ∷ 0xFF ∷ [])
    ++ ((0 ∷ [])
    ++ ((0xFE ∷ 0xFF ∷ 0xFF ∷ 0xFF ∷ [])
    ++ ((1 ∷ [])
    ++ ((50 ∷ 0 ∷ 0 ∷ 0 ∷ 0 ∷ 0 ∷ 0 ∷ 0 ∷ [])
    ++ ((1 ∷ 0x51 ∷ [])
    ++ (2 ∷ 1 ∷ 0 ∷ 0 ∷ [])))))))))

-- version 1, and the number 252 of inputs in three bytes where one holds it
abbrev pub longer_count : List ℕ
longer_count = 1 ∷ 0 ∷ 0 ∷ 0 ∷ 0xFD ∷ 252 ∷ 0 ∷ []

-- version 1, marker and flag, and the number 00 of inputs
abbrev pub no_inputs : List ℕ
no_inputs = 1 ∷ 0 ∷ 0 ∷ 0 ∷ 0 ∷ 1 ∷ 0 ∷ []

-- a header of zero bytes, and the number 00 of transactions
abbrev pub no_transactions : List ℕ
no_transactions = replicate 81 0
