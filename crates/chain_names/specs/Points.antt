-- Outpoints: the outputs that inputs spend ("outpoint" of Bitcoin's "tx").
use Rattle.std.specs.Prelude.{ℕ, Bool, ◌&&◌, ◌==◌, List, if◌then◌else◌}
use Rattle.std.specs.Str.{bytes_eq}
use Rattle.block_grammar.specs.Transaction.{TxInput}
use Rattle.nmc_base.specs.declared.hashes.OutPoint.{OutPoint}

abbrev pub same_point : OutPoint → OutPoint → Bool
same_point a b = bytes_eq a.txid.0 b.txid.0 && (a.index == b.index)

-- the output at a place of the transaction with a txid
abbrev pub point_at : List ℕ → ℕ → OutPoint
point_at txid index = record { txid = record { 0 = txid }; index = index }

-- the output that an input spends
abbrev pub spent_by : TxInput → OutPoint
spent_by input = point_at input.txid input.index

-- the function with another value at one key
abbrev pub changed : {K V : Type 0} → (K → K → Bool) → (K → V) → K → V → K → V
changed same f key value = λ k. if same key k then value else f k
