-- Generated blocks: small blocks, each standing on a tip, with one name operation or none.
use Rattle.std.specs.Prelude.{ℕ, ◌+◌, List, [], ◌∷◌, map, replicate, Option, Some, None}
use Rattle.std.specs.Int.{w32, to_le_bytes}
use Rattle.block_grammar.specs.Transaction.{Transaction, txid_of}
use Rattle.block_grammar.specs.PureHeader as plain
use Rattle.block_grammar.specs.Block.{Block}
use Rattle.block_grammar.specs.Merkle.{merkle_root_of}
use Rattle.name_script.specs.NameScript.{NameOperation}
use Rattle.nmc_base.specs.declared.limits.TheConstants.{NAME_VERSION}
use Rattle.nmc_base.specs.declared.hashes.OutPoint.{OutPoint}
use Rattle.nmc_base.specs.declared.chain_ends.Tip.{Tip}
use Rattle.block_maker.specs.Script.{script_of}

-- a name operation, and the output that its transaction spends
pub record Making : Type 0 where
  pub operation : NameOperation
  pub spent : OutPoint

-- a transaction without witness, of one input and one output: its version, the output that is spent, the input's script,
-- the amount, and the output's script
abbrev pub single_transaction : ℕ → OutPoint → List ℕ → ℕ → List ℕ → Transaction
single_transaction version spent unlocking amount locking = record {
  version = version;
  inputs = record { txid = spent.txid.0; index = spent.index; script = unlocking; sequence = 0xFFFF_FFFF } ∷ [];
  outputs = record { value = amount; script = locking } ∷ [];
  witness = None;
  lock_time = 0;
}

-- the outpoint of a coinbase's input (Bitcoin's "coinbase")
abbrev pub no_output : OutPoint
no_output = record { txid = record { 0 = replicate 32 0 }; index = 0xFFFF_FFFF }

-- a push of the height in four bytes, low byte first, as the coinbase begins with it (BIP 34)
abbrev pub height_script : ℕ → List ℕ
height_script height = 0x04 ∷ to_le_bytes w32 height

-- the coinbase pays nothing to everybody, by OP_1
unfoldable pub coinbase_at : ℕ → Transaction
coinbase_at height = single_transaction 1 no_output (height_script height) 0 (0x51 ∷ [])

-- the transaction of a name operation holds 1,000,000 units
unfoldable pub name_transaction : Making → Transaction
name_transaction making = single_transaction NAME_VERSION making.spent [] 1000000 (script_of making.operation)

abbrev pub generated_transactions : ℕ → Option Making → List Transaction
generated_transactions height None = coinbase_at height ∷ []
generated_transactions height (Some making) = coinbase_at height ∷ name_transaction making ∷ []

-- the header of a block on the tip with this root: its time is its height, and its target the easiest
abbrev pub generated_header : Tip → List ℕ → plain.PureHeader
generated_header previous root =
    record { version = 4; previous = previous.hash.0; root = root; time = previous.height + 1; bits = 0x207F_FFFF; nonce = 0 }

-- the block on the tip
unfoldable pub generated_block : Tip → Option Making → Block
generated_block previous making = record {
  header = record { fields = generated_header previous (merkle_root_of (map txid_of (generated_transactions (previous.height + 1) making))); merged = None };
  transactions = generated_transactions (previous.height + 1) making;
}
