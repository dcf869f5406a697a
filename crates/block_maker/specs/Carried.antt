-- What the transactions of a generated block carry, in Namecoin's terms.
use Rattle.std.specs.Prelude.{◌≡◌, List, [], ◌∷◌, Option, Some, None}
use Rattle.block_grammar.specs.Transaction.{TxInput, TxOutput, Transaction}
use Rattle.block_grammar.specs.Block.{Block}
use Rattle.block_grammar.specs.Merkle.{block_root}
use Rattle.name_script.specs.NameScript.{IsNameScript}
use Rattle.nmc_base.specs.declared.limits.TheConstants.{NAME_VERSION}
use Rattle.nmc_base.specs.declared.chain_ends.Tip.{Tip}
use Rattle.block_maker.specs.Generated.{Making}

-- a transaction of the version that carries names, which spends that output alone, and whose one output has a name
-- script of that operation (Namecoin's consensus rules, CNameScript)
pub record IsNameTransaction (t : Transaction) (making : Making) : Type 0 where
  pub version : t.version ≡ NAME_VERSION
  pub input : TxInput
  pub one_input : t.inputs ≡ input ∷ []
  pub txid : input.txid ≡ making.spent.txid.0
  pub index : input.index ≡ making.spent.index
  pub output : TxOutput
  pub one_output : t.outputs ≡ output ∷ []
  pub script : IsNameScript output.script making.operation

-- behind the coinbase stands one name transaction
pub record CarryName (transactions : List Transaction) (making : Making) : Type 0 where
  pub coinbase : Transaction
  pub name : Transaction
  pub two : transactions ≡ coinbase ∷ name ∷ []
  pub is_name : IsNameTransaction name making

-- behind the coinbase stands the name transaction that is asked for, or none
abbrev pub Carry : List Transaction → Option Making → Type 0
Carry transactions None = (coinbase : Transaction) × (transactions ≡ coinbase ∷ [])
Carry transactions (Some making) = CarryName transactions making

-- the block stands on the tip, its header has the root of its transactions, and it carries what is asked for
pub record IsMade (b : Block) (previous : Tip) (asked : Option Making) : Type 0 where
  pub previous_hash : b.header.fields.previous ≡ previous.hash.0
  pub root : b.header.fields.root ≡ block_root b
  pub carry : Carry b.transactions asked
