-- What the blocks of a run carry, and whether two of their name transactions have one txid.
use Rattle.std.specs.Prelude.{◌≡◌, ◌≢◌, ℕ, suc, ◌<◌, Option, Some}
use Rattle.nmc_base.specs.declared.hashes.OutPoint.{OutPoint}
use Rattle.block_grammar.specs.Transaction.{txid_of}
use Rattle.block_maker.specs.Generated.{Making, name_transaction}
use Rattle.generated_chain.specs.Stands.{deed_at, making_by, output_of}
use Rattle.generated_chain.specs.Blocks.{number_at, drawn_stand}

-- what the block behind so many blocks makes of the name that it is about
abbrev pub making_behind : (seed blocks : ℕ) → Option Making
making_behind seed blocks = making_by (suc blocks) (number_at seed blocks) (deed_at (suc blocks) (drawn_stand seed blocks))

-- of the first so many blocks one carries a name transaction whose output this is
pub record IsOutput (seed blocks : ℕ) (point : OutPoint) : Type 0 where
  pub below : ℕ
  pub within : below < blocks
  pub making : Making
  pub carried : making_behind seed below ≡ Some making
  pub point_is : point ≡ output_of making

-- Of the first so many blocks two carry name transactions that differ and have one txid, which is a hash.
pub record HaveOneTxid (seed blocks : ℕ) : Type 0 where
  pub first : ℕ
  pub second : ℕ
  pub in_order : first < second
  pub within : second < blocks
  pub one : Making
  pub other : Making
  pub one_is : making_behind seed first ≡ Some one
  pub other_is : making_behind seed second ≡ Some other
  pub differ : name_transaction one ≢ name_transaction other
  pub same : txid_of (name_transaction one) ≡ txid_of (name_transaction other)
