-- The operations of the code, as the definitions see them.
use Rattle.std.specs.Prelude.{ℕ, ◌+◌, ◌≤◌, length, replicate, Option}
use Rattle.std.specs.Option.{option_map}
use Rattle.block_grammar.specs.Block.{Block}
use Rattle.name_script.specs.NameScript.{NameOperation, name_new, name_firstupdate, name_update}
use Rattle.nmc_base.specs.declared.hashes.OutPoint.{OutPoint}
use Rattle.nmc_base.specs.declared.chain_ends.Tip.{Tip}
use Rattle.block_maker.specs.declared.operation.TheConstants.{LONGEST_PART}
use Rattle.block_maker.specs.declared.operation.MakeOp.{MakeOp}
use Rattle.block_maker.specs.declared.operation.MakeOp.TheVariants.{New, First, Update}
use Rattle.block_maker.specs.Generated.{Making, generated_block}

abbrev pub operation_of : MakeOp → NameOperation
operation_of (New hash) = name_new hash.0
operation_of (First name rand value spent) = name_firstupdate name.now rand.now value.now
operation_of (Update name value spent) = name_update name.now value.now

-- A NAME_NEW at a height spends an output that bears no name: that of 32 bytes EE and the height.
abbrev pub outpoint_spent : ℕ → MakeOp → OutPoint
outpoint_spent height (New hash) = record { txid = record { 0 = replicate 32 0xEE }; index = height }
outpoint_spent height (First name rand value spent) = spent
outpoint_spent height (Update name value spent) = spent

-- what the operation makes in a block at the height
abbrev pub making_at : ℕ → MakeOp → Making
making_at height op = record { operation = operation_of op; spent = outpoint_spent height op }

-- the same, where there is an operation
abbrev pub asked_at : ℕ → Option MakeOp → Option Making
asked_at height op = option_map (making_at height) op

-- what the block on the tip is asked to carry
abbrev pub asked_on : Tip → Option MakeOp → Option Making
asked_on previous op = asked_at (previous.height + 1) op

-- the block on the tip, with the operation or without one
abbrev pub block_on : Tip → Option MakeOp → Block
block_on previous op = generated_block previous (asked_on previous op)

-- each part has 65,535 bytes at most
abbrev pub HasShortParts : MakeOp → Type 0
HasShortParts (New hash) = Unit {0}
HasShortParts (First name rand value spent) = (length name.now ≤ LONGEST_PART) × (length rand.now ≤ LONGEST_PART) × (length value.now ≤ LONGEST_PART)
HasShortParts (Update name value spent) = (length name.now ≤ LONGEST_PART) × (length value.now ≤ LONGEST_PART)
