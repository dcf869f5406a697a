-- What is read of a block that was made.
use Rattle.std.specs.Prelude.{List, [], ◌∷◌, Option, Some, None}
use Rattle.nmc_base.specs.declared.hashes.OutPoint.{OutPoint}
use Rattle.block_grammar.specs.Transaction.{Transaction}
use Rattle.generated_chain.specs.Stands.{first_output}

-- the first output of the transaction behind the coinbase
abbrev pub second_output : List Transaction → Option OutPoint
second_output [] = None
second_output (coinbase ∷ []) = None
second_output (coinbase ∷ t ∷ more) = Some (first_output t)
