-- The index stands for a chain of the machine.
use Rattle.chain_state.specs.Chain.{Indexed}
use Rattle.chain_state.specs.Standing.{StandsForChain}
use Rattle.chain_commands.specs.Chain.{Chain}

abbrev pub StandsFor : Indexed → Chain → Type 0
StandsFor index chain = StandsForChain chain.base chain.start chain.blocks index
