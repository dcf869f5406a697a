use Rattle.std.proofs.Common.{refl}
use Rattle.block_grammar.specs.Block.{block_hash}
use Rattle.chain_commands.specs.Event.{Disconnect}
use Rattle.generated_validity.specs.Blocks.{block_behind}
use Rattle.generated_validity.specs.Causes.{full, long}
use Rattle.generated_validity.proofs.Refusals.{connect_cause, disconnect_cause, save_cause}
use Rattle.generated_validity.proofs.laws.refusals_have_causes.Goals as goal

pub returns-clause-connect : goal.returns-clause-connect
returns-clause-connect c = λ seed blocks old new reply low chain not_done had_memory step.
    connect_cause seed blocks old new reply low chain (record { not_done = not_done; had_memory = had_memory }) step

pub returns-clause-disconnect : goal.returns-clause-disconnect
returns-clause-disconnect c = λ seed blocks most old new reply chain not_done had_memory step.
    let hash = block_hash (block_behind seed blocks) in
    full (Disconnect hash) (disconnect_cause seed blocks old new hash reply chain refl (record { not_done = not_done; had_memory = had_memory }) step)

pub returns-clause-save : goal.returns-clause-save
returns-clause-save c = λ seed most old new reply few not_done had_memory step.
    long (save_cause old new reply few (record { not_done = not_done; had_memory = had_memory }) step)
