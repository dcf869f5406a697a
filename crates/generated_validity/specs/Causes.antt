-- Why a run's command or save is refused.
use Rattle.std.specs.Prelude.{◌≡◌, ℕ, suc, ◌<◌, List, [], ◌∷◌}
use Rattle.block_grammar.specs.Block.{block_hash}
use Rattle.chain_commands.specs.Chain.{Chain}
use Rattle.chain_commands.specs.Event.{Command, Connect, Disconnect, Event, Do, Ask, Save}
use Rattle.chain_commands.specs.RunState.{RunState, chain_of, IsFull}
use Rattle.chain_commands.specs.Saving.{HasLongText, longest_image}
use Rattle.generated_chain.specs.Blocks.{run_base}
use Rattle.generated_validity.specs.Carried.{HaveOneTxid}
use Rattle.generated_validity.specs.Blocks.{block_behind, blocks_behind}

-- the chain of a run's first so many blocks
abbrev pub chain_behind : (seed blocks : ℕ) → Chain
chain_behind seed blocks = record { base = run_base; start = []; blocks = blocks_behind seed blocks }

-- The area has no room for the command, or the text of the index is longer than an image may be; or of the run's first so many blocks two
-- carry name transactions that differ and have one txid.
pub data HasCause (seed blocks : ℕ) (run : RunState) : Event → Type 0 where
  full : (command : Command) → IsFull run command → HasCause seed blocks run (Do command)
  long : HasLongText longest_image (chain_of run) → HasCause seed blocks run Save
  alike : (event : Event) → HaveOneTxid seed blocks → HasCause seed blocks run event

-- From the chain of so many of a run's first blocks these events lead to that of so many: each connect is of its next block, and each
-- disconnect of its newest.
abbrev pub Leads : (seed most from : ℕ) → List Event → (to : ℕ) → Type 0
Leads seed most from [] to = from ≡ to
Leads seed most from (Do (Connect block) ∷ events) to = (from < most) × (block ≡ block_behind seed from) × Leads seed most (suc from) events to
Leads seed most from (Do (Disconnect hash) ∷ events) to = (below : ℕ) × (from ≡ suc below) × (hash ≡ block_hash (block_behind seed below)) × Leads seed most below events to
Leads seed most from (Ask carrier message ∷ events) to = Leads seed most from events to
Leads seed most from (Save ∷ events) to = Leads seed most from events to
