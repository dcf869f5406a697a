-- What a command answers, of every run state that the store stands for.
use Rattle.std.specs.Prelude.{ℕ, List}
use Rattle.chain_state.specs.Chain.{Indexed}
use Rattle.chain_state.specs.declared.stage.Refusal.{Refusal}
use Rattle.chain_state.specs.declared.back.BackRefusal.{BackRefusal}
use Rattle.nmc_base.specs.declared.chain_ends.Tip.{Tip}
use Rattle.chain_commands.specs.Event.{Connect, Disconnect}
use Rattle.chain_commands.specs.RunState.{RunState, chain_of}
use Rattle.chain_commands.specs.Connecting.{Holds, connects}
use Rattle.chain_commands.specs.Disconnecting.{HoldsBack, disconnects}
use Rattle.index_commands.specs.Costs.{IsCheap}
use Rattle.index_commands.specs.Views.{refusal_of, back_refusal_of, command_of}
use Rattle.index_commands.specs.declared.command.ChainCommand.{ChainCommand}
use Rattle.index_commands.specs.declared.command.ChainCommand.TheVariants.{Connect as a_block, Disconnect as a_hash}
use Rattle.index_commands.specs.declared.staged.CommandRefusal.{CommandRefusal}
use Rattle.index_commands.specs.declared.staged.CommandRefusal.TheVariants as refused
use Rattle.name_store.specs.declared.store.Outcome.{Outcome}
use Rattle.name_store.specs.declared.store.Outcome.TheVariants.{Done, Refused, NoMemory, Faulted}
use Rattle.name_store.specs.Outcomes.{AnswersFor, IfDone, IsDone, IsFullOf}
use Rattle.name_store.specs.Stored.{Stored, StandsFor}

-- ---- the connect of a block

abbrev pub ConnectsFor : ℕ → RunState → List ℕ → Outcome Tip Refusal → Type 0
ConnectsFor most run bytes = AnswersFor connects (Holds (IsFullOf most run (Connect bytes)) (chain_of run) bytes) refusal_of (IsDone run (Connect bytes)) run

abbrev pub Connects : ℕ → Stored → List ℕ → Outcome Tip Refusal → Type 0
Connects most old bytes outcome = (run : RunState) → StandsFor old run → ConnectsFor most run bytes outcome

-- ---- the disconnect of a hash

abbrev pub DisconnectsFor : ℕ → RunState → List ℕ → Outcome Tip BackRefusal → Type 0
DisconnectsFor most run hash = AnswersFor disconnects (HoldsBack (IsFullOf most run (Disconnect hash)) (chain_of run) hash) back_refusal_of (IsDone run (Disconnect hash)) run

abbrev pub Disconnects : ℕ → Stored → List ℕ → Outcome Tip BackRefusal → Type 0
Disconnects most old hash outcome = (run : RunState) → StandsFor old run → DisconnectsFor most run hash outcome

-- ---- a command of either kind

-- it comes to what a connect may come to, of which P holds
abbrev pub AnswersConnect : (Outcome Tip Refusal → Type 0) → Outcome Tip CommandRefusal → Type 0
AnswersConnect P (Done store tip) = P (Done store tip)
AnswersConnect P (Refused store (refused.Connect refusal)) = P (Refused store refusal)
AnswersConnect P (Refused store (refused.Disconnect refusal)) = ⊥
AnswersConnect P (NoMemory store) = P (NoMemory store)
AnswersConnect P Faulted = P Faulted

-- it comes to what a disconnect may come to, of which P holds
abbrev pub AnswersDisconnect : (Outcome Tip BackRefusal → Type 0) → Outcome Tip CommandRefusal → Type 0
AnswersDisconnect P (Done store tip) = P (Done store tip)
AnswersDisconnect P (Refused store (refused.Connect refusal)) = ⊥
AnswersDisconnect P (Refused store (refused.Disconnect refusal)) = P (Refused store refusal)
AnswersDisconnect P (NoMemory store) = P (NoMemory store)
AnswersDisconnect P Faulted = P Faulted

abbrev pub Executes : ℕ → Stored → ChainCommand → Outcome Tip CommandRefusal → Type 0
Executes most old (a_block bytes) outcome = AnswersConnect (Connects most old bytes.now) outcome
Executes most old (a_hash hash) outcome = AnswersDisconnect (Disconnects most old hash.0) outcome

-- the steps of a command that is accepted
abbrev pub IsCheapIfDone : Indexed → ChainCommand → Outcome Tip CommandRefusal → ℕ → ℕ → Type 0
IsCheapIfDone old command outcome before after = IfDone (λ store. IsCheap old (command_of command) store.index before after) outcome
