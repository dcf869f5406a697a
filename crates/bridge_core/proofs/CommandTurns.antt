-- A turn of a bridge by what came of a command in its store.
use Rattle.std.proofs.Common.{◌≡◌, List, ℕ}
use Rattle.nmc_base.specs.declared.chain_ends.Tip.{Tip}
use Rattle.disk_model.specs.Changes.{LeavesOthers}
use Rattle.chain_state.specs.declared.stage.Refusal as stage
use Rattle.chain_state.specs.declared.back.BackRefusal as back
use Rattle.chain_commands.specs.Connecting.{Refusal, Holds, connects}
use Rattle.chain_commands.specs.Disconnecting.{BackRefusal, HoldsBack, disconnects}
use Rattle.chain_commands.specs.Event.{Connect, Disconnect, Do}
use Rattle.chain_commands.specs.Reply.{no_memory_reply}
use Rattle.chain_commands.specs.RunState.{RunState, chain_of, IsFull, longest_area}
use Rattle.index_commands.specs.Views.{refusal_of, back_refusal_of, command_of}
use Rattle.index_commands.specs.declared.command.ChainCommand.{ChainCommand}
use Rattle.index_commands.specs.declared.command.ChainCommand.TheVariants.{Connect as Block, Disconnect as Hash}
use Rattle.index_commands.specs.declared.staged.CommandRefusal.{CommandRefusal}
use Rattle.index_commands.specs.declared.staged.CommandRefusal.TheVariants as refused
use Rattle.kept_answers.specs.Answering.{outdated}
use Rattle.name_store.specs.Executing.{Executes}
use Rattle.name_store.specs.Outcomes as store
use Rattle.name_store.specs.Outcomes.{Adds, IfUndone, KeepsOn}
use Rattle.name_store.specs.Stored.{area_file}
use Rattle.name_store.specs.declared.store.Outcome.{Outcome}
use Rattle.name_store.specs.declared.store.Outcome.TheVariants.{Done, Refused, NoMemory, Faulted}
use Rattle.bridge_core.specs.Bridge.{AnswersEvent, fault_reply}
use Rattle.bridge_core.specs.Bridged.{Bridged}
use Rattle.bridge_core.specs.CommandReply.{command_reply}
use Rattle.bridge_core.specs.declared.bridge.Turned.{Turned}
use Rattle.bridge_core.specs.declared.bridge.Turned.TheVariants.{On, Ended}
use Rattle.bridge_core.proofs.CodeLemmas.{command_undone}
use Rattle.bridge_core.proofs.TurnLemmas.{Request, IsKind, Turn, a_command, is_command, told_tip, request_done, request_refused, request_lacking, request_faulted}

-- ---- the commands as requests, and how their refusals are looked for

abbrev looks : List ℕ → RunState → Refusal → Type 0
looks bytes run = Holds (IsFull run (Connect bytes)) (chain_of run) bytes

abbrev looks_back : List ℕ → RunState → BackRefusal → Type 0
looks_back bytes run = HoldsBack (IsFull run (Disconnect bytes)) (chain_of run) bytes

abbrev a_block : List ℕ → Request Tip stage.Refusal Refusal
a_block bytes = a_command connects (looks bytes) refusal_of (Connect bytes)

abbrev a_hash : List ℕ → Request Tip back.BackRefusal BackRefusal
a_hash bytes = a_command disconnects (looks_back bytes) back_refusal_of (Disconnect bytes)

is_block : (bytes : List ℕ) → IsKind (a_block bytes)
is_block bytes = is_command connects (looks bytes) refusal_of (Connect bytes) (λ run reply new answers. answers) (λ run none. none)

is_hash : (bytes : List ℕ) → IsKind (a_hash bytes)
is_hash bytes = is_command disconnects (looks_back bytes) back_refusal_of (Disconnect bytes) (λ run reply new answers. answers) (λ run none. none)

module _ {D : Type 0} (t : Turn D) (command : ChainCommand) where
  -- what the store's call says
  pub record Executed (outcome : Outcome Tip CommandRefusal) : Type 0 where
    pub executes : Executes longest_area t.old.store command outcome
    pub undone : IfUndone (t.after ≡ t.before) outcome
    pub leaves : store.LeavesDisk t.tells (LeavesOthers (area_file t.old.store)) (t.seen t.before) (t.seen t.after) outcome
    pub kept : KeepsOn t.tells t.old.store (Adds (command_of command)) (t.seen t.before) (t.seen t.after) outcome

  abbrev pub Answered : Turned → Type 0
  Answered turned = AnswersEvent t.tells t.seen t.old t.before (Do (command_of command)) t.reply turned t.after

pub command_done : {D : Type 0} (t : Turn D) (command : ChainCommand) (new : Bridged) (tip : Tip) → Executed t command (Done new.store tip) → t.reply ≡ told_tip tip
    → new.answers ≡ outdated t.old.answers → Answered t command (On new)
command_done t (Block bytes) new tip did = request_done t (a_block bytes.now) (is_block bytes.now) new tip (record { answers = did.executes; undone = did.undone; leaves = did.leaves; kept = did.kept })
command_done t (Hash hash) new tip did = request_done t (a_hash hash.0) (is_hash hash.0) new tip (record { answers = did.executes; undone = did.undone; leaves = did.leaves; kept = did.kept })

pub command_refused : {D : Type 0} (t : Turn D) (command : ChainCommand) (new : Bridged) (refusal : CommandRefusal) → Executed t command (Refused new.store refusal) → t.reply ≡ command_reply refusal
    → new.answers ≡ t.old.answers → Answered t command (On new)
command_refused t (Block bytes) new (refused.Connect refusal) did told =
    request_refused t (a_block bytes.now) (is_block bytes.now) new refusal (refused.Connect refusal) (record { answers = did.executes; undone = did.undone; leaves = did.leaves; kept = did.kept })
    told (command_undone t.reply (refused.Connect refusal) told)
command_refused t (Block bytes) new (refused.Disconnect refusal) did told = absurd did.executes
command_refused t (Hash hash) new (refused.Connect refusal) did told = absurd did.executes
command_refused t (Hash hash) new (refused.Disconnect refusal) did told =
    request_refused t (a_hash hash.0) (is_hash hash.0) new refusal (refused.Disconnect refusal) (record { answers = did.executes; undone = did.undone; leaves = did.leaves; kept = did.kept })
    told (command_undone t.reply (refused.Disconnect refusal) told)

pub command_lacking : {D : Type 0} (t : Turn D) (command : ChainCommand) (new : Bridged) → Executed t command (NoMemory new.store) → t.reply ≡ no_memory_reply → new.answers ≡ t.old.answers
    → Answered t command (On new)
command_lacking t (Block bytes) new did = request_lacking t (a_block bytes.now) (is_block bytes.now) new (record { answers = did.executes; undone = did.undone; leaves = did.leaves; kept = did.kept })
command_lacking t (Hash hash) new did = request_lacking t (a_hash hash.0) (is_hash hash.0) new (record { answers = did.executes; undone = did.undone; leaves = did.leaves; kept = did.kept })

pub command_faulted : {D : Type 0} (t : Turn D) (command : ChainCommand) → Executed t command Faulted → t.reply ≡ fault_reply → Answered t command Ended
command_faulted t (Block bytes) did = request_faulted t (a_block bytes.now) (is_block bytes.now) (record { answers = did.executes; undone = did.undone; leaves = did.leaves; kept = did.kept })
command_faulted t (Hash hash) did = request_faulted t (a_hash hash.0) (is_hash hash.0) (record { answers = did.executes; undone = did.undone; leaves = did.leaves; kept = did.kept })
