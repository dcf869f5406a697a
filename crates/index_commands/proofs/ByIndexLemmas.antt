-- What the index says of a command that is staged on it, and that its base stays.
use Rattle.std.proofs.Common.{◌≡◌, ◌+◌, ◌≤◌, List, ℕ, ◌∙◌, sym, subst, ap, arith}
use Rattle.block_grammar.specs.Block.{Block, IsBlock}
use Rattle.nmc_base.specs.declared.hashes.Hash32.{Hash32}
use Rattle.chain_state.specs.Chain.{Indexed, SameIndex}
use Rattle.chain_state.specs.Stage.{IsRefusal, Stages}
use Rattle.chain_state.specs.StageBack.{IsBackRefusal, StagesBack}
use Rattle.chain_state.specs.declared.stage.Refusal.{Refusal}
use Rattle.chain_state.specs.declared.stage.Refusal.TheVariants.{BadBlock, NotOnTip, HeightLimit, MerkleMismatch, Rule, JournalFull}
use Rattle.chain_state.specs.declared.stage.StageOutcome.{StageOutcome}
use Rattle.chain_state.specs.declared.stage.StageOutcome.TheVariants.{Staged, Refused, NoMemory}
use Rattle.chain_state.specs.declared.back.BackRefusal.{BackRefusal}
use Rattle.chain_state.specs.declared.back.BackRefusal.TheVariants as back
use Rattle.chain_state.specs.declared.back.BackOutcome.{BackOutcome}
use Rattle.chain_state.specs.declared.back.BackOutcome.TheVariants.{StagedBack, Refused as back_refused, NoMemory as back_memory}
use Rattle.chain_state.proofs.StandingLemmas.{same_after}
use Rattle.index_commands.specs.ByIndex.{RefusesBytes, RefusesHash, StagesOn, StagesBackOn, StagesCommandOn}
use Rattle.index_commands.specs.Costs.{IsCheapStage, IsCheap, newest_expired}
use Rattle.index_commands.specs.GivenUp.{GivesUp}
use Rattle.index_commands.specs.Records.{HasSize}
use Rattle.index_commands.specs.Staged.{CommitsStaged, OfConnect, OfDisconnect, steps_of_commit}
use Rattle.index_commands.specs.Taking.{TakesCommand}
use Rattle.index_commands.specs.Views.{command_of}
use Rattle.index_commands.specs.declared.command.ChainCommand.{ChainCommand}
use Rattle.index_commands.specs.declared.command.ChainCommand.TheVariants.{Connect as a_block, Disconnect as a_hash}
use Rattle.index_commands.specs.declared.staged.StagedCommand.{StagedCommand}
use Rattle.index_commands.specs.declared.staged.StagedCommand.TheVariants as staged
use Rattle.index_commands.specs.declared.staged.CommandRefusal.{CommandRefusal}
use Rattle.index_commands.specs.declared.staged.CommandRefusal.TheVariants as refused
use Rattle.index_commands.specs.declared.staged.CommandOutcome.{CommandOutcome}
use Rattle.index_commands.specs.declared.staged.CommandOutcome.TheVariants as outcome
use Rattle.index_commands.proofs.TakenLemmas.{disconnected_from}

module _ (full : Type 0) (index : Indexed) (bytes : List ℕ) where
  refuses_bytes : (block : Block) → IsBlock bytes block → (refusal : Refusal) (same : Indexed) → SameIndex same index → IsRefusal index block refusal → RefusesBytes full index bytes refusal same
  refuses_bytes block is (BadBlock at) same stays h = absurd h
  refuses_bytes block is (NotOnTip tip) same stays h = record { block = block; is_block = is; refuses = h; stays = stays }
  refuses_bytes block is HeightLimit same stays h = record { block = block; is_block = is; refuses = h; stays = stays }
  refuses_bytes block is (MerkleMismatch computed) same stays h = record { block = block; is_block = is; refuses = h; stays = stays }
  refuses_bytes block is (Rule tx refusal) same stays h = record { block = block; is_block = is; refuses = h; stays = stays }
  refuses_bytes block is JournalFull same stays h = absurd h

  pub staged_on : (block : Block) → IsBlock bytes block → (outcome : StageOutcome) → Stages index block outcome → StagesOn full index bytes outcome
  staged_on block is (Staged s) on = record { block = block; is_block = is; on = on }
  staged_on block is (Refused same refusal) h = refuses_bytes block is refusal same h.0 h.1
  staged_on block is (NoMemory same) h = record { block = block; is_block = is; on_tip = h.1; low = h.2; stays = h.0 }

  refused_base : (refusal : Refusal) (same : Indexed) → RefusesBytes full index bytes refusal same → same.base ≡ index.base
  refused_base (BadBlock at) same h = h.1.base
  refused_base (NotOnTip tip) same h = h.stays.base
  refused_base HeightLimit same h = h.stays.base
  refused_base (MerkleMismatch computed) same h = h.stays.base
  refused_base (Rule tx refusal) same h = h.stays.base
  refused_base JournalFull same h = h.stays.base ∙ h.takes.on.base

module _ (full : Type 0) (index : Indexed) (hash : Hash32) where
  refuses_hash : (refusal : BackRefusal) (same : Indexed) → SameIndex same index → IsBackRefusal index hash refusal → RefusesHash full index hash refusal same
  refuses_hash back.AtBase same stays h = (h, stays)
  refuses_hash (back.NotTip tip) same stays h = (h, stays)
  refuses_hash back.JournalFull same stays h = absurd h

  pub staged_back_on : (outcome : BackOutcome) → StagesBack index hash outcome → StagesBackOn full index hash outcome
  staged_back_on (StagedBack s) on = record { above = on.above; hash_is = on.hash_is; stays = on.same }
  staged_back_on (back_refused same refusal) h = refuses_hash refusal same h.0 h.1
  staged_back_on (back_memory same) h = record { above = h.1; hash_is = h.2; stays = h.0 }

  refused_hash_base : (refusal : BackRefusal) (same : Indexed) → RefusesHash full index hash refusal same → same.base ≡ index.base
  refused_hash_base back.AtBase same h = h.1.base
  refused_hash_base (back.NotTip tip) same h = h.1.base
  refused_hash_base back.JournalFull same h = h.1.stays.base

-- ---- an outcome as that of a command

pub of_connect : (P : StageOutcome → Type 0) (of : StageOutcome) (result : CommandOutcome) → OfConnect (λ same. same ≡ of) result → P of → OfConnect P result
of_connect P of (outcome.Staged (staged.Connect s)) same p = subst P (sym same) p
of_connect P of (outcome.Staged (staged.Disconnect s)) same p = same
of_connect P of (outcome.Refused chain (refused.Connect refusal)) same p = subst P (sym same) p
of_connect P of (outcome.Refused chain (refused.Disconnect refusal)) same p = same
of_connect P of (outcome.NoMemory chain) same p = subst P (sym same) p

pub of_disconnect : (P : BackOutcome → Type 0) (of : BackOutcome) (result : CommandOutcome) → OfDisconnect (λ same. same ≡ of) result → P of → OfDisconnect P result
of_disconnect P of (outcome.Staged (staged.Connect s)) same p = same
of_disconnect P of (outcome.Staged (staged.Disconnect s)) same p = subst P (sym same) p
of_disconnect P of (outcome.Refused chain (refused.Connect refusal)) same p = same
of_disconnect P of (outcome.Refused chain (refused.Disconnect refusal)) same p = subst P (sym same) p
of_disconnect P of (outcome.NoMemory chain) same p = subst P (sym same) p

-- ---- in an area with room and in one without

module _ (full : Type 0) (index : Indexed) where
  roomy_bytes : (bytes : List ℕ) (refusal : Refusal) (same : Indexed) → RefusesBytes ⊥ index bytes refusal same → RefusesBytes full index bytes refusal same
  roomy_bytes bytes (BadBlock at) same h = h
  roomy_bytes bytes (NotOnTip tip) same h = h
  roomy_bytes bytes HeightLimit same h = h
  roomy_bytes bytes (MerkleMismatch computed) same h = h
  roomy_bytes bytes (Rule tx refusal) same h = h
  roomy_bytes bytes JournalFull same h = absurd h.is_full

  roomy_hash : (hash : Hash32) (refusal : BackRefusal) (same : Indexed) → RefusesHash ⊥ index hash refusal same → RefusesHash full index hash refusal same
  roomy_hash hash back.AtBase same h = h
  roomy_hash hash (back.NotTip tip) same h = h
  roomy_hash hash back.JournalFull same h = absurd h.0

  pub with_room : (command : ChainCommand) (result : CommandOutcome) → StagesCommandOn ⊥ index command result → StagesCommandOn full index command result
  with_room (a_block bytes) (outcome.Staged (staged.Connect s)) on = on
  with_room (a_block bytes) (outcome.Staged (staged.Disconnect s)) on = on
  with_room (a_block bytes) (outcome.Refused same (refused.Connect refusal)) on = roomy_bytes bytes.now refusal same on
  with_room (a_block bytes) (outcome.Refused same (refused.Disconnect refusal)) on = on
  with_room (a_block bytes) (outcome.NoMemory same) on = on
  with_room (a_hash hash) (outcome.Staged (staged.Connect s)) on = on
  with_room (a_hash hash) (outcome.Staged (staged.Disconnect s)) on = on
  with_room (a_hash hash) (outcome.Refused same (refused.Connect refusal)) on = on
  with_room (a_hash hash) (outcome.Refused same (refused.Disconnect refusal)) on = roomy_hash hash refusal same on
  with_room (a_hash hash) (outcome.NoMemory same) on = on

  pub without_room : full → (command : ChainCommand) (of result : CommandOutcome) → StagesCommandOn ⊥ index command of → GivesUp of result → StagesCommandOn full index command result
  without_room is_full (a_block bytes) (outcome.Staged (staged.Connect s)) result on gone = rw gone.is (record { staged = s; takes = on; is_full = is_full; stays = gone.abandoned })
  without_room is_full (a_block bytes) (outcome.Staged (staged.Disconnect s)) result on gone = absurd on
  without_room is_full (a_hash hash) (outcome.Staged (staged.Connect s)) result on gone = absurd on
  without_room is_full (a_hash hash) (outcome.Staged (staged.Disconnect s)) result on gone =
      rw gone.is (is_full, record { above = on.above; hash_is = on.hash_is; stays = same_after gone.same s index gone.abandoned on.stays })
  without_room is_full command (outcome.Refused same refusal) result on gone = rw gone (with_room command (outcome.Refused same refusal) on)
  without_room is_full command (outcome.NoMemory same) result on gone = rw gone (with_room command (outcome.NoMemory same) on)

-- what is refused, and what lacks memory, costs as it may
uncounted : (index : Indexed) (command : ChainCommand) (same : Indexed) (refusal : CommandRefusal) (before after : ℕ) → StagesCommandOn ⊥ index command (outcome.Refused same refusal)
    → IsCheapStage index command (outcome.Refused same refusal) before after
uncounted index (a_block bytes) same (refused.Connect refusal) before after on = tt
uncounted index (a_block bytes) same (refused.Disconnect refusal) before after on = on
uncounted index (a_hash hash) same (refused.Connect refusal) before after on = on
uncounted index (a_hash hash) same (refused.Disconnect refusal) before after on = tt

pub given_up_cheap : (index : Indexed) (command : ChainCommand) (of result : CommandOutcome) (before after : ℕ) → StagesCommandOn ⊥ index command of → GivesUp of result
    → IsCheapStage index command result before after
given_up_cheap index (a_block bytes) (outcome.Staged (staged.Connect s)) result before after on gone = rw gone.is tt
given_up_cheap index (a_block bytes) (outcome.Staged (staged.Disconnect s)) result before after on gone = absurd on
given_up_cheap index (a_hash hash) (outcome.Staged (staged.Connect s)) result before after on gone = absurd on
given_up_cheap index (a_hash hash) (outcome.Staged (staged.Disconnect s)) result before after on gone = rw gone.is tt
given_up_cheap index command (outcome.Refused same refusal) result before after on gone = rw gone (uncounted index command same refusal before after on)
given_up_cheap index (a_block bytes) (outcome.NoMemory same) result before after on gone = rw gone tt
given_up_cheap index (a_hash hash) (outcome.NoMemory same) result before after on gone = rw gone tt

-- ---- of each command

module _ (full : Type 0) (index : Indexed) where
  pub command_base : (command : ChainCommand) (refusal : CommandRefusal) (same : Indexed) → StagesCommandOn full index command (outcome.Refused same refusal) → same.base ≡ index.base
  command_base (a_block bytes) (refused.Connect refusal) same on = refused_base full index bytes.now refusal same on
  command_base (a_block bytes) (refused.Disconnect refusal) same on = absurd on
  command_base (a_hash hash) (refused.Connect refusal) same on = absurd on
  command_base (a_hash hash) (refused.Disconnect refusal) same on = refused_hash_base full index hash refusal same on

  pub lacking_base : (command : ChainCommand) (same : Indexed) → StagesCommandOn full index command (outcome.NoMemory same) → same.base ≡ index.base
  lacking_base (a_block bytes) same on = on.stays.base
  lacking_base (a_hash hash) same on = on.stays.base

  pub committed_base : (command : ChainCommand) (s : StagedCommand) (new : Indexed) → StagesCommandOn full index command (outcome.Staged s) → CommitsStaged s new → new.base ≡ index.base
  committed_base (a_block bytes) (staged.Connect s) new on done = done.base ∙ on.on.base
  committed_base (a_block bytes) (staged.Disconnect s) new on done = absurd on
  committed_base (a_hash hash) (staged.Connect s) new on done = absurd on
  committed_base (a_hash hash) (staged.Disconnect s) new on done = done.base ∙ on.stays.base

  pub takes_command : (command : ChainCommand) → HasSize (command_of command) → (s : StagedCommand) (new : Indexed) → StagesCommandOn full index command (outcome.Staged s)
      → CommitsStaged s new → TakesCommand index (command_of command) new
  takes_command (a_block bytes) size (staged.Connect s) new on done = record { short = size; staged = s; takes = on; connected = done }
  takes_command (a_block bytes) size (staged.Disconnect s) new on done = absurd on
  takes_command (a_hash hash) size (staged.Connect s) new on done = absurd on
  takes_command (a_hash hash) size (staged.Disconnect s) new on done = disconnected_from index s new hash on size done

-- the steps of a command that is accepted
pub cheap_command : (index : Indexed) (command : ChainCommand) (s : StagedCommand) (new : Indexed) (before mid after : ℕ) → IsCheapStage index command (outcome.Staged s) before mid → CommitsStaged s new
    → after ≤ mid + steps_of_commit s → IsCheap index (command_of command) new before after
cheap_command index (a_block bytes) (staged.Connect s) new before mid after cost done more = λ block is. omega (arith, cost block is, more, ap newest_expired done.undos)
cheap_command index (a_block bytes) (staged.Disconnect s) new before mid after cost done more = absurd cost
cheap_command index (a_hash hash) (staged.Connect s) new before mid after cost done more = absurd cost
cheap_command index (a_hash hash) (staged.Disconnect s) new before mid after cost done more = omega (arith, cost, more)
