-- What the index says of the disconnect of a hash is so on each chain that it stands for.
use Rattle.std.proofs.Common.{◌≢◌, ℕ, List, [], ◌∷◌, drop, refl, sym, ◌∙◌}
use Rattle.nmc_base.specs.declared.hashes.Hash32.{Hash32}
use Rattle.chain_state.specs.Chain.{Indexed, SameIndex}
use Rattle.chain_state.specs.StageBack.{IsStagedBackOn, IsBackRefusal, IsDisconnected}
use Rattle.chain_state.specs.declared.back.BackRefusal.{BackRefusal}
use Rattle.chain_state.specs.declared.back.BackRefusal.TheVariants.{AtBase, NotTip, JournalFull}
use Rattle.chain_state.specs.declared.back.BackOutcome.{BackOutcome}
use Rattle.chain_state.specs.declared.back.BackOutcome.TheVariants.{StagedBack, Refused as back_refused, NoMemory as back_memory}
use Rattle.chain_state.specs.Standing.{StandsForChain}
use Rattle.chain_state.specs.Refusals.{RefusesDisconnect, MayDisconnect}
use Rattle.chain_commands.specs.Chain.{Chain}
use Rattle.chain_commands.specs.Event.{Disconnect}
use Rattle.chain_commands.specs.Disconnecting.{RefusesBack, disconnects as disconnect_refusals}
use Rattle.index_commands.specs.Standing.{StandsFor}
use Rattle.index_commands.specs.Views.{back_refusal_of}
use Rattle.index_commands.specs.Stages.{IsFullWith, HoldsBackIn, IsRefusedFor, LacksMemoryFor, StagesBackFor}
use Rattle.index_commands.specs.ByIndex.{MayLose, RefusesHash, StagesBackOn}
use Rattle.index_commands.proofs.ChainTips.{chain_tip}
use Rattle.index_commands.proofs.TakenLemmas.{same_self}
use Rattle.chain_commands.proofs.DisconnectRefusals.{IsOwnTip, at_base_refused, not_tip_refused, memory_taken, full_refused, is_valid_back}
use Rattle.chain_state.proofs.StandingLemmas.{same_stands, same_after, disconnects}
use Rattle.chain_state.proofs.RefusalLemmas.{back_by_chain, may_disconnect}

-- an index that stands for a chain, the hash whose block is to go, and the length of the journal's area with the most that it may have
pub record StagingBack : Type 0 where
  pub area : ℕ
  pub most : ℕ
  pub index : Indexed
  pub chain : Chain
  pub hash : Hash32
  pub stands : StandsFor index chain

abbrev pub IfStagedHash : Type 0 → BackOutcome → Type 0
IfStagedHash P (StagedBack s) = P
IfStagedHash P (back_refused same refusal) = Unit {0}
IfStagedHash P (back_memory same) = Unit {0}

module _ (g : StagingBack) where
  abbrev IsFull : Type 0
  IsFull = IsFullWith g.area g.most (Disconnect g.hash.0)

  abbrev IsRefusedBy : BackRefusal → Indexed → Type 0
  IsRefusedBy refusal same = IsRefusedFor disconnect_refusals (HoldsBackIn g.area g.most g.chain g.hash.0) g.chain (back_refusal_of refusal) same

  refuses : (refusal : BackRefusal) → RefusesDisconnect g.chain.base g.chain.blocks g.hash refusal → RefusesBack IsFull g.chain g.hash.0 (back_refusal_of refusal)
  refuses AtBase h = at_base_refused IsFull g.chain g.hash.0 h
  refuses (NotTip tip) h =
      not_tip_refused IsFull g.chain g.hash.0 h.0 tip.0 (λ e. h.1 (e ∙ sym (chain_tip g.index g.chain g.stands))) (h.2 ∙ chain_tip g.index g.chain g.stands)
  refuses JournalFull h = absurd h

  own_tip : MayDisconnect g.chain.base g.chain.blocks g.hash → IsOwnTip g.chain g.hash.0
  own_tip may = record { some = may.some; own = may.hash_is ∙ chain_tip g.index g.chain g.stands }

  stays : (same : Indexed) → SameIndex same g.index → StandsFor same g.chain
  stays same alike = same_stands g.chain.base g.chain.start g.chain.blocks g.index same g.stands alike

  refused : (same : Indexed) (refusal : BackRefusal) → SameIndex same g.index → IsBackRefusal g.index g.hash refusal → IsRefusedBy refusal same
  refused same refusal alike h = record {
    refuses = refuses refusal (back_by_chain g.chain.base g.chain.start g.chain.blocks g.index g.stands g.hash refusal h);
    stands = stays same alike;
  }

  lacking : (same : Indexed) → SameIndex same g.index → MayDisconnect g.chain.base g.chain.blocks g.hash → LacksMemoryFor disconnect_refusals (HoldsBackIn g.area g.most g.chain g.hash.0) g.chain same
  lacking same alike may = record {
    takes_memory = memory_taken IsFull g.chain g.hash.0 (own_tip may);
    stands = stays same alike;
  }

  module _ (staged : Indexed) (on : IsStagedBackOn g.index g.hash staged) where
    may : MayDisconnect g.chain.base g.chain.blocks g.hash
    may = may_disconnect g.chain.base g.chain.start g.chain.blocks g.index g.stands g.hash staged on

    stands_below : (blocks : List (List ℕ)) → blocks ≢ [] → StandsForChain g.chain.base g.chain.start blocks g.index → (new : Indexed) → IsDisconnected staged new
        → StandsForChain g.chain.base g.chain.start (drop 1 blocks) new
    stands_below [] some t new gone = absurd (some refl)
    stands_below (block ∷ blocks) some t new gone = disconnects g.index new (record { staged = staged; hash = g.hash; on = on; gone = gone }) g.chain.base g.chain.start block blocks t

    abandoned : (same : Indexed) → SameIndex same staged → StandsFor same g.chain
    abandoned same alike = stays same (same_after same staged g.index alike on.same)

    staged_for : (IsFull → ⊥) → StagesBackFor g.area g.most g.chain g.hash.0 (StagedBack staged)
    staged_for fits = record {
      valid = is_valid_back IsFull g.chain g.hash.0 (own_tip may) fits;
      commits = stands_below g.chain.blocks may.some g.stands;
      abandons = abandoned;
    }

    full_for : (same : Indexed) → SameIndex same staged → IsFull → IsRefusedBy JournalFull same
    full_for same alike full = record {
      refuses = full_refused IsFull g.chain g.hash.0 (own_tip may) full;
      stands = abandoned same alike;
    }

  -- ---- each outcome by the index

  -- the hash is that of the newest block, which the chain has
  is_own : IsStagedBackOn g.index g.hash g.index → (same : Indexed) → SameIndex same g.index → LacksMemoryFor disconnect_refusals (HoldsBackIn g.area g.most g.chain g.hash.0) g.chain same
  is_own on same alike = lacking same alike (may g.index on)

  on_itself : (same : Indexed) → MayLose g.index g.hash same → IsStagedBackOn g.index g.hash g.index
  on_itself same h = record { above = h.above; hash_is = h.hash_is; same = same_self g.index }

  refused_hash : (refusal : BackRefusal) (same : Indexed) → RefusesHash IsFull g.index g.hash refusal same → IsRefusedBy refusal same
  refused_hash AtBase same h = refused same AtBase h.1 h.0
  refused_hash (NotTip tip) same h = refused same (NotTip tip) h.1 h.0
  refused_hash JournalFull same h = full_for g.index (on_itself same h.1) same h.1.stays h.0

  pub stages_hash : (outcome : BackOutcome) → StagesBackOn IsFull g.index g.hash outcome → IfStagedHash (IsFull → ⊥) outcome → StagesBackFor g.area g.most g.chain g.hash.0 outcome
  stages_hash (StagedBack s) on fits = staged_for s (record { above = on.above; hash_is = on.hash_is; same = on.stays }) fits
  stages_hash (back_refused same refusal) h fits = refused_hash refusal same h
  stages_hash (back_memory same) h fits = is_own (on_itself same h) same h.stays
