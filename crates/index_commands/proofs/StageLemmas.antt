-- What the index says of a block's bytes is so on each chain that it stands for.
use Rattle.std.proofs.Common.{◌≡◌, ℕ, ◌<◌, ◌≤◌, List, length, sym, ◌∙◌, arith}
use Rattle.block_grammar.specs.Block.{Block, IsBlock}
use Rattle.nmc_base.specs.Heights.{highest}
use Rattle.nmc_base.specs.declared.limits.TheConstants.{LONGEST_BLOCK}
use Rattle.chain_state.specs.Chain.{Indexed, SameIndex, StagedIndex, IsStagedOn, IsAbandoned}
use Rattle.chain_state.specs.Stage.{IsRefusal}
use Rattle.chain_state.specs.declared.stage.Refusal.{Refusal}
use Rattle.chain_state.specs.declared.stage.Refusal.TheVariants.{BadBlock, NotOnTip, HeightLimit, MerkleMismatch, Rule, JournalFull}
use Rattle.chain_state.specs.declared.stage.StageOutcome.{StageOutcome}
use Rattle.chain_state.specs.declared.stage.StageOutcome.TheVariants.{Staged, Refused, NoMemory}
use Rattle.chain_state.specs.Standing.{hash_of, IsValidOn}
use Rattle.chain_state.specs.Refusals.{RefusesConnect}
use Rattle.chain_commands.specs.Chain.{Chain}
use Rattle.chain_commands.specs.Event.{Connect}
use Rattle.chain_commands.specs.Connecting.{IsValid, Refuses, connects as connect_refusals}
use Rattle.index_commands.specs.Standing.{StandsFor}
use Rattle.index_commands.specs.Views.{refusal_of}
use Rattle.index_commands.specs.Stages.{IsFullWith, HoldsIn, IsRefusedFor, LacksMemoryFor, StagesFor}
use Rattle.index_commands.specs.ByIndex.{RefusesBlock, RefusesBytes, StagesOn}
use Rattle.index_commands.proofs.ChainTips.{chain_tip, index_tip, rule_of_bytes}
use Rattle.chain_commands.proofs.ConnectRefusals.{IsOnTip, IsUnbroken, no_block_refused, off_tip_refused, too_high, memory_taken, root_refused, rule_broken, full_refused, is_valid}
use Rattle.chain_state.proofs.StandingLemmas.{same_stands, valid_next, connects, abandoned_same}
use Rattle.chain_state.proofs.RefusalLemmas.{refuses_by_chain}

-- an index that stands for a chain, the bytes of a block on it, and the length of the journal's area with the most that it may have
pub record Staging : Type 0 where
  pub area : ℕ
  pub most : ℕ
  pub index : Indexed
  pub chain : Chain
  pub bytes : List ℕ
  pub stands : StandsFor index chain

abbrev pub IfStagedBlock : Type 0 → StageOutcome → Type 0
IfStagedBlock P (Staged s) = P
IfStagedBlock P (Refused same refusal) = Unit {0}
IfStagedBlock P (NoMemory same) = Unit {0}

-- the bytes are a block
record HasBlock (g : Staging) : Type 0 where
  block : Block
  is_block : IsBlock g.bytes block
  short : length g.bytes ≤ LONGEST_BLOCK

module _ (g : Staging) where
  abbrev IsFull : Type 0
  IsFull = IsFullWith g.area g.most (Connect g.bytes)

  abbrev IsRefusedBy : Refusal → Indexed → Type 0
  IsRefusedBy refusal same = IsRefusedFor connect_refusals (HoldsIn g.area g.most g.chain g.bytes) g.chain (refusal_of refusal) same

  -- ---- a valid block

  module _ (v : IsValidOn g.chain.base g.chain.start g.chain.blocks g.bytes) where
    unbroken : IsUnbroken g.chain g.bytes v.block
    unbroken = record {
      rooted = record { on = record { there = record { is_block = v.is_block; on_tip = v.on_tip ∙ chain_tip g.index g.chain g.stands }; low = v.low }; root = v.root };
      none = sym (rule_of_bytes g.chain g.bytes v.block v.is_block) ∙ v.unrefused;
    }

    valid_staged : (IsFull → ⊥) → IsValid IsFull g.chain g.bytes
    valid_staged fits = is_valid IsFull g.chain g.bytes v.block unbroken fits

    full_journal : IsFull → Refuses IsFull g.chain g.bytes (refusal_of JournalFull)
    full_journal full = full_refused IsFull g.chain g.bytes v.block unbroken full

  stays : (same : Indexed) → SameIndex same g.index → StandsFor same g.chain
  stays same alike = same_stands g.chain.base g.chain.start g.chain.blocks g.index same g.stands alike

  module _ (k : HasBlock g) where
    there : k.block.header.fields.previous ≡ hash_of g.chain.base g.chain.blocks → IsOnTip g.chain g.bytes k.block
    there on = record { is_block = k.is_block; on_tip = on ∙ chain_tip g.index g.chain g.stands }

    refuses : (refusal : Refusal) → RefusesConnect g.chain.base g.chain.start g.chain.blocks g.bytes k.block refusal → Refuses IsFull g.chain g.bytes (refusal_of refusal)
    refuses (BadBlock at) h = absurd h
    refuses (NotOnTip tip) h = off_tip_refused IsFull g.chain g.bytes k.block k.is_block tip.0 (h.1 ∙ chain_tip g.index g.chain g.stands) (λ e. h.0 (e ∙ h.1))
    refuses HeightLimit h = too_high IsFull g.chain g.bytes k.block (there h.0) h.1
    refuses (MerkleMismatch computed) h = root_refused IsFull g.chain g.bytes k.block (record { there = there h.0; low = h.1 }) computed.0 h.3 h.2
    refuses (Rule index refusal) h =
        rule_broken IsFull g.chain g.bytes k.block (record { on = record { there = there h.0; low = h.1 }; root = h.2 })
        index refusal (sym (rule_of_bytes g.chain g.bytes k.block k.is_block) ∙ h.3)
    refuses JournalFull h = absurd h

    refused : (same : Indexed) (refusal : Refusal) → SameIndex same g.index → IsRefusal g.index k.block refusal → IsRefusedBy refusal same
    refused same refusal alike h = record {
      refuses = refuses refusal (refuses_by_chain g.chain.base g.chain.start g.chain.blocks g.index g.stands g.bytes k.block k.is_block refusal h);
      stands = stays same alike;
    }

    lacking : (same : Indexed) → SameIndex same g.index → k.block.header.fields.previous ≡ g.index.tip.hash.0 → g.index.tip.height < highest → LacksMemoryFor connect_refusals (HoldsIn g.area g.most g.chain g.bytes) g.chain same
    lacking same alike on low = record {
      takes_memory = memory_taken IsFull g.chain g.bytes k.block
          (record { there = record { is_block = k.is_block; on_tip = on ∙ index_tip g.index g.chain g.stands }; low = omega (arith, low, g.stands.height) });
      stands = stays same alike;
    }

    module _ (staged : StagedIndex) (on : IsStagedOn g.index k.block staged) where
      valid_on : IsValidOn g.chain.base g.chain.start g.chain.blocks g.bytes
      valid_on = valid_next g.chain.base g.chain.start g.chain.blocks g.bytes g.index staged (record { stands = g.stands; block = k.block; is_block = k.is_block; short = k.short; on = on })

      abandoned_stands : (same : Indexed) → IsAbandoned staged same → StandsFor same g.chain
      abandoned_stands same abandoned =
          stays same (abandoned_same g.index same k.block staged on abandoned)

      staged_for : (IsFull → ⊥) → StagesFor g.area g.most g.chain g.bytes (Staged staged)
      staged_for fits = record {
        valid = valid_staged valid_on fits;
        commits = λ new connected. connects g.chain.base g.chain.start g.chain.blocks g.bytes g.index staged (record { stands = g.stands; block = k.block; is_block = k.is_block; short = k.short; on = on }) new connected;
        abandons = abandoned_stands;
      }

      full_for : (same : Indexed) → IsAbandoned staged same → IsFull → IsRefusedBy JournalFull same
      full_for same abandoned full = record {
        refuses = full_journal valid_on full;
        stands = abandoned_stands same abandoned;
      }

  -- ---- each outcome by the index

  module _ (short : length g.bytes ≤ LONGEST_BLOCK) where
    abbrev spelled : (block : Block) → IsBlock g.bytes block → HasBlock g
    spelled block is = record { block = block; is_block = is; short = short }

    refused_block : (refusal : Refusal) (same : Indexed) → RefusesBlock g.index g.bytes refusal same → IsRefusedBy refusal same
    refused_block refusal same h = refused (spelled h.block h.is_block) same refusal h.stays h.refuses

    refused_bytes : (refusal : Refusal) (same : Indexed) → RefusesBytes IsFull g.index g.bytes refusal same → IsRefusedBy refusal same
    refused_bytes (BadBlock place) same h = record { refuses = no_block_refused IsFull g.chain g.bytes place h.0; stands = stays same h.1 }
    refused_bytes (NotOnTip tip) same h = refused_block (NotOnTip tip) same h
    refused_bytes HeightLimit same h = refused_block HeightLimit same h
    refused_bytes (MerkleMismatch computed) same h = refused_block (MerkleMismatch computed) same h
    refused_bytes (Rule tx refusal) same h = refused_block (Rule tx refusal) same h
    refused_bytes JournalFull same h = full_for (spelled h.takes.block h.takes.is_block) h.staged h.takes.on same h.stays h.is_full

    pub stages_bytes : (outcome : StageOutcome) → StagesOn IsFull g.index g.bytes outcome → IfStagedBlock (IsFull → ⊥) outcome → StagesFor g.area g.most g.chain g.bytes outcome
    stages_bytes (Staged s) on fits = staged_for (spelled on.block on.is_block) s on.on fits
    stages_bytes (Refused same refusal) h fits = refused_bytes refusal same h
    stages_bytes (NoMemory same) h fits = lacking (spelled h.block h.is_block) same h.stays h.on_tip h.low
