-- When a block has a refusal on a chain, and when it has none.
use Rattle.std.proofs.Common.{◌≡◌, ◌≢◌, ℕ, ◌<◌, ◌≤◌, List, Some, None, sym, ap, ◌∙◌, arith}
use Rattle.std.proofs.lemmas.Option.{none-some}
use Rattle.block_grammar.specs.Block.{Block, IsBlock}
use Rattle.block_grammar.specs.Merkle.{block_root}
use Rattle.block_grammar.specs.Fault.{IsFaultPlace}
use Rattle.chain_names.specs.declared.refusal.RuleRefusal.{RuleRefusal}
use Rattle.nmc_base.specs.Heights.{highest}
use Rattle.chain_commands.specs.Chain.{Chain, tip_hash, height_of}
use Rattle.chain_commands.specs.Connecting.{Refusal, BadBlock, NotOnTip, HeightLimit, MerkleMismatch, Rule, JournalFull, IsOffTip, HasOtherRoot, BreaksRule, refused_on, Holds, order_of, Refuses, IsValid, TakesMemory}
use Rattle.block_grammar.proofs.Statements.{same_block}

-- what is known of a block, as far as it was looked at
pub record IsOnTip (chain : Chain) (bytes : List ℕ) (block : Block) : Type 0 where
  pub is_block : IsBlock bytes block
  pub on_tip : block.header.fields.previous ≡ tip_hash chain

-- its height
pub record IsOn (chain : Chain) (bytes : List ℕ) (block : Block) : Type 0 where
  pub there : IsOnTip chain bytes block
  pub low : height_of chain < highest

-- its root
pub record IsRooted (chain : Chain) (bytes : List ℕ) (block : Block) : Type 0 where
  pub on : IsOn chain bytes block
  pub root : block.header.fields.root ≡ block_root block

-- and its transactions
pub record IsUnbroken (chain : Chain) (bytes : List ℕ) (block : Block) : Type 0 where
  pub rooted : IsRooted chain bytes block
  pub none : refused_on chain block ≡ None

module _ (full : Type 0) (chain : Chain) (bytes : List ℕ) where
  pub no_block_refused : (place : ℕ) → IsFaultPlace bytes place → Refuses full chain bytes (BadBlock place)
  no_block_refused place h = record { holds = h; first = λ other lt. absurd (omega arith) }

  module _ (b : Block) (is : IsBlock bytes b) where
    before_tip : (other : Refusal) → order_of other < 1 → Holds full chain bytes other → ⊥
    before_tip (BadBlock place) lt h = h.no_block b is
    before_tip (NotOnTip tip) lt h = absurd (omega arith)
    before_tip HeightLimit lt h = absurd (omega arith)
    before_tip (MerkleMismatch computed) lt h = absurd (omega arith)
    before_tip (Rule index refusal) lt h = absurd (omega arith)
    before_tip JournalFull lt h = absurd (omega arith)

    pub off_tip_refused : (tip : List ℕ) → tip ≡ tip_hash chain → b.header.fields.previous ≢ tip → Refuses full chain bytes (NotOnTip tip)
    off_tip_refused tip same off = record {
      holds = (record { block = b; is_block = is; off = λ e. off (e ∙ sym same) }, same);
      first = before_tip;
    }

  module _ (b : Block) (t : IsOnTip chain bytes b) where
    not_off : IsOffTip (tip_hash chain) bytes → ⊥
    not_off h = h.off (ap (λ (x : Block). x.header.fields.previous) (same_block bytes h.block b h.is_block t.is_block) ∙ t.on_tip)

    before_height : (other : Refusal) → order_of other < 2 → Holds full chain bytes other → ⊥
    before_height (BadBlock place) lt h = h.no_block b t.is_block
    before_height (NotOnTip tip) lt h = not_off h.0
    before_height HeightLimit lt h = absurd (omega arith)
    before_height (MerkleMismatch computed) lt h = absurd (omega arith)
    before_height (Rule index refusal) lt h = absurd (omega arith)
    before_height JournalFull lt h = absurd (omega arith)

    pub too_high : highest ≤ height_of chain → Refuses full chain bytes HeightLimit
    too_high high = record { holds = high; first = before_height }

  module _ (b : Block) (on : IsOn chain bytes b) where
    before_root : (other : Refusal) → order_of other < 3 → Holds full chain bytes other → ⊥
    before_root (BadBlock place) lt h = h.no_block b on.there.is_block
    before_root (NotOnTip tip) lt h = not_off b on.there h.0
    before_root HeightLimit lt h = omega (arith, on.low)
    before_root (MerkleMismatch computed) lt h = absurd (omega arith)
    before_root (Rule index refusal) lt h = absurd (omega arith)
    before_root JournalFull lt h = absurd (omega arith)

    pub memory_taken : TakesMemory full chain bytes
    memory_taken = record { none = before_root }

    pub root_refused : (computed : List ℕ) → computed ≡ block_root b → b.header.fields.root ≢ computed → Refuses full chain bytes (MerkleMismatch computed)
    root_refused computed same other = record {
      holds = record { block = b; is_block = on.there.is_block; other = λ e. other (e ∙ sym same); computed_is = same };
      first = before_root;
    }

  module _ (b : Block) (r : IsRooted chain bytes b) where
    no_other_root : (computed : List ℕ) → HasOtherRoot bytes computed → ⊥
    no_other_root computed h =
        let e = same_block bytes b h.block r.on.there.is_block h.is_block in
        h.other (ap (λ (x : Block). x.header.fields.root) (sym e) ∙ r.root ∙ ap block_root e)

    before_names : (other : Refusal) → order_of other < 4 → Holds full chain bytes other → ⊥
    before_names (BadBlock place) lt h = h.no_block b r.on.there.is_block
    before_names (NotOnTip tip) lt h = not_off b r.on.there h.0
    before_names HeightLimit lt h = omega (arith, r.on.low)
    before_names (MerkleMismatch computed) lt h = no_other_root computed h
    before_names (Rule index refusal) lt h = absurd (omega arith)
    before_names JournalFull lt h = absurd (omega arith)

    pub rule_broken : (index : ℕ) (refusal : RuleRefusal) → refused_on chain b ≡ Some (index, refusal) → Refuses full chain bytes (Rule index refusal)
    rule_broken index refusal broken = record {
      holds = record { block = b; is_block = r.on.there.is_block; refused = broken };
      first = before_names;
    }

  module _ (b : Block) (u : IsUnbroken chain bytes b) where
    none_broken : (index : ℕ) (refusal : RuleRefusal) → BreaksRule chain bytes index refusal → ⊥
    none_broken index refusal h =
        none-some (index, refusal) (sym u.none ∙ ap (refused_on chain) (same_block bytes b h.block u.rooted.on.there.is_block h.is_block) ∙ h.refused)

    before_journal : (other : Refusal) → order_of other < 5 → Holds full chain bytes other → ⊥
    before_journal (BadBlock place) lt h = h.no_block b u.rooted.on.there.is_block
    before_journal (NotOnTip tip) lt h = not_off b u.rooted.on.there h.0
    before_journal HeightLimit lt h = omega (arith, u.rooted.on.low)
    before_journal (MerkleMismatch computed) lt h = no_other_root b u.rooted computed h
    before_journal (Rule index refusal) lt h = none_broken index refusal h
    before_journal JournalFull lt h = absurd (omega arith)

    pub full_refused : full → Refuses full chain bytes JournalFull
    full_refused h = record { holds = h; first = before_journal }

    none_at_all : (full → ⊥) → (other : Refusal) → Holds full chain bytes other → ⊥
    none_at_all fits (BadBlock place) h = before_journal (BadBlock place) (omega arith) h
    none_at_all fits (NotOnTip tip) h = before_journal (NotOnTip tip) (omega arith) h
    none_at_all fits HeightLimit h = before_journal HeightLimit (omega arith) h
    none_at_all fits (MerkleMismatch computed) h = before_journal (MerkleMismatch computed) (omega arith) h
    none_at_all fits (Rule index refusal) h = before_journal (Rule index refusal) (omega arith) h
    none_at_all fits JournalFull h = fits h

    pub is_valid : (full → ⊥) → IsValid full chain bytes
    is_valid fits = record { none = λ other lt h. none_at_all fits other h }
