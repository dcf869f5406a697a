-- When the disconnect of a hash has a refusal on a chain, and when it has none.
use Rattle.std.proofs.Common.{◌≡◌, ◌≢◌, ◌<◌, ℕ, List, [], arith}
use Rattle.chain_commands.specs.Chain.{Chain, tip_hash}
use Rattle.chain_commands.specs.Disconnecting.{BackRefusal, AtBase, NotTip, JournalFull, HoldsBack, back_order, RefusesBack, IsValidBack, TakesMemoryBack}

-- there is a block to take away, and the hash is the tip's
pub record IsOwnTip (chain : Chain) (hash : List ℕ) : Type 0 where
  pub some : chain.blocks ≢ []
  pub own : hash ≡ tip_hash chain

module _ (full : Type 0) (chain : Chain) (hash : List ℕ) where
  pub at_base_refused : chain.blocks ≡ [] → RefusesBack full chain hash AtBase
  at_base_refused none = record { holds = none; first = λ other lt. absurd (omega arith) }

  module _ (some : chain.blocks ≢ []) where
    before_tip : (other : BackRefusal) → back_order other < 1 → HoldsBack full chain hash other → ⊥
    before_tip AtBase lt h = some h
    before_tip (NotTip tip) lt h = absurd (omega arith)
    before_tip JournalFull lt h = absurd (omega arith)

    pub not_tip_refused : (tip : List ℕ) → hash ≢ tip_hash chain → tip ≡ tip_hash chain → RefusesBack full chain hash (NotTip tip)
    not_tip_refused tip other same = record { holds = (other, same); first = before_tip }

  module _ (o : IsOwnTip chain hash) where
    before_journal : (other : BackRefusal) → back_order other < 2 → HoldsBack full chain hash other → ⊥
    before_journal AtBase lt h = o.some h
    before_journal (NotTip tip) lt h = h.0 o.own
    before_journal JournalFull lt h = absurd (omega arith)

    pub memory_taken : TakesMemoryBack full chain hash
    memory_taken = record { none = before_journal }

    pub full_refused : full → RefusesBack full chain hash JournalFull
    full_refused h = record { holds = h; first = before_journal }

    none_at_all : (full → ⊥) → (other : BackRefusal) → back_order other < 3 → HoldsBack full chain hash other → ⊥
    none_at_all fits AtBase lt h = o.some h
    none_at_all fits (NotTip tip) lt h = h.0 o.own
    none_at_all fits JournalFull lt h = fits h

    pub is_valid_back : (full → ⊥) → IsValidBack full chain hash
    is_valid_back fits = record { none = none_at_all fits }
