-- What staging the disconnect of a chain's newest block answers, and what its commit leaves.
use Rattle.std.specs.Prelude.{◌≡◌, ◌≢◌, ℕ, suc, ◌+◌, ◌*◌, ◌≤◌, List, [], ◌∷◌, length}
use Rattle.nmc_base.specs.declared.hashes.Hash32.{Hash32}
use Rattle.chain_names.specs.Changes.{undone}
use Rattle.chain_names.specs.Tables.{coins_in, queued_in, queue_of}
use Rattle.chain_names.specs.Undo.{UndoRecord}
use Rattle.name_tables.specs.Tables.{maps_by}
use Rattle.chain_state.specs.Chain.{Indexed, SameIndex, newest_hash}
use Rattle.chain_state.specs.declared.back.BackRefusal.{BackRefusal}
use Rattle.chain_state.specs.declared.back.BackRefusal.TheVariants.{AtBase, NotTip, JournalFull}
use Rattle.chain_state.specs.declared.back.BackOutcome.{BackOutcome}
use Rattle.chain_state.specs.declared.back.BackOutcome.TheVariants.{StagedBack, Refused, NoMemory}

-- the disconnect is staged: the hash is the tip's, and the tip is above the base
pub record IsStagedBackOn (c : Indexed) (hash : Hash32) (s : Indexed) : Type 0 where
  pub above : c.undos ≢ []
  pub hash_is : hash ≡ c.tip.hash
  pub same : SameIndex s c

-- The first condition that holds. A full journal is refused by the layers above.
abbrev pub IsBackRefusal : Indexed → Hash32 → BackRefusal → Type 0
IsBackRefusal c hash AtBase = c.undos ≡ []
IsBackRefusal c hash (NotTip tip) = (c.undos ≢ []) × (hash ≢ c.tip.hash) × (tip ≡ c.tip.hash)
IsBackRefusal c hash JournalFull = ⊥

-- the disconnect is staged, or refused by the first condition that holds, or memory ran out, for which none holds
abbrev pub StagesBack : Indexed → Hash32 → BackOutcome → Type 0
StagesBack c hash (StagedBack s) = IsStagedBackOn c hash s
StagesBack c hash (Refused same refusal) = SameIndex same c × IsBackRefusal c hash refusal
StagesBack c hash (NoMemory same) = SameIndex same c × (c.undos ≢ []) × (hash ≡ c.tip.hash)

-- the chain without its newest block: the maps are those before it
pub record IsDisconnected (s c : Indexed) : Type 0 where
  pub undo : UndoRecord
  pub below : List UndoRecord
  pub undos_were : s.undos ≡ undo ∷ below
  pub undos : c.undos ≡ below
  pub base : c.base ≡ s.base
  pub height : s.tip.height ≡ suc c.tip.height
  pub hash : c.tip.hash ≡ newest_hash s.base below
  pub maps : maps_by c.tables ≡ undone undo.ops undo.expired (maps_by s.tables)
  pub queue : queued_in c.tables.queue ≡ queue_of (coins_in c.tables.coins)

-- ---- steps

-- the operations and the expired coins of the newest block
abbrev pub newest_work : List UndoRecord → ℕ
newest_work [] = 0
newest_work (undo ∷ below) = length undo.ops + length undo.expired

-- the steps that committing the disconnect takes at most
abbrev pub back_commit_steps : List UndoRecord → ℕ
back_commit_steps [] = 0
back_commit_steps (undo ∷ below) = 8 * length undo.ops + 2 * length undo.expired

-- where a disconnect was staged, with its commit: twelve steps for each operation and each expired coin, and eight
abbrev pub IsBackCheap : Indexed → BackOutcome → ℕ → ℕ → Type 0
IsBackCheap c (StagedBack s) before after = after + back_commit_steps s.undos ≤ before + 12 * newest_work c.undos + 8
IsBackCheap c (Refused same refusal) before after = Unit {0}
IsBackCheap c (NoMemory same) before after = Unit {0}
