-- What the index stands for once a block joined the chain, or left it.
use Rattle.std.proofs.Common.{◌≡◌, ℕ, suc, ◌+◌, ◌≤◌, List, [], ◌∷◌, length, refl, sym, ap, subst, ◌∙◌, arith}
use Rattle.std.specs.Prelude.{None}
use Rattle.block_grammar.specs.Block.{Block, IsBlock}
use Rattle.block_grammar.specs.Transaction.{Transaction}
use Rattle.block_grammar.proofs.BlockLaws.{block_again}
use Rattle.nmc_base.specs.declared.chain_ends.Base.{Base}
use Rattle.nmc_base.specs.declared.chain_ends.Tip.{Tip}
use Rattle.nmc_base.specs.declared.chain_ends.Profile.{Profile}
use Rattle.nmc_base.specs.declared.hashes.Hash32.{Hash32}
use Rattle.chain_names.specs.Coins.{Maps, maps_of}
use Rattle.chain_names.specs.Log.{Log, behind_coinbase, transactions_read, transactions_in, log_of}
use Rattle.chain_names.specs.Index.{next_height, refused_in}
use Rattle.chain_names.specs.Changes.{first_refused, after_all, after_block, undo_ops, undone}
use Rattle.chain_names.specs.Undo.{UndoRecord}
use Rattle.chain_names.proofs.BlockLemmas.{refused_in-maps, index_maps-next}
use Rattle.chain_names.specs.Tables.{queue_of}
use Rattle.nmc_base.specs.declared.limits.TheConstants.{LONGEST_BLOCK}
use Rattle.chain_names.specs.Expired.{IsDue}
use Rattle.chain_names.specs.UndoOf.{hash_read, IsUndoOf, AreUndos}
use Rattle.chain_names.proofs.IndexLemmas.{undo_by_maps, index_undone}
use Rattle.name_tables.specs.Tables.{maps_by}
use Rattle.chain_state.specs.Chain.{Indexed, IsAtStart, SameIndex, StagedIndex, rule_refused, IsStagedOn, IsConnected, IsAbandoned, staged_undo, newest_hash}
use Rattle.chain_state.specs.StageBack.{IsStagedBackOn, IsDisconnected}
use Rattle.chain_state.specs.Standing.{hash_of, chain_maps, IsValidOn, StandsForChain}

plus_none : (n : ℕ) → suc n ≡ suc (n + 0)
plus_none n = omega arith

pub base_stands : (base : Base) (start : Log) (c : Indexed) → IsAtStart base start c → StandsForChain base start [] c
base_stands base start c at =
    let maps = at.maps ∙ ap (λ (n : ℕ). maps_of base.profile start n) (plus_none base.height) in
    record {
      base_is = at.base_is;
      height = omega (arith, at.height);
      hash = ap (λ (h : Hash32). h.0) at.hash;
      maps = maps;
      queue = at.queue ∙ ap (λ (m : Maps). queue_of m.coins) maps;
      undos = subst (AreUndos base.profile start base.height []) (sym at.undos) tt;
      valid = at.begins;
    }

-- ---- the same index

pub same_stands : (base : Base) (start : Log) (blocks : List (List ℕ)) (old new : Indexed) → StandsForChain base start blocks old → SameIndex new old → StandsForChain base start blocks new
same_stands base start blocks old new s same = record {
  base_is = same.base ∙ s.base_is;
  height = ap (λ t. t.height) same.tip ∙ s.height;
  hash = ap (λ t. t.hash.0) same.tip ∙ s.hash;
  maps = same.maps ∙ s.maps;
  queue = same.queue ∙ s.queue;
  undos = subst (AreUndos base.profile start base.height blocks) (sym same.undos) s.undos;
  valid = s.valid;
}

pub same_after : (a b c : Indexed) → SameIndex a b → SameIndex b c → SameIndex a c
same_after a b c first second = record {
  base = first.base ∙ second.base;
  tip = first.tip ∙ second.tip;
  maps = first.maps ∙ second.maps;
  queue = first.queue ∙ second.queue;
  undos = first.undos ∙ second.undos;
}

-- ---- the chain's next block

module _ (base : Base) (start : Log) (blocks : List (List ℕ)) (c : Indexed) (s : StandsForChain base start blocks c) (bytes : List ℕ) (b : Block) (is : IsBlock bytes b) where
  -- what the index says of its next block is so on the chain
  next_alike : {X : Type 0} (said : Profile → ℕ → List Transaction → Maps → X)
      → said c.base.profile (suc c.tip.height) (behind_coinbase b.transactions) (maps_by c.tables)
      ≡ said base.profile (next_height base.height blocks) (behind_coinbase (transactions_in bytes)) (chain_maps base start blocks)
  next_alike said =
      let ts = behind_coinbase b.transactions in
      ap (λ (x : Base). said x.profile (suc c.tip.height) ts (maps_by c.tables)) s.base_is
      ∙ ap (λ (h : ℕ). said base.profile (suc h) ts (maps_by c.tables)) s.height
      ∙ ap (said base.profile (next_height base.height blocks) ts) s.maps
      ∙ ap (λ (l : List Transaction). said base.profile (next_height base.height blocks) (behind_coinbase l) (chain_maps base start blocks))
      (sym (ap transactions_read (block_again bytes b is)))

  -- the refusal by the tables is the one by the log
  pub refused_alike : rule_refused c b ≡ refused_in base.profile (next_height base.height blocks) 1 (behind_coinbase (transactions_in bytes)) (log_of start base.height blocks)
  refused_alike =
      next_alike (λ p h ts m. first_refused p h 1 ts m)
      ∙ sym (refused_in-maps base.profile (next_height base.height blocks) 1 (behind_coinbase (transactions_in bytes)) (log_of start base.height blocks))

-- a block that is staged on the index of a chain
pub record IsNext (base : Base) (start : Log) (blocks : List (List ℕ)) (bytes : List ℕ) (c : Indexed) (staged : StagedIndex) : Type 0 where
  pub stands : StandsForChain base start blocks c
  pub block : Block
  pub is_block : IsBlock bytes block
  pub short : length bytes ≤ LONGEST_BLOCK
  pub on : IsStagedOn c block staged

module _ (base : Base) (start : Log) (blocks : List (List ℕ)) (bytes : List ℕ) (c : Indexed) (staged : StagedIndex) (n : IsNext base start blocks bytes c staged) where
  said_alike : {X : Type 0} (said : Profile → ℕ → List Transaction → Maps → X)
      → said c.base.profile (suc c.tip.height) (behind_coinbase n.block.transactions) (maps_by c.tables)
      ≡ said base.profile (next_height base.height blocks) (behind_coinbase (transactions_in bytes)) (chain_maps base start blocks)
  said_alike said = next_alike base start blocks c n.stands bytes n.block n.is_block said

  unrefused : refused_in base.profile (next_height base.height blocks) 1 (behind_coinbase (transactions_in bytes)) (log_of start base.height blocks) ≡ None
  unrefused = sym (refused_alike base start blocks c n.stands bytes n.block n.is_block) ∙ n.on.accepted

  undo_joined : IsUndoOf base.profile start base.height bytes blocks (staged_undo staged.hash staged.whole)
  undo_joined =
      undo_by_maps base.profile start base.height bytes blocks unrefused (staged_undo staged.hash staged.whole)
      (n.on.hash ∙ sym (ap hash_read (block_again bytes n.block n.is_block)))
      (record {
        ops = n.on.undoes.ops ∙ said_alike undo_ops;
        due =
            subst (λ (m : Maps). IsDue m.coins (after_block base.profile (next_height base.height blocks) (behind_coinbase (transactions_in bytes)) (chain_maps base start blocks)).coins staged.whole.expired.items)
            (said_alike after_all)
            (subst (λ (m : Maps). IsDue (after_all c.base.profile (suc c.tip.height) (behind_coinbase n.block.transactions) (maps_by c.tables)).coins m.coins staged.whole.expired.items)
            (said_alike after_block) n.on.undoes.due);
        sorted = n.on.undoes.sorted;
      })

  pub valid_next : IsValidOn base start blocks bytes
  valid_next = record {
    block = n.block;
    is_block = n.is_block;
    short = n.short;
    on_tip = n.on.on_tip ∙ n.stands.hash;
    low = omega (arith, n.on.low, n.stands.height);
    root = n.on.root;
    unrefused = unrefused;
  }

  maps_after : (new : Indexed) → IsConnected staged new → maps_by new.tables ≡ chain_maps base start (bytes ∷ blocks)
  maps_after new connected = connected.maps ∙ n.on.after ∙ said_alike after_block ∙ sym (index_maps-next base.profile start base.height bytes blocks unrefused)

  pub connects : (new : Indexed) → IsConnected staged new → StandsForChain base start (bytes ∷ blocks) new
  connects new connected = record {
    base_is = connected.base ∙ n.on.base ∙ n.stands.base_is;
    height = omega (arith, connected.height, ap (λ t. t.height) n.on.tip, n.stands.height);
    hash = ap (λ (h : Hash32). h.0) connected.hash ∙ n.on.hash ∙ sym (ap hash_read (block_again bytes n.block n.is_block));
    maps = maps_after new connected;
    queue = connected.queue ∙ ap (λ (m : Maps). queue_of m.coins) (maps_after new connected);
    undos = subst (AreUndos base.profile start base.height (bytes ∷ blocks)) (sym (connected.undos ∙ ap (λ us. staged_undo staged.hash staged.whole ∷ us) n.on.undos)) (undo_joined, n.stands.undos);
    valid = (valid_next, n.stands.valid);
  }

-- a staged block that is abandoned leaves the index from before
pub abandoned_same : (c new : Indexed) (block : Block) (staged : StagedIndex) → IsStagedOn c block staged → IsAbandoned staged new → SameIndex new c
abandoned_same c new block staged on abandoned =
    let maps = abandoned.maps ∙ on.before in
    record {
      base = abandoned.base ∙ on.base;
      tip = abandoned.tip ∙ on.tip;
      maps = maps;
      queue = abandoned.queue ∙ ap (λ (m : Maps). queue_of m.coins) maps ∙ sym on.queue;
      undos = abandoned.undos ∙ on.undos;
    }

-- ---- the chain without its newest block

-- the hash of the newest block by the undo records
newest_is : (base : Base) (start : Log) (blocks : List (List ℕ)) (undos : List UndoRecord) → AreUndos base.profile start base.height blocks undos → (newest_hash base undos).0 ≡ hash_of base blocks
newest_is base start [] [] are = refl
newest_is base start [] (u ∷ us) are = absurd are
newest_is base start (block ∷ blocks) [] are = absurd are
newest_is base start (block ∷ blocks) (u ∷ us) are = are.0.hash

-- an index that lost its newest block
pub record IsTakenOff (old new : Indexed) : Type 0 where
  pub staged : Indexed
  pub hash : Hash32
  pub on : IsStagedBackOn old hash staged
  pub gone : IsDisconnected staged new

module _ (old new : Indexed) (t : IsTakenOff old new) where
  old_undos : old.undos ≡ t.gone.undo ∷ t.gone.below
  old_undos = sym t.on.same.undos ∙ t.gone.undos_were

  module _ (base : Base) (start : Log) (bytes : List ℕ) (blocks : List (List ℕ)) (s : StandsForChain base start (bytes ∷ blocks) old) where
    undos_are : AreUndos base.profile start base.height (bytes ∷ blocks) (t.gone.undo ∷ t.gone.below)
    undos_are = subst (AreUndos base.profile start base.height (bytes ∷ blocks)) old_undos s.undos

    base_same : t.staged.base ≡ base
    base_same = t.on.same.base ∙ s.base_is

    maps_below : maps_by new.tables ≡ chain_maps base start blocks
    maps_below =
        t.gone.maps ∙ ap (undone t.gone.undo.ops t.gone.undo.expired) (t.on.same.maps ∙ s.maps)
        ∙ index_undone base.profile start base.height bytes blocks t.gone.undo s.valid.0.unrefused undos_are.0

    pub disconnects : StandsForChain base start blocks new
    disconnects = record {
      base_is = t.gone.base ∙ base_same;
      height = omega (arith, t.gone.height, ap (λ (tip : Tip). tip.height) t.on.same.tip, s.height);
      hash = ap (λ (h : Hash32). h.0) (t.gone.hash ∙ ap (λ x. newest_hash x t.gone.below) base_same) ∙ newest_is base start blocks t.gone.below undos_are.1;
      maps = maps_below;
      queue = t.gone.queue ∙ ap (λ (m : Maps). queue_of m.coins) maps_below;
      undos = subst (AreUndos base.profile start base.height blocks) (sym t.gone.undos) undos_are.1;
      valid = s.valid.1;
    }
