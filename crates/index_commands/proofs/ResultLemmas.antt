-- One thing comes of a command that an index takes.
use Rattle.std.proofs.Common.{◌≡◌, ℕ, suc, List, ◌∷◌, sym, ◌∙◌, ap, subst, arith}
use Rattle.block_grammar.specs.Block.{Block}
use Rattle.block_grammar.specs.Header.{header_hash}
use Rattle.block_grammar.specs.Transaction.{Transaction}
use Rattle.block_grammar.proofs.Statements.{same_block}
use Rattle.nmc_base.specs.declared.chain_ends.Tip.{Tip}
use Rattle.nmc_base.specs.declared.chain_ends.Profile.{Profile}
use Rattle.chain_names.specs.Coins.{Maps}
use Rattle.chain_names.specs.Changes.{after_block, undone}
use Rattle.chain_names.specs.Log.{behind_coinbase}
use Rattle.chain_names.specs.Tables.{coins_in, queued_in, queue_of}
use Rattle.chain_names.specs.UndoOf.{IsUndoByMaps}
use Rattle.chain_names.proofs.OneRecordLemmas.{one_undo-maps}
use Rattle.name_tables.specs.Tables.{maps_by}
use Rattle.chain_state.specs.Chain.{Indexed, SameIndex, staged_undo, newest_hash}
use Rattle.chain_commands.specs.Event.{Command, Connect, Disconnect}
use Rattle.chain_state.proofs.RefusalLemmas.{joined_hash}
use Rattle.index_commands.specs.Taking.{TakesConnect, TakesDisconnect, TakesCommand}
use Rattle.index_commands.proofs.TakenLemmas.{said_alike}

joined_tip : (a b : Tip) → a.height ≡ b.height → a.hash ≡ b.hash → a ≡ b
joined_tip a b height hash = λ i. record { height = height i; hash = hash i }

module _ (a b x y : Indexed) (same : SameIndex a b) where
  -- ---- a block

  module _ (bytes : List ℕ) (p : TakesConnect a bytes x) (q : TakesConnect b bytes y) where
    block_same : p.takes.block ≡ q.takes.block
    block_same = same_block bytes p.takes.block q.takes.block p.takes.is_block q.takes.is_block

    -- what an index says of the transactions of its next block
    block_alike : {X : Type 0} (said : Profile → ℕ → List Transaction → Maps → X)
        → said a.base.profile (suc a.tip.height) (behind_coinbase p.takes.block.transactions) (maps_by a.tables)
        ≡ said b.base.profile (suc b.tip.height) (behind_coinbase q.takes.block.transactions) (maps_by b.tables)
    block_alike said =
        said_alike a b same (λ profile height maps. said profile height (behind_coinbase p.takes.block.transactions) maps)
        ∙ ap (λ (block : Block). said b.base.profile (suc b.tip.height) (behind_coinbase block.transactions) (maps_by b.tables)) block_same

    hash_same : p.staged.hash ≡ q.staged.hash
    hash_same = joined_hash p.staged.hash q.staged.hash (p.takes.on.hash ∙ ap (λ (block : Block). header_hash block.header) block_same ∙ sym q.takes.on.hash)

    maps_same : maps_by x.tables ≡ maps_by y.tables
    maps_same = p.connected.maps ∙ p.takes.on.after ∙ block_alike after_block ∙ sym q.takes.on.after ∙ sym q.connected.maps

    undo_same : staged_undo p.staged.hash p.staged.whole ≡ staged_undo q.staged.hash q.staged.whole
    undo_same =
        let profile = b.base.profile in
        let height = suc b.tip.height in
        let ts = behind_coinbase q.takes.block.transactions in
        let u = staged_undo p.staged.hash p.staged.whole in
        let next = block_alike (λ (p : Profile) (h : ℕ) (ts : List Transaction) (m : Maps). (p, h, ts, m)) in
        let moved = subst (λ (n : Profile × ℕ × List Transaction × Maps). IsUndoByMaps n.0 n.1 n.2 n.3 u) next p.takes.on.undoes in
        one_undo-maps profile height ts (maps_by b.tables) u (staged_undo q.staged.hash q.staged.whole) moved q.takes.on.undoes hash_same

    pub one_connected : SameIndex x y
    one_connected = record {
      base = p.connected.base ∙ p.takes.on.base ∙ same.base ∙ sym q.takes.on.base ∙ sym q.connected.base;
      tip = joined_tip x.tip y.tip
          (p.connected.height ∙ ap (λ (tip : Tip). suc tip.height) (p.takes.on.tip ∙ same.tip ∙ sym q.takes.on.tip) ∙ sym q.connected.height)
          (p.connected.hash ∙ hash_same ∙ sym q.connected.hash);
      maps = maps_same;
      queue = p.connected.queue ∙ ap (λ (m : Maps). queue_of m.coins) maps_same ∙ sym q.connected.queue;
      undos = p.connected.undos ∙ (λ i. undo_same i ∷ (p.takes.on.undos ∙ same.undos ∙ sym q.takes.on.undos) i) ∙ sym q.connected.undos;
    }

  -- ---- a disconnect

  module _ (hash : List ℕ) (p : TakesDisconnect a hash x) (q : TakesDisconnect b hash y) where
    records_same : p.disconnected.undo ∷ p.disconnected.below ≡ q.disconnected.undo ∷ q.disconnected.below
    records_same = sym p.disconnected.undos_were ∙ same.undos ∙ q.disconnected.undos_were

    record_same : p.disconnected.undo ≡ q.disconnected.undo
    record_same = let both = records_same in cc

    below_same : p.disconnected.below ≡ q.disconnected.below
    below_same = let both = records_same in cc

    maps_back : maps_by x.tables ≡ maps_by y.tables
    maps_back = p.disconnected.maps ∙ (λ i. undone (record_same i).ops (record_same i).expired (same.maps i)) ∙ sym q.disconnected.maps

    pub one_disconnected : SameIndex x y
    one_disconnected = record {
      base = p.disconnected.base ∙ same.base ∙ sym q.disconnected.base;
      tip = joined_tip x.tip y.tip
          (omega (arith, p.disconnected.height, ap (λ (tip : Tip). tip.height) same.tip, q.disconnected.height))
          (p.disconnected.hash ∙ (λ i. newest_hash (same.base i) (below_same i)) ∙ sym q.disconnected.hash);
      maps = maps_back;
      queue = p.disconnected.queue ∙ ap (λ (m : Maps). queue_of m.coins) maps_back ∙ sym q.disconnected.queue;
      undos = p.disconnected.undos ∙ below_same ∙ sym q.disconnected.undos;
    }

  pub one_result : (command : Command) → TakesCommand a command x → TakesCommand b command y → SameIndex x y
  one_result (Connect bytes) p q = one_connected bytes p q
  one_result (Disconnect hash) p q = one_disconnected hash p q

-- ---- the same index comes of it too

module _ (index x y : Indexed) (same : SameIndex y x) where
  queue_same : queued_in x.tables.queue ≡ queue_of (coins_in x.tables.coins) → queued_in y.tables.queue ≡ queue_of (coins_in y.tables.coins)
  queue_same is = same.queue ∙ is ∙ ap (λ (m : Maps). queue_of m.coins) (sym same.maps)

  pub takes_same : (command : Command) → TakesCommand index command x → TakesCommand index command y
  takes_same (Connect bytes) p = record {
    short = p.short;
    staged = p.staged;
    takes = p.takes;
    connected = record {
      base = same.base ∙ p.connected.base;
      height = ap (λ (tip : Tip). tip.height) same.tip ∙ p.connected.height;
      hash = ap (λ (tip : Tip). tip.hash) same.tip ∙ p.connected.hash;
      maps = same.maps ∙ p.connected.maps;
      queue = queue_same p.connected.queue;
      undos = same.undos ∙ p.connected.undos;
    };
  }
  takes_same (Disconnect hash) p = record {
    long = p.long;
    hash_is = p.hash_is;
    disconnected = record {
      undo = p.disconnected.undo;
      below = p.disconnected.below;
      undos_were = p.disconnected.undos_were;
      undos = same.undos ∙ p.disconnected.undos;
      base = same.base ∙ p.disconnected.base;
      height = p.disconnected.height ∙ ap (λ (tip : Tip). suc tip.height) (sym same.tip);
      hash = ap (λ (tip : Tip). tip.hash) same.tip ∙ p.disconnected.hash;
      maps = same.maps ∙ p.disconnected.maps;
      queue = queue_same p.disconnected.queue;
    };
  }
