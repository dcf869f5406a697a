-- What is staged is taken, what is refused isn't, and the same index takes the same commands.
use Rattle.std.proofs.Common.{◌≡◌, ◌≢◌, ℕ, suc, List, [], ◌∷◌, refl, sym, ◌∙◌, ap, arith}
use Rattle.std.proofs.lemmas.Option.{none-some}
use Rattle.block_grammar.specs.Block.{Block, IsBlock}
use Rattle.block_grammar.specs.Merkle.{block_root}
use Rattle.block_grammar.proofs.Statements.{same_block}
use Rattle.nmc_base.specs.declared.chain_ends.Base.{Base}
use Rattle.nmc_base.specs.declared.chain_ends.Profile.{Profile}
use Rattle.nmc_base.specs.declared.chain_ends.Tip.{Tip}
use Rattle.nmc_base.specs.declared.hashes.Hash32.{Hash32}
use Rattle.chain_names.specs.Coins.{Maps}
use Rattle.chain_names.specs.Changes.{first_refused, undone}
use Rattle.chain_names.specs.Log.{behind_coinbase}
use Rattle.chain_names.specs.Undo.{UndoRecord}
use Rattle.name_tables.specs.Tables.{maps_by}
use Rattle.chain_state.specs.Chain.{Indexed, SameIndex, StagedIndex, rule_refused, newest_hash}
use Rattle.chain_state.specs.StageBack.{IsDisconnected}
use Rattle.chain_state.specs.declared.stage.Refusal.{Refusal}
use Rattle.chain_state.specs.declared.stage.Refusal.TheVariants as code
use Rattle.chain_state.specs.declared.back.BackRefusal.{BackRefusal}
use Rattle.chain_state.specs.declared.back.BackRefusal.TheVariants as code_back
use Rattle.chain_commands.specs.Event.{Command, Connect, Disconnect}
use Rattle.chain_commands.specs.Connecting as connecting
use Rattle.chain_commands.specs.Disconnecting as disconnecting
use Rattle.chain_state.proofs.RefusalLemmas.{joined_hash}
use Rattle.index_commands.specs.ByIndex.{TakesBlock, RefusesBytes, RefusesHash, MayLose}
use Rattle.index_commands.specs.Records.{HasSize}
use Rattle.index_commands.specs.Taking.{HoldsOn, HoldsBackOn, HasNone, IsTakenBy, TakesCommand, TakesDisconnect}

-- ---- what is staged has no refusal

module _ (index : Indexed) (bytes : List ℕ) (staged : StagedIndex) (takes : TakesBlock index bytes staged) where
  -- a block that the bytes spell is the one that was staged
  read_same : (block : Block) → IsBlock bytes block → block ≡ takes.block
  read_same block is = same_block bytes block takes.block is takes.is_block

  pub staged_unrefused : HasNone (HoldsOn index bytes)
  staged_unrefused (connecting.BadBlock place) h = h.no_block takes.block takes.is_block
  staged_unrefused (connecting.NotOnTip tip) h = h.0.off (ap (λ (b : Block). b.header.fields.previous) (read_same h.0.block h.0.is_block) ∙ takes.on.on_tip)
  staged_unrefused connecting.HeightLimit h = omega (arith, h, takes.on.low)
  staged_unrefused (connecting.MerkleMismatch computed) h =
      let e = read_same h.block h.is_block in h.other (ap (λ (b : Block). b.header.fields.root) e ∙ takes.on.root ∙ ap block_root (sym e))
  staged_unrefused (connecting.Rule tx refusal) h = none-some (tx, refusal) (sym takes.on.accepted ∙ ap (rule_refused index) (sym (read_same h.block h.is_block)) ∙ h.refused)
  staged_unrefused connecting.JournalFull h = h

-- the hash is the tip's, and a block stands on the base
pub staged_back_unrefused : (index : Indexed) (hash : List ℕ) → index.undos ≢ [] → hash ≡ index.tip.hash.0 → HasNone (HoldsBackOn index hash)
staged_back_unrefused index hash above hash_is disconnecting.AtBase h = above h
staged_back_unrefused index hash above hash_is (disconnecting.NotTip tip) h = h.0 hash_is
staged_back_unrefused index hash above hash_is disconnecting.JournalFull h = h

some_left : (undos : List UndoRecord) (undo : UndoRecord) (below : List UndoRecord) → undos ≡ undo ∷ below → undos ≢ []
some_left undos undo below are none = cc

pub taken : (index new : Indexed) (command : Command) → TakesCommand index command new → IsTakenBy index command
taken index new (Connect bytes) takes = (staged_unrefused index bytes takes.staged takes.takes, takes.short)
taken index new (Disconnect hash) takes =
    (staged_back_unrefused index hash (some_left index.undos takes.disconnected.undo takes.disconnected.below takes.disconnected.undos_were) takes.hash_is, takes.long)

-- ---- what is refused has a refusal

module _ (full : Type 0) (index : Indexed) (bytes : List ℕ) (same : Indexed) (fits : full → ⊥) where
  pub refused_not_taken : (refusal : Refusal) → RefusesBytes full index bytes refusal same → HasNone (HoldsOn index bytes) → ⊥
  refused_not_taken (code.BadBlock at) h none = none (connecting.BadBlock at) h.0
  refused_not_taken (code.NotOnTip tip) h none =
      none (connecting.NotOnTip tip.0) (record { block = h.block; is_block = h.is_block; off = h.refuses.0 }, ap (λ (x : Hash32). x.0) h.refuses.1)
  refused_not_taken code.HeightLimit h none = none connecting.HeightLimit h.refuses.1
  refused_not_taken (code.MerkleMismatch computed) h none =
      none (connecting.MerkleMismatch computed.0) (record { block = h.block; is_block = h.is_block; other = λ e. h.refuses.2 (e ∙ sym h.refuses.3); computed_is = h.refuses.3 })
  refused_not_taken (code.Rule tx refusal) h none = none (connecting.Rule tx refusal) (record { block = h.block; is_block = h.is_block; refused = h.refuses.3 })
  refused_not_taken code.JournalFull h none = fits h.is_full

module _ (full : Type 0) (index : Indexed) (hash : Hash32) (same : Indexed) (fits : full → ⊥) where
  pub refused_back_not_taken : (refusal : BackRefusal) → RefusesHash full index hash refusal same → HasNone (HoldsBackOn index hash.0) → ⊥
  refused_back_not_taken code_back.AtBase h none = none disconnecting.AtBase h.0
  refused_back_not_taken (code_back.NotTip tip) h none =
      none (disconnecting.NotTip tip.0) ((λ e. h.0.1 (joined_hash hash index.tip.hash e)), ap (λ (x : Hash32). x.0) h.0.2)
  refused_back_not_taken code_back.JournalFull h none = fits h.0

-- ---- on the same index

pub same_back : (a b : Indexed) → SameIndex a b → SameIndex b a
same_back a b same = record { base = sym same.base; tip = sym same.tip; maps = sym same.maps; queue = sym same.queue; undos = sym same.undos }

pub same_self : (a : Indexed) → SameIndex a a
same_self a = record { base = refl; tip = refl; maps = refl; queue = refl; undos = refl }

module _ (a b : Indexed) (same : SameIndex a b) where
  -- what an index says of its next block
  pub said_alike : {X : Type 0} (said : Profile → ℕ → Maps → X) → said a.base.profile (suc a.tip.height) (maps_by a.tables) ≡ said b.base.profile (suc b.tip.height) (maps_by b.tables)
  said_alike said = λ i. said (same.base i).profile (suc (same.tip i).height) (same.maps i)

  pub hash_alike : a.tip.hash.0 ≡ b.tip.hash.0
  hash_alike = ap (λ (tip : Tip). tip.hash.0) same.tip

  rule_alike : (block : Block) → rule_refused a block ≡ rule_refused b block
  rule_alike block = said_alike (λ profile height maps. first_refused profile height 1 (behind_coinbase block.transactions) maps)

  holds_alike : (bytes : List ℕ) (refusal : connecting.Refusal) → HoldsOn b bytes refusal → HoldsOn a bytes refusal
  holds_alike bytes (connecting.BadBlock place) h = h
  holds_alike bytes (connecting.NotOnTip tip) h = (record { block = h.0.block; is_block = h.0.is_block; off = λ e. h.0.off (e ∙ hash_alike) }, h.1 ∙ sym hash_alike)
  holds_alike bytes connecting.HeightLimit h = omega (arith, h, ap (λ (tip : Tip). tip.height) same.tip)
  holds_alike bytes (connecting.MerkleMismatch computed) h = h
  holds_alike bytes (connecting.Rule tx refusal) h = record { block = h.block; is_block = h.is_block; refused = rule_alike h.block ∙ h.refused }
  holds_alike bytes connecting.JournalFull h = h

  holds_back_alike : (hash : List ℕ) (refusal : disconnecting.BackRefusal) → HoldsBackOn b hash refusal → HoldsBackOn a hash refusal
  holds_back_alike hash disconnecting.AtBase h = same.undos ∙ h
  holds_back_alike hash (disconnecting.NotTip tip) h = ((λ e. h.0 (e ∙ hash_alike)), h.1 ∙ sym hash_alike)
  holds_back_alike hash disconnecting.JournalFull h = h

  pub taken_alike : (command : Command) → IsTakenBy a command → IsTakenBy b command
  taken_alike (Connect bytes) is = ((λ refusal h. is.0 refusal (holds_alike bytes refusal h)), is.1)
  taken_alike (Disconnect hash) is = ((λ refusal h. is.0 refusal (holds_back_alike hash refusal h)), is.1)

-- what comes of the same index
disconnected_alike : (a b new : Indexed) → SameIndex b a → IsDisconnected b new → IsDisconnected a new
disconnected_alike a b new same gone = record {
  undo = gone.undo;
  below = gone.below;
  undos_were = sym same.undos ∙ gone.undos_were;
  undos = gone.undos;
  base = gone.base ∙ same.base;
  height = ap (λ (tip : Tip). tip.height) (sym same.tip) ∙ gone.height;
  hash = gone.hash ∙ ap (λ (base : Base). newest_hash base gone.below) same.base;
  maps = gone.maps ∙ ap (λ (m : Maps). undone gone.undo.ops gone.undo.expired m) same.maps;
  queue = gone.queue;
}

pub disconnected_from : (index staged new : Indexed) (hash : Hash32) → MayLose index hash staged → HasSize (Disconnect hash.0) → IsDisconnected staged new → TakesDisconnect index hash.0 new
disconnected_from index staged new hash may long gone = record {
  long = long;
  hash_is = ap (λ (h : Hash32). h.0) may.hash_is;
  disconnected = disconnected_alike index staged new may.stays gone;
}
