-- What the index refuses is what the chain refuses.
use Rattle.std.proofs.Common.{◌≡◌, ℕ, List, [], ◌∷◌, refl, sym, ap, subst, ◌∙◌, arith}
use Rattle.std.proofs.lemmas.Option.{none-some}
use Rattle.block_grammar.specs.Block.{Block, IsBlock}
use Rattle.block_grammar.specs.Merkle.{block_root}
use Rattle.block_grammar.proofs.Statements as grammar
use Rattle.nmc_base.specs.declared.chain_ends.Base.{Base}
use Rattle.nmc_base.specs.declared.hashes.Hash32.{Hash32}
use Rattle.chain_names.specs.Log.{Log}
use Rattle.chain_names.specs.Undo.{UndoRecord}
use Rattle.chain_names.specs.UndoOf.{AreUndos}
use Rattle.chain_state.specs.Chain.{Indexed}
use Rattle.chain_state.specs.Stage.{IsRefusal}
use Rattle.chain_state.specs.StageBack.{IsStagedBackOn, IsBackRefusal}
use Rattle.chain_state.specs.declared.stage.Refusal.{Refusal}
use Rattle.chain_state.specs.declared.stage.Refusal.TheVariants.{BadBlock, NotOnTip, HeightLimit, MerkleMismatch, Rule, JournalFull}
use Rattle.chain_state.specs.declared.back.BackRefusal.{BackRefusal}
use Rattle.chain_state.specs.declared.back.BackRefusal.TheVariants.{AtBase, NotTip, JournalFull as back_journal_full}
use Rattle.chain_state.specs.Standing.{hash_of, IsValidOn, StandsForChain}
use Rattle.chain_state.specs.Refusals.{RefusesConnect, RefusesDisconnect, MayDisconnect}
use Rattle.chain_state.proofs.StandingLemmas.{refused_alike}

pub joined_hash : (a b : Hash32) → a.0 ≡ b.0 → a ≡ b
joined_hash a b e = λ i. record { 0 = e i }

-- ---- connects

module _ (base : Base) (start : Log) (blocks : List (List ℕ)) (c : Indexed) (s : StandsForChain base start blocks c) (bytes : List ℕ) (block : Block) (is : IsBlock bytes block) where
  pub refuses_by_chain : (refusal : Refusal) → IsRefusal c block refusal → RefusesConnect base start blocks bytes block refusal
  refuses_by_chain (BadBlock at) h = h
  refuses_by_chain (NotOnTip tip) h = ((λ on. h.0 (on ∙ sym s.hash)), ap (λ (x : Hash32). x.0) h.1 ∙ s.hash)
  refuses_by_chain HeightLimit h = (h.0 ∙ s.hash, omega (arith, h.1, s.height))
  refuses_by_chain (MerkleMismatch computed) h = (h.0 ∙ s.hash, omega (arith, h.1, s.height), h.2, h.3)
  refuses_by_chain (Rule index refusal) h =
      (h.0 ∙ s.hash, omega (arith, h.1, s.height), h.2, sym (refused_alike base start blocks c s bytes block is) ∙ h.3)
  refuses_by_chain JournalFull h = h

  pub refuses_by_index : (refusal : Refusal) → RefusesConnect base start blocks bytes block refusal → IsRefusal c block refusal
  refuses_by_index (BadBlock at) h = h
  refuses_by_index (NotOnTip tip) h = ((λ on. h.0 (on ∙ s.hash)), joined_hash tip c.tip.hash (h.1 ∙ sym s.hash))
  refuses_by_index HeightLimit h = (h.0 ∙ sym s.hash, omega (arith, h.1, s.height))
  refuses_by_index (MerkleMismatch computed) h = (h.0 ∙ sym s.hash, omega (arith, h.1, s.height), h.2, h.3)
  refuses_by_index (Rule index refusal) h =
      (h.0 ∙ sym s.hash, omega (arith, h.1, s.height), h.2, refused_alike base start blocks c s bytes block is ∙ h.3)
  refuses_by_index JournalFull h = h

module _ (base : Base) (start : Log) (blocks : List (List ℕ)) (bytes : List ℕ) (block : Block) (is : IsBlock bytes block) (valid : IsValidOn base start blocks bytes) where
  same_block : valid.block ≡ block
  same_block = grammar.same_block bytes valid.block block valid.is_block is

  on_tip : block.header.fields.previous ≡ hash_of base blocks
  on_tip = sym (ap (λ (b : Block). b.header.fields.previous) same_block) ∙ valid.on_tip

  root : block.header.fields.root ≡ block_root block
  root = sym (ap (λ (b : Block). b.header.fields.root) same_block) ∙ valid.root ∙ ap block_root same_block

  pub valid_unrefused : (refusal : Refusal) → RefusesConnect base start blocks bytes block refusal → ⊥
  valid_unrefused (BadBlock at) h = h
  valid_unrefused (NotOnTip tip) h = h.0 on_tip
  valid_unrefused HeightLimit h = omega (arith, h.1, valid.low)
  valid_unrefused (MerkleMismatch computed) h = h.2 (root ∙ sym h.3)
  valid_unrefused (Rule index refusal) h = none-some (index, refusal) (sym valid.unrefused ∙ h.3)
  valid_unrefused JournalFull h = h

-- ---- disconnects

no_undos : (base : Base) (start : Log) (blocks : List (List ℕ)) (undos : List UndoRecord) → AreUndos base.profile start base.height blocks undos → undos ≡ [] → blocks ≡ []
no_undos base start [] undos are none = refl
no_undos base start (block ∷ blocks) undos are none = absurd (subst (AreUndos base.profile start base.height (block ∷ blocks)) none are)

no_blocks : (base : Base) (start : Log) (blocks : List (List ℕ)) (undos : List UndoRecord) → AreUndos base.profile start base.height blocks undos → blocks ≡ [] → undos ≡ []
no_blocks base start blocks [] are none = refl
no_blocks base start blocks (u ∷ us) are none = absurd (subst (λ (bs : List (List ℕ)). AreUndos base.profile start base.height bs (u ∷ us)) none are)

module _ (base : Base) (start : Log) (blocks : List (List ℕ)) (c : Indexed) (s : StandsForChain base start blocks c) (hash : Hash32) where
  none_undone : blocks ≡ [] → c.undos ≡ []
  none_undone = no_blocks base start blocks c.undos s.undos

  none_left : c.undos ≡ [] → blocks ≡ []
  none_left = no_undos base start blocks c.undos s.undos

  pub back_by_chain : (refusal : BackRefusal) → IsBackRefusal c hash refusal → RefusesDisconnect base blocks hash refusal
  back_by_chain AtBase h = none_left h
  back_by_chain (NotTip tip) h =
      ((λ none. h.0 (none_undone none)), (λ same. h.1 (joined_hash hash c.tip.hash (same ∙ sym s.hash))), ap (λ (x : Hash32). x.0) h.2 ∙ s.hash)
  back_by_chain back_journal_full h = h

  pub back_by_index : (refusal : BackRefusal) → RefusesDisconnect base blocks hash refusal → IsBackRefusal c hash refusal
  back_by_index AtBase h = none_undone h
  back_by_index (NotTip tip) h =
      ((λ none. h.0 (none_left none)), (λ same. h.1 (ap (λ (x : Hash32). x.0) same ∙ s.hash)), joined_hash tip c.tip.hash (h.2 ∙ sym s.hash))
  back_by_index back_journal_full h = h

  pub may_disconnect : (staged : Indexed) → IsStagedBackOn c hash staged → MayDisconnect base blocks hash
  may_disconnect staged on = record { some = λ none. on.above (none_undone none); hash_is = ap (λ (x : Hash32). x.0) on.hash_is ∙ s.hash }

pub back_unrefused : (base : Base) (blocks : List (List ℕ)) (hash : Hash32) (refusal : BackRefusal) → MayDisconnect base blocks hash → RefusesDisconnect base blocks hash refusal → ⊥
back_unrefused base blocks hash AtBase may h = may.some h
back_unrefused base blocks hash (NotTip tip) may h = h.1 may.hash_is
back_unrefused base blocks hash back_journal_full may h = h
