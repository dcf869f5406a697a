-- Soundness goes on from block to block.
use Rattle.std.proofs.Common.{◌≡◌, ℕ, suc, ◌+◌, List, [], ◌∷◌, length, refl, sym, ap, subst, ◌∙◌, arith}
use Rattle.block_grammar.specs.Transaction.{Transaction}
use Rattle.nmc_base.specs.declared.chain_ends.Profile.{Profile}
use Rattle.chain_names.specs.declared.undo.UndoOp.{UndoOp}
use Rattle.chain_names.specs.Coins.{Maps}
use Rattle.chain_names.specs.Changes.{after_block, undone}
use Rattle.chain_names.specs.Undo.{UndoRecord}
use Rattle.chain_names.specs.UndoOf.{IsUndoByMaps}
use Rattle.chain_names.specs.State.{IsState}
use Rattle.chain_names.specs.Sound.{IsSound, MayFollow}
use Rattle.chain_names.proofs.StandLemmas.{state_stands, stands-higher}
use Rattle.chain_names.proofs.RestoreLemmas.{block_undone}
use Rattle.chain_names.proofs.StateLemmas.{transactions_stand, transactions_few, block_state}
use Rattle.chain_names.proofs.FitLemmas.{block_fits}
use Rattle.chain_names.proofs.LimitLemmas.{block_limits}

pub sound_state : (profile : Profile) (base tip : ℕ) (maps : Maps) (us : List UndoRecord) → IsSound profile base tip maps us → IsState profile tip maps
sound_state profile base tip maps [] sound = sound.state
sound_state profile base tip maps (u ∷ us) sound = sound.1.state

pub block_sound : (profile : Profile) (base tip : ℕ) (ts : List Transaction) (maps : Maps) (u : UndoRecord) (us : List UndoRecord) → IsSound profile base tip maps us
    → MayFollow profile tip ts maps → IsUndoByMaps profile (suc tip) ts maps u → IsSound profile base (suc tip) (after_block profile (suc tip) ts maps) (u ∷ us)
block_sound profile base tip ts maps u us sound follows undoes =
    let state = sound_state profile base tip maps us sound in
    let before = stands-higher profile (suc tip) tip (suc tip) maps (omega arith) (state_stands profile tip maps state) in
    let stands = transactions_stand profile tip ts maps state in
    let few_rows = transactions_few profile tip ts maps state follows.few in
    let left = after_block profile (suc tip) ts maps in (
      tip,
      record {
        above = refl;
        state = block_state profile tip ts maps state follows.low follows.few;
        limits = block_limits profile (suc tip) ts maps u before stands few_rows follows.few undoes;
        fits = block_fits profile (suc tip) follows.index ts maps u before follows.unrefused undoes;
      },
      subst (λ m. IsSound profile base tip m us)
          (sym (ap (λ (os : List UndoOp). undone os u.expired left) undoes.ops ∙ block_undone profile (suc tip) follows.index ts maps u.expired follows.unrefused undoes.due))
          sound,
    )

-- ---- the way back

pub sound_below : (profile : Profile) (base tip : ℕ) (maps : Maps) (u : UndoRecord) (us : List UndoRecord) → IsSound profile base (suc tip) maps (u ∷ us)
    → IsSound profile base tip (undone u.ops u.expired maps) us
sound_below profile base tip maps u us sound =
    let above : suc tip ≡ suc sound.0 = sound.1.above in
    let height : sound.0 ≡ tip = omega arith in
    subst (λ h. IsSound profile base h (undone u.ops u.expired maps) us) height sound.2

-- there is a record for each block
pub sound_height : (profile : Profile) (base tip : ℕ) (maps : Maps) (us : List UndoRecord) → IsSound profile base tip maps us → tip ≡ base + length us
sound_height profile base tip maps [] sound = let at_base : tip ≡ base = sound.at_base in omega arith
sound_height profile base tip maps (u ∷ us) sound =
    let above : tip ≡ suc sound.0 = sound.1.above in
    let below : sound.0 ≡ base + length us = sound_height profile base sound.0 (undone u.ops u.expired maps) us sound.2 in
    omega arith
