-- The index of every chain of valid blocks is sound.
use Rattle.std.proofs.Common.{ℕ, suc, ◌+◌, ◌≤◌, List, [], ◌∷◌, length, sym, subst, arith}
use Rattle.nmc_base.specs.Heights.{highest}
use Rattle.nmc_base.specs.declared.chain_ends.Base.{Base}
use Rattle.chain_names.specs.Coins.{Maps}
use Rattle.chain_names.specs.Log.{Log}
use Rattle.chain_names.specs.Undo.{UndoRecord}
use Rattle.chain_names.specs.Sound.{IsSound, AreAccepted}
use Rattle.chain_names.specs.UndoOf.{AreUndos}
use Rattle.chain_names.proofs.IndexLemmas.{index_sound}
use Rattle.chain_names.proofs.RecordLemmas.{HasUndos, chain_has_undos}
use Rattle.chain_state.specs.Chain.{Indexed}
use Rattle.name_tables.specs.Tables.{maps_by}
use Rattle.chain_state.specs.Standing.{AreValid, chain_maps, StandsForChain}

-- valid blocks are accepted
accepted : (base : Base) (start : Log) (blocks : List (List ℕ)) → AreValid base start blocks → AreAccepted base.profile start base.height blocks
accepted base start [] valid = valid
accepted base start (block ∷ blocks) valid =
    let next : suc (base.height + length blocks) ≤ highest = omega (arith, valid.0.low) in (
      record { low = next; content = valid.0.block; is_block = valid.0.is_block; short = valid.0.short; unrefused = valid.0.unrefused },
      accepted base start blocks valid.1,
    )

pub valid_undos : (base : Base) (start : Log) (blocks : List (List ℕ)) → AreValid base start blocks → HasUndos base.profile start base.height blocks
valid_undos base start blocks valid = chain_has_undos base.profile start base.height blocks (accepted base start blocks valid)

pub valid_sound : (base : Base) (start : Log) (blocks : List (List ℕ)) (undos : List UndoRecord) → AreValid base start blocks → AreUndos base.profile start base.height blocks undos
    → IsSound base.profile base.height (base.height + length blocks) (chain_maps base start blocks) undos
valid_sound base start blocks undos valid are = index_sound base.profile start base.height blocks undos (accepted base start blocks valid) are

pub standing_sound : (base : Base) (start : Log) (blocks : List (List ℕ)) (c : Indexed) → StandsForChain base start blocks c
    → IsSound c.base.profile c.base.height c.tip.height (maps_by c.tables) c.undos
standing_sound base start blocks c s =
    subst (λ (x : Base). IsSound x.profile x.height c.tip.height (maps_by c.tables) c.undos) (sym s.base_is)
    (subst (λ (n : ℕ). IsSound base.profile base.height n (maps_by c.tables) c.undos) (sym s.height)
    (subst (λ (m : Maps). IsSound base.profile base.height (base.height + length blocks) m c.undos) (sym s.maps)
    (valid_sound base start blocks c.undos s.valid s.undos)))
