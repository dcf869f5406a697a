-- A record that fits can be undone.
use Rattle.std.proofs.Common.{◌≡◌, ℕ, suc, true, List, [], ◌∷◌, refl, sym, ◌∙◌}
use Rattle.std.specs.Prelude.{Some, None}
use Rattle.std.specs.List.{AllByRecursion}
use Rattle.nmc_base.specs.declared.chain_ends.Profile.{Profile}
use Rattle.nmc_base.specs.Expiry.{due_height}
use Rattle.chain_names.specs.declared.coin.Coin.TheVariants.{New}
use Rattle.chain_names.specs.declared.coin.HeldCoin.{HeldCoin}
use Rattle.chain_names.specs.declared.undo.UndoOp.{UndoOp}
use Rattle.chain_names.specs.declared.undo.UndoOp.TheVariants.{New as undo_new, First as undo_first, Update as undo_update}
use Rattle.chain_names.specs.Coins.{Maps}
use Rattle.chain_names.specs.Changes.{back_ops}
use Rattle.chain_names.specs.Tables.{is_named_at}
use Rattle.chain_names.specs.Undo.{UndoRecord}
use Rattle.chain_names.proofs.DueLemmas.{unless_expired-row, unless_expired-none}
use Rattle.chain_names.specs.Fits.{IsJustExpired, with_restored, FitsOp, FitsOps, FitsState, IsUndoable, AreUndoable}
use Rattle.chain_names.proofs.LimitLemmas.{row_gone}

pub op_allows : (tip : ℕ) (op : UndoOp) (maps : Maps) → FitsOp tip op maps → IsUndoable tip op maps
op_allows tip (undo_new made) maps fits = record { coin = New fits.hash tip; held = fits.held; unnamed = λ height. refl }
op_allows tip (undo_first made spent coin name before) maps fits = record { name = fits.borne; held = fits.held; free = fits.free }
op_allows tip (undo_update made spent coin name None) maps fits = absurd fits
op_allows tip (undo_update made spent coin name (Some before)) maps fits = record { name = fits.borne; held = fits.held; free = fits.free }

fits_allow : (tip : ℕ) (ops : List UndoOp) (maps : Maps) → FitsOps tip ops maps → AreUndoable tip ops maps
fits_allow tip [] maps fits = tt
fits_allow tip (op ∷ ops) maps fits = (fits_allow tip ops maps fits.0, op_allows tip op (back_ops ops maps) fits.1)

pub fit_allows : (profile : Profile) (tip : ℕ) (u : UndoRecord) (maps : Maps) → FitsState profile tip u maps → AreUndoable tip u.ops (with_restored u.expired maps)
fit_allows profile tip u maps fits = fits_allow tip u.ops (with_restored u.expired maps) fits.ops

-- ---- the row of an expired coin

pub expired-row : (profile : Profile) (tip row : ℕ) (maps : Maps) (held : HeldCoin) → due_height profile (suc tip) ≡ Some row → IsJustExpired profile tip maps held
    → is_named_at row (Some held.coin) ≡ true
expired-row profile tip row maps held due expired =
    row_gone row (Some held.coin) held.coin refl (sym (unless_expired-row profile tip row (Some held.coin) due expired.live) ∙ expired.expired)

pub expired-none : (profile : Profile) (tip : ℕ) (maps : Maps) (helds : List HeldCoin) → due_height profile (suc tip) ≡ None
    → AllByRecursion (IsJustExpired profile tip maps) helds → helds ≡ []
expired-none profile tip maps [] undue all = refl
expired-none profile tip maps (held ∷ helds) undue all =
    let bad : Some held.coin ≡ None = sym (unless_expired-none profile tip (Some held.coin) undue all.0.live) ∙ all.0.expired in
    absurd cc
