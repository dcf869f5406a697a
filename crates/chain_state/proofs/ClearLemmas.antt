-- The places that a block's work emptied are given up.
use Rattle.std.proofs.Common.{◌≡◌, Bool, true, false, ◌&&◌, List, refl, sym, ap, subst, ◌∙◌}
use Rattle.std.specs.Prelude.{◌||◌, ◌==◌}
use Rattle.std.specs.List.{list_any}
use Rattle.chain_names.specs.declared.coin.HeldCoin.{HeldCoin}
use Rattle.chain_names.specs.declared.undo.UndoOp.{UndoOp}
use Rattle.chain_names.specs.Points.{same_point}
use Rattle.chain_names.specs.Tables.{queue_of}
use Rattle.name_tables.specs.Tables.{HoldSame, AreFilled}
use Rattle.name_tables.specs.Places.{spends, spends_at, AreFilledBut}
use Rattle.name_tables.specs.declared.tables.Tables.{Tables}
use Rattle.name_tables.proofs.ListLemmas.{or_both}
use Rattle.chain_state.specs.Whole.{IsWhole, Commits}
use Rattle.chain_state.specs.declared.whole.Whole.{Whole}

without_more : (a b c : Bool) → b ≡ false → (a || c) ≡ false → ((a || b) || c) ≡ false
without_more true b c e f = f
without_more false b c e f = or_both b c e f

row_without : (h b : Bool) → b ≡ false → (h && b) ≡ false
row_without true b e = e
row_without false b e = refl

-- the lists that were handed over are those of the work
pub cleared : (before after : Tables) (ops now : List UndoOp) (expired helds : List HeldCoin) → now ≡ ops → helds ≡ expired
    → (AreFilledBut before now helds → AreFilled after) → AreFilledBut before ops expired → AreFilled after
cleared before after ops now expired helds same_ops same_helds clear filled =
    clear (subst (AreFilledBut before now) (sym same_helds) (subst (λ os. AreFilledBut before os expired) (sym same_ops) filled))

pub whole_filled : (w : Whole) → IsWhole w → AreFilledBut w.work.tables w.work.ops.items w.expired.items
whole_filled w whole = record {
  coins = λ point here free. whole.coins_filled point here
      (without_more (list_any (spends point) w.work.ops.items) _ _ (ap (λ es. list_any (same_point point) es) whole.none_empty) free);
  queue = λ height point here free. whole.queue_filled height point here
      (without_more (list_any (spends_at height point) w.work.ops.items) _ _
      (row_without (w.work.height == height) _ (ap (λ es. list_any (same_point point) es) whole.none_empty)) free);
  names = whole.names_filled;
}

pub committed : (w : Whole) (tables : Tables) → IsWhole w → HoldSame w.work.tables tables → AreFilled tables
    → Commits w (record { tables = tables; ops = w.work.ops; expired = w.expired })
committed w tables whole same filled = record {
  maps = λ i. record { coins = same.coins i; names = same.names i };
  queue = same.queue ∙ whole.queue ∙ ap queue_of (sym same.coins);
  filled = filled;
  ops = refl;
  expired = refl;
}
