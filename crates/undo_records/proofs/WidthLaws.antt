-- A record within its limits that is as wide as its fields has a text, and each record with a text is within its limits.
use Rattle.std.proofs.Common.{List, [], ◌∷◌}
use Rattle.std.specs.Prelude.{Option, Some, None}
use Rattle.std.specs.List.{AllByRecursion}
use Rattle.std.specs.List.Sorted.{IsStrictlySortedBy}
use Rattle.std.proofs.lemmas.Map.Keys.{sorted_head, sorted_tail}
use Rattle.nmc_base.specs.Hash.{outpoint_cmp}
use Rattle.nmc_base.specs.declared.hashes.OutPoint.{OutPoint}
use Rattle.chain_names.specs.declared.coin.Coin.{Coin}
use Rattle.chain_names.specs.declared.coin.Coin.TheVariants.{New, Named}
use Rattle.chain_names.specs.declared.coin.HeldCoin.{HeldCoin}
use Rattle.chain_names.specs.declared.coin.Item.{Item}
use Rattle.chain_names.specs.declared.undo.UndoOp.{UndoOp}
use Rattle.chain_names.specs.declared.undo.UndoOp.TheVariants.{New as undo_new, First as undo_first, Update as undo_update}
use Rattle.chain_names.specs.Undo.{UndoRecord}
use Rattle.chain_names.specs.Expired.{points_of, IsSortedByPoint}
use Rattle.chain_names.specs.Limits.{IsWithinLimitsOp, IsShortBefore, IsNameCoin, HoldsName, IsWithinLimits}
use Rattle.chain_names.specs.Measured.{IsMeasuredCoin}
use Rattle.chain_names.specs.Writable.{IsWritableNamed, IsWritableBefore, IsWritableOp, IsWritableHeld, AreAscending, IsWritable}
use Rattle.chain_names.proofs.OrderLemmas.{outpoint_cmp-total, IsAbove}
use Rattle.chain_names.proofs.InsertLemmas.{sorted_nil}
use Rattle.undo_records.specs.Measured.{IsMeasuredBefore, IsMeasuredOp, IsMeasuredHeld, IsMeasured}

-- ---- what is within its limits, and as wide as its fields

before_fits : (before : Option Item) → IsShortBefore before → IsMeasuredBefore before → IsWritableBefore before
before_fits None short measured = tt
before_fits (Some item) short measured = record { height = measured.height; registered = measured.registered; at = measured.at; value = short }

op_fits : (op : UndoOp) → IsWithinLimitsOp op → IsMeasuredOp op → IsWritableOp op
op_fits (undo_new made) limits measured = measured
op_fits (undo_first made spent (New hash height) name before) limits measured = record {
  made = measured.0;
  spent = measured.1.at;
  coin = (measured.1.height, measured.1.hash);
  name = limits.1;
  before = before_fits before limits.2 measured.2;
}
op_fits (undo_first made spent (Named other height) name before) limits measured = absurd limits.0
op_fits (undo_update made spent (New hash height) name before) limits measured = absurd limits.0
op_fits (undo_update made spent (Named other height) name before) limits measured = record {
  made = measured.0;
  spent = measured.1.at;
  coin = (measured.1.height, limits.0);
  name = limits.1;
  before = before_fits before limits.2 measured.2;
}

ops_fit : (ops : List UndoOp) → AllByRecursion IsWithinLimitsOp ops → AllByRecursion IsMeasuredOp ops → AllByRecursion IsWritableOp ops
ops_fit [] limits measured = tt
ops_fit (op ∷ ops) limits measured = (op_fits op limits.0 measured.0, ops_fit ops limits.1 measured.1)

named_fits : (at : OutPoint) (coin : Coin) → IsNameCoin coin → IsMeasuredCoin at coin → IsWritableNamed coin
named_fits at (New hash height) limits measured = absurd limits
named_fits at (Named name height) limits measured = (measured.height, limits)

helds_fit : (helds : List HeldCoin) → AllByRecursion HoldsName helds → AllByRecursion IsMeasuredHeld helds → AllByRecursion IsWritableHeld helds
helds_fit [] limits measured = tt
helds_fit (held ∷ helds) limits measured =
    (record { at = measured.0.at; coin = named_fits held.at held.coin limits.0 measured.0 }, helds_fit helds limits.1 measured.1)

above_ascend : (point : OutPoint) (helds : List HeldCoin) → AllByRecursion (IsAbove point) (points_of helds) → IsSortedByPoint helds → AreAscending (Some point) helds
above_ascend point [] above sorted = tt
above_ascend point (held ∷ helds) above sorted =
    (above.0, above_ascend held.at helds (sorted_head outpoint_cmp held.at (points_of helds) sorted) (sorted_tail outpoint_cmp held.at (points_of helds) sorted))

sorted_ascend : (helds : List HeldCoin) → IsSortedByPoint helds → AreAscending None helds
sorted_ascend [] sorted = tt
sorted_ascend (held ∷ helds) sorted =
    (tt, above_ascend held.at helds (sorted_head outpoint_cmp held.at (points_of helds) sorted) (sorted_tail outpoint_cmp held.at (points_of helds) sorted))

pub measured_fits : (u : UndoRecord) → IsWithinLimits u → IsMeasured u → IsWritable u
measured_fits u limits measured = record {
  fits = record {
    block = measured.block;
    op_count = limits.few_ops;
    ops = ops_fit u.ops limits.ops measured.ops;
    expired_count = limits.few_expired;
    expired = helds_fit u.expired limits.expired measured.expired;
  };
  in_order = sorted_ascend u.expired limits.sorted;
}

-- ---- what has a text

before_short : (before : Option Item) → IsWritableBefore before → IsShortBefore before
before_short None fits = tt
before_short (Some item) fits = fits.value

op_within : (op : UndoOp) → IsWritableOp op → IsWithinLimitsOp op
op_within (undo_new made) fits = tt
op_within (undo_first made spent (New hash height) name before) fits = (tt, fits.name, before_short before fits.before)
op_within (undo_first made spent (Named other height) name before) fits = absurd fits.coin
op_within (undo_update made spent (New hash height) name before) fits = absurd fits.coin
op_within (undo_update made spent (Named other height) name before) fits = (fits.coin.1, fits.name, before_short before fits.before)

ops_within : (ops : List UndoOp) → AllByRecursion IsWritableOp ops → AllByRecursion IsWithinLimitsOp ops
ops_within [] fits = tt
ops_within (op ∷ ops) fits = (op_within op fits.0, ops_within ops fits.1)

named_within : (coin : Coin) → IsWritableNamed coin → IsNameCoin coin
named_within (New hash height) fits = absurd fits
named_within (Named name height) fits = fits.1

helds_within : (helds : List HeldCoin) → AllByRecursion IsWritableHeld helds → AllByRecursion HoldsName helds
helds_within [] fits = tt
helds_within (held ∷ helds) fits = (named_within held.coin fits.0.coin, helds_within helds fits.1)

all_above : (point : OutPoint) (helds : List HeldCoin) → AreAscending (Some point) helds → AllByRecursion (IsAbove point) (points_of helds)
all_above point [] ascending = tt
all_above point (held ∷ helds) ascending = (ascending.0, raised (points_of helds) (all_above held.at helds ascending.1))
  where
    raised : (points : List OutPoint) → AllByRecursion (IsAbove held.at) points → AllByRecursion (IsAbove point) points
    raised [] above = tt
    raised (other ∷ points) above = (outpoint_cmp-total.trans point held.at other ascending.0 above.0, raised points above.1)

sorted_more : (point : OutPoint) (points : List OutPoint) → AllByRecursion (IsAbove point) points → IsStrictlySortedBy outpoint_cmp points → IsStrictlySortedBy outpoint_cmp (point ∷ points)
unfolding IsStrictlySortedBy
sorted_more point points above sorted = (above, sorted)

ascending_sorted : (last : Option OutPoint) (helds : List HeldCoin) → AreAscending last helds → IsSortedByPoint helds
ascending_sorted last [] ascending = sorted_nil
ascending_sorted last (held ∷ helds) ascending =
    sorted_more held.at (points_of helds) (all_above held.at helds ascending.1) (ascending_sorted (Some held.at) helds ascending.1)

pub writable_within : (u : UndoRecord) → IsWritable u → IsWithinLimits u
writable_within u writable = record {
  few_ops = writable.fits.op_count;
  few_expired = writable.fits.expired_count;
  ops = ops_within u.ops writable.fits.ops;
  expired = helds_within u.expired writable.fits.expired;
  sorted = ascending_sorted None u.expired writable.in_order;
}
