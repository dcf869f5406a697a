-- The record of a block can be written.
use Rattle.std.proofs.Common.{◌≡◌, ℕ, suc, ◌<◌, ◌^◌, Bool, true, false, cond, List, [], ◌∷◌, length, refl, sym, ap, subst, ◌∙◌, arith, lt_of_le_of_lt}
use Rattle.std.specs.Prelude.{Option, Some, None}
use Rattle.std.specs.List.{AllByRecursion, list_any}
use Rattle.block_grammar.specs.Transaction.{Transaction, txid_of}
use Rattle.nmc_base.specs.declared.hashes.OutPoint.{OutPoint}
use Rattle.nmc_base.specs.declared.chain_ends.Profile.{Profile}
use Rattle.nmc_base.specs.Expiry.{due_height}
use Rattle.nmc_base.proofs.ListLemmas.{all-weaker, all-append}
use Rattle.chain_names.specs.declared.coin.Coin.{Coin}
use Rattle.chain_names.specs.declared.coin.Coin.TheVariants.{New, Named}
use Rattle.chain_names.specs.declared.coin.HeldCoin.{HeldCoin}
use Rattle.chain_names.specs.declared.coin.Item.{Item}
use Rattle.chain_names.specs.declared.undo.UndoOp.{UndoOp}
use Rattle.chain_names.specs.declared.undo.UndoOp.TheVariants.{First as undo_first, Update as undo_update}
use Rattle.chain_names.specs.Points.{same_point, point_at}
use Rattle.chain_names.specs.Coins.{Maps, entry_of, unless_expired}
use Rattle.chain_names.specs.Meaning.{Means}
use Rattle.chain_names.specs.Tables.{is_named_at}
use Rattle.chain_names.specs.Verdict.{Verdict, plain, commits, opens, updates, refused, verdict}
use Rattle.chain_names.specs.Changes.{after_transaction, after_all, unless_named_at, with_spent, undo_of_verdict, undo_ops}
use Rattle.chain_names.specs.Undo.{UndoRecord}
use Rattle.chain_names.specs.UndoOf.{IsUndoByMaps}
use Rattle.chain_names.proofs.DueLemmas.{unless_expired-row, unless_expired-none}
use Rattle.chain_names.proofs.Meanings.{verdict_means}
use Rattle.chain_names.specs.Expired.{IsSortedByPoint, IsGone}
use Rattle.chain_names.specs.State.{FitsItem, HasFewNames, Stands}
use Rattle.block_grammar.specs.Block.{count_outputs}
use Rattle.chain_names.specs.Limits.{IsShortBefore, IsWithinLimitsOp, HoldsName, IsNameCoin, IsWithinLimits}
use Rattle.chain_names.proofs.PointLemmas.{all-points}
use Rattle.chain_names.proofs.HistoryLemmas.{entry_has}
use Rattle.chain_names.proofs.UndoneBlockLemmas.{verdict_stands}
use Rattle.chain_names.proofs.CountLemmas.{few_operations}
use Rattle.chain_names.proofs.FitLemmas.{standing_live}
use Rattle.chain_names.proofs.OrderLemmas.{sorted_few}

-- ---- operations

entry_limits : (name : List ℕ) (items : List Item) (entry : Option Item) → AllByRecursion (FitsItem name) items → entry_of items ≡ entry → IsShortBefore entry
entry_limits name items None fits e = tt
entry_limits name items (Some item) fits e = (entry_has (FitsItem name) items item fits e).value_length

with_spent_limits : (undo : Coin → UndoOp) (spent : Option Coin) (coin : Coin) → spent ≡ Some coin → IsWithinLimitsOp (undo coin)
    → AllByRecursion IsWithinLimitsOp (with_spent undo spent)
with_spent_limits undo spent coin held within = subst (λ s. AllByRecursion IsWithinLimitsOp (with_spent undo s)) (sym held) (within, tt)

verdict_limits : (profile : Profile) (height : ℕ) (maps : Maps) (t : Transaction) (v : Verdict) → Means profile maps height t v → Stands profile height height maps
    → AllByRecursion IsWithinLimitsOp (undo_of_verdict maps (txid_of t) v)
verdict_limits profile height maps t plain means stands = tt
verdict_limits profile height maps t (refused refusal) means stands = tt
verdict_limits profile height maps t (commits hash place) means stands = (tt, tt)
verdict_limits profile height maps t (opens name value place spent) means stands =
    with_spent_limits (λ (coin : Coin). undo_first (point_at (txid_of t) place) spent coin name (entry_of (maps.names name))) (maps.coins spent)
    (New means.hash means.made) means.input.held
    (tt, means.fits.name_length, entry_limits name (maps.names name) (entry_of (maps.names name)) (stands.lengths name) refl)
verdict_limits profile height maps t (updates name value place spent) means stands =
    with_spent_limits (λ (coin : Coin). undo_update (point_at (txid_of t) place) spent coin name (entry_of (maps.names name))) (maps.coins spent)
    (Named name means.made) means.input.held
    (means.fits.name_length, means.fits.name_length, entry_limits name (maps.names name) (entry_of (maps.names name)) (stands.lengths name) refl)

all_limits : (profile : Profile) (height : ℕ) (ts : List Transaction) (maps : Maps) → Stands profile height height maps
    → AllByRecursion IsWithinLimitsOp (undo_ops profile height ts maps)
all_limits profile height [] maps stands = tt
all_limits profile height (t ∷ ts) maps stands =
    let v = verdict profile maps height t in
    let means = verdict_means profile maps height t in
    let next = after_transaction profile height t maps in
    all-append IsWithinLimitsOp (undo_of_verdict maps (txid_of t) v) (undo_ops profile height ts next) (verdict_limits profile height maps t v means stands)
    (all_limits profile height ts next (verdict_stands profile height maps t v means stands))

-- ---- expired coins

-- the coins of the next block
abbrev pub next_coins : Profile → ℕ → Maps → OutPoint → Option Coin
next_coins profile height after = λ point. unless_expired profile (suc height) (after.coins point)

gone_is : (profile : Profile) (height : ℕ) (after : Maps) (held : HeldCoin) → IsGone after.coins (next_coins profile height after) held
    → unless_expired profile (suc height) (Some held.coin) ≡ None
gone_is profile height after held gone = ap (unless_expired profile (suc height)) (sym gone.now_is) ∙ gone.next_is

name_gone : (profile : Profile) (height : ℕ) (after : Maps) (point : OutPoint) (coin : Coin) → Stands profile height height after → after.coins point ≡ Some coin
    → unless_expired profile (suc height) (Some coin) ≡ None → IsNameCoin coin
name_gone profile height after point (New hash made) stands held gone = absurd cc
name_gone profile height after point (Named name made) stands held gone =
    let standing = stands.named_coins point name made held in
    (entry_has (FitsItem name) (after.names name) _ (stands.lengths name) standing.is_last.last).name_length

-- a live coin that is gone is one of the row
pub row_gone : (row : ℕ) (coin : Option Coin) (c : Coin) → coin ≡ Some c → unless_named_at row coin ≡ None → is_named_at row coin ≡ true
row_gone row coin c held gone = by (is_named_at row coin) refl
  where
    by : (b : Bool) → is_named_at row coin ≡ b → b ≡ true
    by true is = refl
    by false is =
        let kept : coin ≡ None = sym (ap (λ b'. cond b' None coin) is) ∙ gone in
        let bad : Some c ≡ None = sym held ∙ kept in
        absurd cc

no_more : (profile : Profile) (height : ℕ) (after : Maps) (expired : List HeldCoin) → Stands profile height height after → due_height profile (suc height) ≡ None
    → AllByRecursion (IsGone after.coins (next_coins profile height after)) expired → expired ≡ []
no_more profile height after [] stands undue all = refl
no_more profile height after (held ∷ expired) stands undue all =
    let live = standing_live profile height after held.at held.coin stands all.0.now_is in
    let bad : Some held.coin ≡ None = sym (unless_expired-none profile height (Some held.coin) undue live) ∙ gone_is profile height after held all.0 in
    absurd cc

-- a coin that is gone is one of the row that is due
gone_named : (profile : Profile) (height row : ℕ) (after : Maps) (point : OutPoint) (coin : Coin) → Stands profile height height after → due_height profile (suc height) ≡ Some row
    → after.coins point ≡ Some coin → unless_expired profile (suc height) (after.coins point) ≡ None → is_named_at row (after.coins point) ≡ true
gone_named profile height row after point coin stands due held gone =
    let live = ap (unless_expired profile height) held ∙ standing_live profile height after point coin stands held ∙ sym held in
    row_gone row (after.coins point) coin held (sym (unless_expired-row profile height row (after.coins point) due live) ∙ gone)

-- they are of one height, so fewer than 2^32
pub few_expired : (profile : Profile) (height : ℕ) (after : Maps) (expired : List HeldCoin) → Stands profile height height after
    → ((row : ℕ) → HasFewNames after.coins row) → AllByRecursion (IsGone after.coins (next_coins profile height after)) expired → IsSortedByPoint expired
    → length expired < 2 ^ 32
few_expired profile height after expired stands few all sorted = by (due_height profile (suc height)) refl
  where
    by : (due : Option ℕ) → due_height profile (suc height) ≡ due → length expired < 2 ^ 32
    by None undue = subst (λ (es : List HeldCoin). length es < 2 ^ 32) (sym (no_more profile height after expired stands undue all)) (omega arith)
    by (Some row) due =
        let listed = (few row).points in
        let each = λ (held : HeldCoin) (gone : IsGone after.coins (next_coins profile height after) held).
        (few row).all held.at (gone_named profile height row after held.at held.coin stands due gone.now_is gone.next_is) in
        lt_of_le_of_lt
        (sorted_few expired listed sorted
        (all-points (λ point. list_any (same_point point) listed ≡ true) expired
        (all-weaker (IsGone after.coins (next_coins profile height after)) (λ held. list_any (same_point held.at) listed ≡ true) expired each all)))
        (few row).few

-- outpoints among which all are that are due
pub record DuePoints (now next : OutPoint → Option Coin) : Type 0 where
  pub points : List OutPoint
  pub all : (point : OutPoint) (coin : Coin) → now point ≡ Some coin → next point ≡ None → list_any (same_point point) points ≡ true

pub due_points : (profile : Profile) (height : ℕ) (after : Maps) → Stands profile height height after → ((row : ℕ) → HasFewNames after.coins row)
    → DuePoints after.coins (next_coins profile height after)
due_points profile height after stands few = by (due_height profile (suc height)) refl
  where
    by : (due : Option ℕ) → due_height profile (suc height) ≡ due → DuePoints after.coins (next_coins profile height after)
    by None undue = record {
      points = [];
      all = λ point coin held gone.
          let live = ap (unless_expired profile height) held ∙ standing_live profile height after point coin stands held ∙ sym held in
          let bad : Some coin ≡ None = sym held ∙ sym (unless_expired-none profile height (after.coins point) undue live) ∙ gone in
          absurd cc;
    }
    by (Some row) due = record {
      points = (few row).points;
      all = λ point coin held gone. (few row).all point (gone_named profile height row after point coin stands due held gone);
    }

pub block_limits : (profile : Profile) (height : ℕ) (ts : List Transaction) (maps : Maps) (u : UndoRecord)
    → Stands profile height height maps → Stands profile height height (after_all profile height ts maps)
    → ((row : ℕ) → HasFewNames (after_all profile height ts maps).coins row) → count_outputs ts < 2 ^ 32 → IsUndoByMaps profile height ts maps u → IsWithinLimits u
block_limits profile height ts maps u before stands few short undoes =
    let after = after_all profile height ts maps in
    record {
      few_ops = subst (λ (os : List UndoOp). length os < 2 ^ 32) (sym undoes.ops) (few_operations profile height ts maps short);
      few_expired = few_expired profile height after u.expired stands few undoes.due.each undoes.sorted;
      ops = subst (AllByRecursion IsWithinLimitsOp) (sym undoes.ops) (all_limits profile height ts maps before);
      expired = all-weaker (IsGone after.coins (next_coins profile height after)) HoldsName u.expired
          (λ held gone. name_gone profile height after held.at held.coin stands gone.now_is (gone_is profile height after held gone)) undoes.due.each;
      sorted = undoes.sorted;
    }
