-- The record of a block fits the state after it.
use Rattle.std.proofs.Common.{◌≡◌, ℕ, suc, cond, List, [], ◌∷◌, ◌++◌, refl, sym, ap, subst, ◌∙◌}
use Rattle.std.specs.Prelude.{Option, Some, None}
use Rattle.block_grammar.specs.Transaction.{Transaction, txid_of}
use Rattle.nmc_base.specs.declared.hashes.OutPoint.{OutPoint}
use Rattle.nmc_base.specs.declared.chain_ends.Profile.{Profile}
use Rattle.nmc_base.proofs.ListLemmas.{all-weaker}
use Rattle.chain_names.specs.State.{Stands}
use Rattle.chain_names.specs.declared.coin.Coin.{Coin}
use Rattle.chain_names.specs.declared.coin.Coin.TheVariants.{New, Named}
use Rattle.chain_names.specs.declared.coin.HeldCoin.{HeldCoin}
use Rattle.chain_names.specs.declared.coin.Item.{Item}
use Rattle.chain_names.specs.declared.undo.UndoOp.{UndoOp}
use Rattle.chain_names.specs.declared.undo.UndoOp.TheVariants.{First as undo_first, Update as undo_update}
use Rattle.chain_names.specs.Points.{same_point, point_at, changed}
use Rattle.chain_names.specs.Coins.{Maps, entry_of, opened, registered_behind, updated, unless_expired}
use Rattle.chain_names.specs.Meaning.{Means}
use Rattle.chain_names.specs.Verdict.{Verdict, plain, commits, opens, updates, refused, verdict}
use Rattle.chain_names.specs.Changes.{moved, without_entry, with_spent, after_verdict, after_transaction, after_all, after_block, first_refused, undo_of_verdict, undo_ops, back_ops}
use Rattle.chain_names.specs.Undo.{UndoRecord}
use Rattle.chain_names.specs.UndoOf.{IsUndoByMaps}
use Rattle.chain_names.proofs.BlockLemmas.{no_refusal, all_back}
use Rattle.chain_names.proofs.Changed.{changed_at, bytes_eq-self}
use Rattle.chain_names.proofs.Meanings.{verdict_means}
use Rattle.chain_names.proofs.Points.{same_point-Decides, same_point-self}
use Rattle.chain_names.proofs.UndoLemmas.{back_ops-append}
use Rattle.chain_names.proofs.HistoryLemmas.{entry_of-more, without_entry-more}
use Rattle.chain_names.specs.Expired.{IsGone}
use Rattle.chain_names.specs.Fits.{IsJustExpired, with_restored, IsMadeName, IsMadeUpdate, FitsOp, FitsOps, FitsState}
use Rattle.chain_names.proofs.PointLemmas.{apart}
use Rattle.chain_names.proofs.UndoneBlockLemmas.{all_stand, live_left, verdict_stands}
use Rattle.chain_names.proofs.RestoreLemmas.{due_restored}

-- ---- lists of operations

fits-append : (tip : ℕ) (ops more : List UndoOp) (maps : Maps) → FitsOps tip ops (back_ops more maps) → FitsOps tip more maps → FitsOps tip (ops ++ more) maps
fits-append tip [] more maps first rest = rest
fits-append tip (op ∷ ops) more maps first rest =
    (fits-append tip ops more maps first.0 rest, subst (FitsOp tip op) (sym (back_ops-append ops more maps)) first.1)

-- ---- one transaction

moved_fits : (maps : Maps) (spent : OutPoint) (name : List ℕ) (item : Item) (coin : Coin) → maps.coins item.at ≡ None → maps.coins spent ≡ Some coin
    → IsMadeName item.height item.registered item.at spent name (entry_of (maps.names name)) (moved maps spent name item)
moved_fits maps spent name item coin fresh held =
    let items = ap (λ b. cond b (maps.names name ++ item ∷ []) (maps.names name)) (bytes_eq-self name) in
    record {
      borne = name;
      value = item.value;
      held = changed_at same_point-Decides (changed same_point maps.coins spent None) item.at (Some (Named name item.height));
      last = ap entry_of items ∙ entry_of-more (maps.names name) item;
      before_is = ap (λ (is : List Item). entry_of (without_entry is)) items ∙ ap entry_of (without_entry-more (maps.names name) item);
      free = ap (λ b. cond b (Some (Named name item.height)) (cond (same_point spent spent) None (maps.coins spent))) (apart maps.coins item.at spent coin fresh held)
          ∙ ap (λ b. cond b None (maps.coins spent)) (same_point-self spent);
    }

with_spent_fits : (height : ℕ) (undo : Coin → UndoOp) (spent : Option Coin) (coin : Coin) (after : Maps) → spent ≡ Some coin → FitsOp height (undo coin) after
    → FitsOps height (with_spent undo spent) after
with_spent_fits height undo spent coin after held fits = subst (λ s. FitsOps height (with_spent undo s) after) (sym held) (tt, fits)

-- an update goes on with the registration of the entry, which is there
update_fits : (maps : Maps) (height : ℕ) (spent made : OutPoint) (name value : List ℕ) (entry : Option Item) (before : Item) → entry ≡ Some before
    → IsMadeName height (registered_behind entry height) made spent name entry maps → IsMadeUpdate height made spent name entry maps
update_fits maps height spent made name value None before e fits = absurd cc
update_fits maps height spent made name value (Some item) before e fits = fits

verdict_fits : (profile : Profile) (height : ℕ) (maps : Maps) (t : Transaction) (v : Verdict) → Means profile maps height t v → Stands profile height height maps
    → FitsOps height (undo_of_verdict maps (txid_of t) v) (after_verdict maps height (txid_of t) v)
verdict_fits profile height maps t plain means stands = tt
verdict_fits profile height maps t (refused refusal) means stands = tt
verdict_fits profile height maps t (commits hash place) means stands =
    (tt, record { hash = record { 0 = hash }; held = changed_at same_point-Decides maps.coins (point_at (txid_of t) place) (Some (New (record { 0 = hash }) height)) })
verdict_fits profile height maps t (opens name value place spent) means stands =
    let made = point_at (txid_of t) place in
    let coin = New means.hash means.made in
    with_spent_fits height (λ (c : Coin). undo_first made spent c name (entry_of (maps.names name))) (maps.coins spent) coin
    (moved maps spent name (opened height made value)) means.input.held
    (moved_fits maps spent name (opened height made value) coin means.output.fresh means.input.held)
verdict_fits profile height maps t (updates name value place spent) means stands =
    let made = point_at (txid_of t) place in
    let coin = Named name means.made in
    let entry = entry_of (maps.names name) in
    let item = updated entry height made value in
    with_spent_fits height (λ (c : Coin). undo_update made spent c name (entry_of (maps.names name))) (maps.coins spent) coin
    (moved maps spent name item) means.input.held
    (update_fits (moved maps spent name item) height spent made name value entry _ (stands.named_coins spent name means.made means.input.held).is_last.last
    (moved_fits maps spent name item coin means.output.fresh means.input.held))

-- ---- the transactions of a block

all_fit : (profile : Profile) (height index : ℕ) (ts : List Transaction) (maps : Maps) → Stands profile height height maps → first_refused profile height index ts maps ≡ None
    → FitsOps height (undo_ops profile height ts maps) (after_all profile height ts maps)
all_fit profile height index [] maps stands accepted = tt
all_fit profile height index (t ∷ ts) maps stands accepted =
    let v = verdict profile maps height t in
    let means = verdict_means profile maps height t in
    let next = after_transaction profile height t maps in
    let later = (no_refusal index v (first_refused profile height (suc index) ts next) accepted).1 in
    fits-append height (undo_of_verdict maps (txid_of t) v) (undo_ops profile height ts next) (after_all profile height ts next)
    (subst (FitsOps height (undo_of_verdict maps (txid_of t) v)) (sym (all_back profile height (suc index) ts next later))
    (verdict_fits profile height maps t v means stands))
    (all_fit profile height (suc index) ts next (verdict_stands profile height maps t v means stands) later)

-- ---- the coins that were due

pub standing_live : (profile : Profile) (height : ℕ) (maps : Maps) (point : OutPoint) (coin : Coin) → Stands profile height height maps → maps.coins point ≡ Some coin
    → unless_expired profile height (Some coin) ≡ Some coin
standing_live profile height maps point (New hash made) stands held = refl
standing_live profile height maps point (Named name made) stands held = live_left profile height name made (stands.named_coins point name made held).live

gone_expired : (profile : Profile) (height : ℕ) (after : Maps) (held : HeldCoin) → Stands profile height height after
    → IsGone after.coins (λ point. unless_expired profile (suc height) (after.coins point)) held
    → IsJustExpired profile height (record { coins = λ point. unless_expired profile (suc height) (after.coins point); names = after.names }) held
gone_expired profile height after held stands gone = record {
  free = gone.next_is;
  live = standing_live profile height after held.at held.coin stands gone.now_is;
  expired = ap (unless_expired profile (suc height)) (sym gone.now_is) ∙ gone.next_is;
}

abbrev coins_with : (List ℕ → List Item) → (OutPoint → Option Coin) → Maps
coins_with names coins = record { coins = coins; names = names }

pub block_fits : (profile : Profile) (height index : ℕ) (ts : List Transaction) (maps : Maps) (u : UndoRecord) → Stands profile height height maps
    → first_refused profile height index ts maps ≡ None → IsUndoByMaps profile height ts maps u → FitsState profile height u (after_block profile height ts maps)
block_fits profile height index ts maps u before accepted undoes =
    let after = after_all profile height ts maps in
    let stands = all_stand profile height ts maps before in
    let left = after_block profile height ts maps in
    record {
      expired = all-weaker (IsGone after.coins left.coins) (IsJustExpired profile height left) u.expired
          (λ held gone. gone_expired profile height after held stands gone) undoes.due.each;
      ops = subst (λ os. FitsOps height os (with_restored u.expired left)) (sym undoes.ops)
          (subst (λ coins. FitsOps height (undo_ops profile height ts maps) (coins_with after.names coins)) (sym (due_restored profile (suc height) after.coins u.expired undoes.due))
          (all_fit profile height index ts maps before accepted));
    }
