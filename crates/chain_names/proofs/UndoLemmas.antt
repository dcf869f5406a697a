-- Undoing a transaction gives the maps before it.
use Rattle.std.proofs.Common.{◌≡◌, ℕ, false, List, [], ◌∷◌, ◌++◌, refl, sym, ap, ◌∙◌}
use Rattle.std.specs.Prelude.{Some, None}
use Rattle.std.specs.Str.{bytes_eq}
use Rattle.std.proofs.lemmas.Slice.Eq.{bytes_eq-Decides}
use Rattle.block_grammar.specs.Transaction.{Transaction, txid_of}
use Rattle.nmc_base.specs.declared.hashes.OutPoint.{OutPoint}
use Rattle.nmc_base.specs.declared.chain_ends.Profile.{Profile}
use Rattle.chain_names.specs.declared.coin.Coin.{Coin}
use Rattle.chain_names.specs.declared.coin.Coin.TheVariants.{New, Named}
use Rattle.chain_names.specs.declared.coin.Item.{Item}
use Rattle.chain_names.specs.declared.undo.UndoOp.{UndoOp}
use Rattle.chain_names.specs.Points.{same_point, point_at, changed}
use Rattle.chain_names.specs.Coins.{Maps, entry_of, opened, updated, with_value}
use Rattle.chain_names.specs.Verdict.{Verdict, plain, commits, opens, updates, refused, verdict}
use Rattle.chain_names.specs.Meaning.{Means}
use Rattle.chain_names.specs.Changes.{moved, moved_back, without_entry, after_verdict, undo_of_verdict, with_spent, back_op, back_ops, after_transaction}
use Rattle.chain_names.proofs.Changed.{changed_at, changed_back, changed_still}
use Rattle.chain_names.proofs.Points.{same_point-Decides}
use Rattle.chain_names.proofs.Meanings.{verdict_means}
use Rattle.chain_names.proofs.Shown.{is_refused}
use Rattle.chain_names.proofs.HistoryLemmas.{without_entry-more}

-- a name moves back
names_back : (maps : Maps) (name : List ℕ) (item : Item)
    → changed bytes_eq (with_value maps.names name item) name (without_entry (with_value maps.names name item name)) ≡ maps.names
names_back maps name item =
    let was = changed_at bytes_eq-Decides maps.names name (maps.names name ++ item ∷ []) in
    changed_back bytes_eq-Decides maps.names name _ _ (sym (ap without_entry was ∙ without_entry-more (maps.names name) item))

pub moved_and_back : (maps : Maps) (spent : OutPoint) (name : List ℕ) (item : Item) (coin : Coin) → maps.coins item.at ≡ None → maps.coins spent ≡ Some coin
    → moved_back (moved maps spent name item) item.at spent coin name ≡ maps
moved_and_back maps spent name item coin fresh held =
    let without = changed same_point maps.coins spent None in
    let inner = changed_back same_point-Decides without item.at None (Some (Named name item.height)) (changed_still same_point-Decides maps.coins spent item.at None fresh) in
    let outer = changed_back same_point-Decides maps.coins spent (Some coin) None held in
    λ i. record { coins = (ap (λ f. changed same_point f spent (Some coin)) inner ∙ outer) i; names = names_back maps name item i }

pub back_ops-append : (a b : List UndoOp) (maps : Maps) → back_ops (a ++ b) maps ≡ back_ops a (back_ops b maps)
back_ops-append [] b maps = refl
back_ops-append (op ∷ a) b maps = ap (back_op op) (back_ops-append a b maps)

-- ---- one transaction

with_coin : (maps : Maps) (undo : Coin → UndoOp) (spent : OutPoint) (after : Maps) (coin : Coin) → maps.coins spent ≡ Some coin
    → back_op (undo coin) after ≡ maps → back_ops (with_spent undo (maps.coins spent)) after ≡ maps
with_coin maps undo spent after coin held e = rw held e

verdict_back : (profile : Profile) (maps : Maps) (height : ℕ) (t : Transaction) (v : Verdict) → Means profile maps height t v
    → back_ops (undo_of_verdict maps (txid_of t) v) (after_verdict maps height (txid_of t) v) ≡ maps
verdict_back profile maps height t plain means = refl
verdict_back profile maps height t (refused refusal) means = refl
verdict_back profile maps height t (commits hash place) means =
    λ i. record { coins = changed_back same_point-Decides maps.coins (point_at (txid_of t) place) None (Some (New (record { 0 = hash }) height)) means.output.fresh i; names = maps.names }
verdict_back profile maps height t (opens name value place spent) means =
    with_coin maps _ spent _ (New means.hash means.made) means.input.held
    (moved_and_back maps spent name (opened height (point_at (txid_of t) place) value) (New means.hash means.made) means.output.fresh means.input.held)
verdict_back profile maps height t (updates name value place spent) means =
    with_coin maps _ spent _ (Named name means.made) means.input.held
    (moved_and_back maps spent name (updated (entry_of (maps.names name)) height (point_at (txid_of t) place) value) (Named name means.made) means.output.fresh means.input.held)

-- undoing a transaction that isn't refused
pub transaction_back : (profile : Profile) (height : ℕ) (t : Transaction) (maps : Maps) → is_refused (verdict profile maps height t) ≡ false
    → back_ops (undo_of_verdict maps (txid_of t) (verdict profile maps height t)) (after_transaction profile height t maps) ≡ maps
transaction_back profile height t maps kept =
    verdict_back profile maps height t (verdict profile maps height t) (verdict_means profile maps height t)
