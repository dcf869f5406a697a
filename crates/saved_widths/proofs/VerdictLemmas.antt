-- A transaction that isn't refused leaves what is as wide as its fields, and so is what undoes it.
use Rattle.std.proofs.Common.{◌≡◌, ℕ, suc, ◌+◌, ◌<◌, ◌^◌, Bool, true, false, cond, List, [], ◌∷◌, length, sym, subst, arith}
use Rattle.std.specs.Prelude.{Option, Some, None}
use Rattle.std.specs.List.{AllByRecursion}
use Rattle.block_grammar.specs.Block.{count_outputs}
use Rattle.block_grammar.specs.Transaction.{TxOutput, Transaction, stripped_text, txid_of}
use Rattle.name_script.specs.NameScript.{NameOperation}
use Rattle.name_script.specs.Reading.{name_op}
use Rattle.nmc_base.specs.declared.chain_ends.Profile.{Profile}
use Rattle.nmc_base.specs.declared.hashes.OutPoint.{OutPoint}
use Rattle.nmc_base.proofs.ListLemmas.{all-append, all-more}
use Rattle.sha2.specs.Sha256.{sha256}
use Rattle.sha2.proofs.Facts256.{length-sha256}
use Rattle.chain_names.specs.declared.coin.Coin.{Coin}
use Rattle.chain_names.specs.declared.coin.Coin.TheVariants.{New, Named}
use Rattle.chain_names.specs.declared.coin.Item.{Item}
use Rattle.chain_names.specs.declared.undo.UndoOp.{UndoOp}
use Rattle.chain_names.specs.declared.undo.UndoOp.TheVariants.{First as undo_first, Update as undo_update}
use Rattle.chain_names.specs.Changes.{moved, after_verdict, after_transaction, after_all, with_spent, undo_of_verdict, undo_ops}
use Rattle.chain_names.specs.Coins.{Maps, entry_of, opened, registered_behind, updated, with_value}
use Rattle.chain_names.specs.Meaning.{HasOutput, Means}
use Rattle.chain_names.specs.Measured.{IsMeasuredCoin, AreCoinsMeasured, IsMeasuredItem, AreItemsMeasured, AreMeasured}
use Rattle.chain_names.specs.Points.{same_point, point_at, changed}
use Rattle.chain_names.specs.Verdict.{Verdict, plain, commits, opens, updates, refused, verdict, NameOutput, with_output, name_outputs}
use Rattle.chain_names.specs.Writable.{IsWritablePoint}
use Rattle.chain_names.proofs.HistoryLemmas.{each_history}
use Rattle.chain_names.proofs.Meanings.{verdict_means}
use Rattle.chain_names.proofs.PointLemmas.{put_or_there}
use Rattle.undo_records.specs.Measured.{IsMeasuredBefore, IsMeasuredChange, IsMeasuredOp}

-- ---- the outpoint that is made

-- the place of the one name output among the outputs
place_among : (place : ℕ) (outputs : List TxOutput) (output : NameOutput) → name_outputs place outputs ≡ output ∷ [] → output.place < place + length outputs
place_among place [] output e = absurd cc
place_among place (first ∷ outputs) output e = by (name_op first.script) e (place_among (suc place) outputs output)
  where
    by : (operation : Option NameOperation) → with_output place first.value operation (name_outputs (suc place) outputs) ≡ output ∷ []
        → (name_outputs (suc place) outputs ≡ output ∷ [] → output.place < suc place + length outputs) → output.place < place + suc (length outputs)
    by None e' later = omega (arith, later e')
    by (Some operation) e' later = let here : place ≡ output.place = cc in omega (arith, here)

point_wide : (t : Transaction) (place : ℕ) → place < length t.outputs → length t.outputs < 2 ^ 32 → IsWritablePoint (point_at (txid_of t) place)
unfolding txid_of
point_wide t place there few = record { txid = length-sha256 (sha256 (stripped_text t)); index = omega (arith, there, few) }

output_wide : (profile : Profile) (maps : Maps) (t : Transaction) (place : ℕ) (operation : NameOperation) → HasOutput profile maps t place operation → length t.outputs < 2 ^ 32
    → IsWritablePoint (point_at (txid_of t) place)
output_wide profile maps t place operation has few =
    let among = place_among 0 t.outputs _ has.outputs in
    point_wide t place (omega (arith, among)) few

-- ---- items

-- the last item, where there is one
last_measured : (items : List Item) → AllByRecursion IsMeasuredItem items → IsMeasuredBefore (entry_of items)
last_measured [] all = tt
last_measured (item ∷ []) all = all.0
last_measured (item ∷ next ∷ items) all = last_measured (next ∷ items) all.1

registered_low : (before : Option Item) (height : ℕ) → IsMeasuredBefore before → height < 2 ^ 32 → registered_behind before height < 2 ^ 32
registered_low None height measured low = low
registered_low (Some item) height measured low = measured.registered

pub opened_measured : (height : ℕ) (point : OutPoint) (value : List ℕ) → height < 2 ^ 32 → IsWritablePoint point → IsMeasuredItem (opened height point value)
opened_measured height point value low at = record { at = at; height = low; registered = low }

pub updated_measured : (items : List Item) (height : ℕ) (point : OutPoint) (value : List ℕ) → AllByRecursion IsMeasuredItem items → height < 2 ^ 32 → IsWritablePoint point
    → IsMeasuredItem (updated (entry_of items) height point value)
updated_measured items height point value all low at = record { at = at; height = low; registered = registered_low (entry_of items) height (last_measured items all) low }

pub value_measured : (names : List ℕ → List Item) (name : List ℕ) (item : Item) → AreItemsMeasured names → IsMeasuredItem item → AreItemsMeasured (with_value names name item)
value_measured names name item all one =
    each_history names name item (λ n items. AllByRecursion IsMeasuredItem items) (all-more IsMeasuredItem (names name) item (all name) one) (λ n other. all n)

-- ---- coins

-- one that goes
gone_measured : (coins : OutPoint → Option Coin) (point : OutPoint) → AreCoinsMeasured coins → AreCoinsMeasured (changed same_point coins point None)
gone_measured coins point all q coin = by (same_point point q)
  where
    by : (b : Bool) → cond b None (coins q) ≡ Some coin → IsMeasuredCoin q coin
    by true e = absurd cc
    by false e = all q coin e

-- one that is put
pub put_measured : (coins : OutPoint → Option Coin) (point : OutPoint) (coin : Coin) → AreCoinsMeasured coins → IsMeasuredCoin point coin
    → AreCoinsMeasured (changed same_point coins point (Some coin))
put_measured coins point coin all one = put_or_there IsMeasuredCoin coins point coin one all

moved_measured : (maps : Maps) (spent : OutPoint) (name : List ℕ) (item : Item) → AreMeasured maps → IsMeasuredItem item → AreMeasured (moved maps spent name item)
moved_measured maps spent name item measured one = record {
  coins = put_measured (changed same_point maps.coins spent None) item.at (Named name item.height) (gone_measured maps.coins spent measured.coins)
      (record { at = one.at; height = one.height; hash = tt });
  items = value_measured maps.names name item measured.items one;
}

-- ---- what undoes an operation on a name

change_measured : (maps : Maps) (made spent : OutPoint) (coin : Coin) (name : List ℕ) → AreMeasured maps → IsWritablePoint made → maps.coins spent ≡ Some coin
    → IsMeasuredChange made spent coin (entry_of (maps.names name))
change_measured maps made spent coin name measured at held = (at, measured.coins spent coin held, last_measured (maps.names name) (measured.items name))

spent_measured : (maps : Maps) (undo : Coin → UndoOp) (spent : OutPoint) (coin : Coin) → maps.coins spent ≡ Some coin → IsMeasuredOp (undo coin)
    → AllByRecursion IsMeasuredOp (with_spent undo (maps.coins spent))
spent_measured maps undo spent coin held one = subst (λ s. AllByRecursion IsMeasuredOp (with_spent undo s)) (sym held) (one, tt)

-- ---- a verdict

-- maps that are as wide as their fields, in a block whose height is, and a transaction with so few outputs
record IsWideTurn (height : ℕ) (maps : Maps) (t : Transaction) : Type 0 where
  low : height < 2 ^ 32
  measured : AreMeasured maps
  few : length t.outputs < 2 ^ 32

module _ (profile : Profile) (height : ℕ) (maps : Maps) (t : Transaction) (wide : IsWideTurn height maps t) where
  verdict_measured : (v : Verdict) → Means profile maps height t v → AreMeasured (after_verdict maps height (txid_of t) v)
  verdict_measured plain means = wide.measured
  verdict_measured (refused refusal) means = wide.measured
  verdict_measured (commits hash place) means = record {
    coins = put_measured maps.coins (point_at (txid_of t) place) (New (record { 0 = hash }) height) wide.measured.coins
        (record { at = output_wide profile maps t place _ means.output wide.few; height = wide.low; hash = means.hash_length });
    items = wide.measured.items;
  }
  verdict_measured (opens name value place spent) means =
      moved_measured maps spent name (opened height (point_at (txid_of t) place) value) wide.measured
      (opened_measured height (point_at (txid_of t) place) value wide.low (output_wide profile maps t place _ means.output wide.few))
  verdict_measured (updates name value place spent) means =
      moved_measured maps spent name (updated (entry_of (maps.names name)) height (point_at (txid_of t) place) value) wide.measured
      (updated_measured (maps.names name) height (point_at (txid_of t) place) value (wide.measured.items name) wide.low (output_wide profile maps t place _ means.output wide.few))

  undo_measured : (v : Verdict) → Means profile maps height t v → AllByRecursion IsMeasuredOp (undo_of_verdict maps (txid_of t) v)
  undo_measured plain means = tt
  undo_measured (refused refusal) means = tt
  undo_measured (commits hash place) means = (output_wide profile maps t place _ means.output wide.few, tt)
  undo_measured (opens name value place spent) means =
      let made = point_at (txid_of t) place in
      let coin = New means.hash means.made in
      spent_measured maps (λ (coin : Coin). undo_first made spent coin name (entry_of (maps.names name))) spent coin means.input.held
      (change_measured maps made spent coin name wide.measured (output_wide profile maps t place _ means.output wide.few) means.input.held)
  undo_measured (updates name value place spent) means =
      let made = point_at (txid_of t) place in
      let coin = Named name means.made in
      spent_measured maps (λ (coin : Coin). undo_update made spent coin name (entry_of (maps.names name))) spent coin means.input.held
      (change_measured maps made spent coin name wide.measured (output_wide profile maps t place _ means.output wide.few) means.input.held)

-- ---- the transactions of a block

-- what they leave, and what undoes them
pub record LeavesWidths (profile : Profile) (height : ℕ) (ts : List Transaction) (maps : Maps) : Type 0 where
  pub measured : AreMeasured (after_all profile height ts maps)
  pub ops : AllByRecursion IsMeasuredOp (undo_ops profile height ts maps)

pub all_measured : (profile : Profile) (height : ℕ) (ts : List Transaction) (maps : Maps) → height < 2 ^ 32 → AreMeasured maps → count_outputs ts < 2 ^ 32
    → LeavesWidths profile height ts maps
all_measured profile height [] maps low measured few = record { measured = measured; ops = tt }
all_measured profile height (t ∷ ts) maps low measured few =
    let v = verdict profile maps height t in
    let means = verdict_means profile maps height t in
    let next = after_transaction profile height t maps in
    let wide : IsWideTurn height maps t = record { low = low; measured = measured; few = omega (arith, few) } in
    let later = all_measured profile height ts next low (verdict_measured profile height maps t wide v means) (omega (arith, few)) in
    record {
      measured = later.measured;
      ops = all-append IsMeasuredOp (undo_of_verdict maps (txid_of t) v) (undo_ops profile height ts next) (undo_measured profile height maps t wide v means) later.ops;
    }
