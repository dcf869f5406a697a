-- A make's coin, its value and the queue are put.
use Rattle.std.proofs.Common.{◌≡◌, ℕ, Bool, true, List, [], ◌∷◌, ◌++◌, sym, ap, subst, ◌∙◌}
use Rattle.std.proofs.Math.Path.{fun_ext}
use Rattle.std.specs.Option.{is_some}
use Rattle.std.specs.Prelude.{Option, Some, None, nat_eq}
use Rattle.std.specs.Str.{bytes_eq}
use Rattle.name_script.specs.NameScript.{name_update}
use Rattle.nmc_base.specs.declared.hashes.Hash20.{Hash20}
use Rattle.nmc_base.specs.declared.hashes.OutPoint.{OutPoint}
use Rattle.chain_names.specs.declared.coin.Coin.{Coin}
use Rattle.chain_names.specs.declared.coin.Coin.TheVariants.{New, Named}
use Rattle.chain_names.specs.declared.coin.Item.{Item}
use Rattle.chain_names.specs.Coins.{entry_of, opened, updated, with_value, with_operation}
use Rattle.chain_names.specs.Points.{same_point, changed}
use Rattle.chain_names.specs.Tables.{CoinSlots, NameSlots, QueueSlots, coins_in, coin_places, names_in, name_places, queued_in, queue_places, queue_of, AreCoinsFilled, AreNamesFilled, IsQueueFilled}
use Rattle.chain_names.proofs.Changed.{changed_mapped}
use Rattle.chain_names.proofs.HistoryLemmas.{entry_of-more}
use Rattle.name_tables.specs.declared.tables.Tables.{Tables}
use Rattle.name_tables.proofs.TableLemmas.{put_new, put_named, none_free}
use Rattle.name_snapshot.specs.Standing.{IsQueuedAt, IsQueued, HasItsQueue, IsPut}
use Rattle.name_snapshot.specs.Text.{commitment}

-- ---- one coin more

pub row_changed : (P Q : ℕ → OutPoint → Bool) (height : ℕ) (at : OutPoint) → P ≡ Q
    → changed nat_eq P height (changed same_point (P height) at true) ≡ changed nat_eq Q height (changed same_point (Q height) at true)
row_changed P Q height at same = ap (λ (p : ℕ → OutPoint → Bool). changed nat_eq p height (changed same_point (p height) at true)) same

queue_filled : (old new : QueueSlots) (height : ℕ) (at : OutPoint) → IsQueuedAt height at old new → IsQueueFilled old → IsQueueFilled new
queue_filled old new height at queued filled =
    let same : queue_places old ≡ queued_in old = fun_ext (λ h. fun_ext (λ p. filled h p)) in
    let whole : queue_places new ≡ queued_in new = queued.places ∙ row_changed (queue_places old) (queued_in old) height at same ∙ sym queued.queued in
    λ h p. ap (λ (q : ℕ → OutPoint → Bool). q h p) whole

coins_filled : (old new : CoinSlots) (at : OutPoint) (coin : Coin) → coins_in new ≡ changed same_point (coins_in old) at (Some coin)
    → coin_places new ≡ changed same_point (coin_places old) at true → AreCoinsFilled old → AreCoinsFilled new
coins_filled old new at coin coins places filled =
    let same : coin_places old ≡ (λ (p : OutPoint). is_some (coins_in old p)) = fun_ext filled in
    let held : (λ (p : OutPoint). is_some (coins_in new p)) ≡ changed same_point (λ (p : OutPoint). is_some (coins_in old p)) at true =
    ap {B = OutPoint → Bool} (λ (f : OutPoint → Option Coin) (p : OutPoint). is_some (f p)) coins ∙ changed_mapped same_point is_some (coins_in old) at (Some coin) in
    let whole : coin_places new ≡ (λ (p : OutPoint). is_some (coins_in new p)) = places ∙ ap (λ (f : OutPoint → Bool). changed same_point f at true) same ∙ sym held in
    λ p. ap (λ (f : OutPoint → Bool). f p) whole

module _ (old : Tables) (at : OutPoint) (free : coins_in old.coins at ≡ None) (kept : HasItsQueue old) where
  abbrev with_coins : CoinSlots → QueueSlots → Tables
  with_coins coins queue = record { coins = coins; names = old.names; queue = queue }

  pub coin_kept : (coin : Coin) (coins : CoinSlots) (queue : QueueSlots) → IsQueued at coin old.queue queue
      → coins_in coins ≡ changed same_point (coins_in old.coins) at (Some coin) → coin_places coins ≡ changed same_point (coin_places old.coins) at true → HasItsQueue (with_coins coins queue)
  coin_kept (New hash height) coins queue queued now places = record {
    queue = ap queued_in queued ∙ put_new (coins_in old.coins) (queued_in old.queue) at hash height kept.queue (none_free (coins_in old.coins) at (New hash height) free) ∙ ap queue_of (sym now);
    filled = record { coins = coins_filled old.coins coins at (New hash height) now places kept.filled.coins; names = kept.filled.names; queue = subst IsQueueFilled (sym queued) kept.filled.queue };
  }
  coin_kept (Named name height) coins queue queued now places = record {
    queue = put_named (coins_in old.coins) (queued_in old.queue) (queued_in queue) at name height kept.queue (none_free (coins_in old.coins) at (Named name height) free) queued.queued ∙ ap queue_of (sym now);
    filled = record { coins = coins_filled old.coins coins at (Named name height) now places kept.filled.coins; names = kept.filled.names; queue = queue_filled old.queue queue height at queued kept.filled.queue };
  }

-- ---- one value more

pub pushed : (old same : List ℕ → List Item) (name : List ℕ) (item : Item) → same ≡ old
    → changed bytes_eq same name (same name ++ item ∷ []) ≡ changed bytes_eq old name (old name ++ item ∷ [])
pushed old same name item e = ap (λ (f : List ℕ → List Item). changed bytes_eq f name (f name ++ item ∷ [])) e

pub names_filled : (old new : NameSlots) (name : List ℕ) (item : Item) → names_in new ≡ changed bytes_eq (names_in old) name (names_in old name ++ item ∷ [])
    → name_places new ≡ changed bytes_eq (name_places old) name true → AreNamesFilled old → AreNamesFilled new
names_filled old new name item names places filled =
    let has : List Item → Bool = λ items. is_some (entry_of items) in
    let same : name_places old ≡ (λ (n : List ℕ). has (names_in old n)) = fun_ext filled in
    let held : (λ (n : List ℕ). has (names_in new n)) ≡ changed bytes_eq (λ (n : List ℕ). has (names_in old n)) name true =
    ap {B = List ℕ → Bool} (λ (f : List ℕ → List Item) (n : List ℕ). has (f n)) names ∙ changed_mapped bytes_eq has (names_in old) name (names_in old name ++ item ∷ [])
    ∙ ap (λ (o : _). changed bytes_eq (λ (n : List ℕ). has (names_in old n)) name (is_some o)) (entry_of-more (names_in old name) item) in
    let whole : name_places new ≡ (λ (n : List ℕ). has (names_in new n)) = places ∙ ap (λ (f : List ℕ → Bool). changed bytes_eq f name true) same ∙ sym held in
    λ n. ap (λ (f : List ℕ → Bool). f n) whole

-- the first value of a name is that of an update, whose registration begins with it
pub first_value : (old new : List ℕ → List Item) (at : OutPoint) (height : ℕ) (name bytes : List ℕ) → old name ≡ []
    → new ≡ changed bytes_eq old name (old name ++ opened height at bytes ∷ []) → new ≡ with_operation old at (name_update name bytes) height
first_value old new at height name bytes first e = e ∙ ap (λ before. with_value old name (updated (entry_of before) height at bytes)) (sym first)

-- a commitment has no value
pub commitment_put : (at : OutPoint) (height : ℕ) (hash : Hash20) (old new : Tables) → coins_in new.coins ≡ changed same_point (coins_in old.coins) at (Some (New hash height))
    → new.names ≡ old.names → (coins_in old.coins at ≡ None → HasItsQueue old → HasItsQueue new) → IsPut (record { at = at; height = height; told = commitment hash.0 }) old new
commitment_put at height hash old new coins names kept = record { coins = coins; names = λ first. ap names_in names; queue = kept }
