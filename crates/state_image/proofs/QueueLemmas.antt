-- Coins that are put one after the other, each behind a greater outpoint, with the queue beside them.
use Rattle.std.proofs.Common.{◌≡◌, ◌≢◌, ℕ, Bool, true, false, cond, List, refl, sym, ap, subst, ◌∙◌}
use Rattle.std.proofs.Math.Path.{fun_ext}
use Rattle.std.specs.Ordering.{ordering_reverse}
use Rattle.std.specs.Option.{is_some}
use Rattle.std.specs.Prelude.{Option, Some, None, Ok, Err, nat_eq}
use Rattle.std.specs.declared.cmp.Ordering.{Ordering}
use Rattle.std.specs.declared.cmp.Ordering.TheVariants.{Less, Equal, Greater}
use Rattle.nmc_base.specs.declared.hashes.OutPoint.{OutPoint}
use Rattle.nmc_base.specs.Hash.{outpoint_cmp}
use Rattle.block_grammar.specs.Combinators.{◌>>=◌}
use Rattle.block_grammar.proofs.ReaderLaws.{bind_ok, ok_is}
use Rattle.chain_names.specs.declared.coin.Coin.{Coin}
use Rattle.chain_names.specs.declared.coin.Coin.TheVariants.{New, Named}
use Rattle.chain_names.specs.declared.coin.HeldCoin.{HeldCoin}
use Rattle.chain_names.specs.Points.{same_point, changed}
use Rattle.chain_names.specs.Tables.{CoinSlots, QueueSlots, coins_in, coin_places, queued_in, queue_places, queue_of, AreCoinsFilled, IsQueueFilled}
use Rattle.chain_names.specs.Writable.{IsAfter}
use Rattle.chain_names.proofs.Changed.{changed_mapped}
use Rattle.chain_names.proofs.OrderLemmas.{outpoint_cmp-total}
use Rattle.chain_names.proofs.Points.{same_point-true}
use Rattle.name_tables.specs.declared.tables.Tables.{Tables}
use Rattle.name_tables.proofs.TableLemmas.{put_new, put_named, none_free}
use Rattle.undo_records.specs.declared.fault.FaultKind.TheVariants.{Unsorted}
use Rattle.undo_records.specs.Reading.{point_from, is_after, later_point_from}
use Rattle.undo_records.proofs.CoinLaws.{after_is}
use Rattle.image_grammar.specs.Reading.{coin_from, entry_of_pair, entry_from}
use Rattle.image_grammar.specs.Resuming.{Answer}
use Rattle.state_image.specs.Queueing.{IsQueuedAt, IsQueued, HasItsQueue}
use Rattle.state_image.specs.Standing.{AreUpTo, no_coins}

-- ---- one coin more

pub row_changed : (P Q : ℕ → OutPoint → Bool) (height : ℕ) (at : OutPoint) → P ≡ Q
    → changed nat_eq P height (changed same_point (P height) at true) ≡ changed nat_eq Q height (changed same_point (Q height) at true)
row_changed P Q height at same = ap (λ (p : ℕ → OutPoint → Bool). changed nat_eq p height (changed same_point (p height) at true)) same

queue_filled : (old new : QueueSlots) (height : ℕ) (at : OutPoint) → IsQueuedAt height at old new → IsQueueFilled old → IsQueueFilled new
queue_filled old new height at queued filled =
    let same : queue_places old ≡ queued_in old = fun_ext (λ h. fun_ext (λ p. filled h p)) in
    let whole : queue_places new ≡ queued_in new = queued.places ∙ row_changed (queue_places old) (queued_in old) height at same ∙ sym queued.queued in
    λ h p. ap (λ (q : ℕ → OutPoint → Bool). q h p) whole

coins_filled : (old new : CoinSlots) (at : OutPoint) (coin : Coin) → coins_in new ≡ changed same_point (coins_in old) at (Some coin)
    → coin_places new ≡ changed same_point (coin_places old) at true → AreCoinsFilled old → AreCoinsFilled new
coins_filled old new at coin coins places filled =
    let same : coin_places old ≡ (λ (p : OutPoint). is_some (coins_in old p)) = fun_ext filled in
    let held : (λ (p : OutPoint). is_some (coins_in new p)) ≡ changed same_point (λ (p : OutPoint). is_some (coins_in old p)) at true =
    ap {B = OutPoint → Bool} (λ (f : OutPoint → Option Coin) (p : OutPoint). is_some (f p)) coins ∙ changed_mapped same_point is_some (coins_in old) at (Some coin) in
    let whole : coin_places new ≡ (λ (p : OutPoint). is_some (coins_in new p)) = places ∙ ap (λ (f : OutPoint → Bool). changed same_point f at true) same ∙ sym held in
    λ p. ap (λ (f : OutPoint → Bool). f p) whole

module _ (old : Tables) (at : OutPoint) (free : coins_in old.coins at ≡ None) (kept : HasItsQueue old) where
  abbrev with_coins : CoinSlots → QueueSlots → Tables
  with_coins coins queue = record { coins = coins; names = old.names; queue = queue }

  pub coin_kept : (coin : Coin) (coins : CoinSlots) (queue : QueueSlots) → IsQueued at coin old.queue queue
      → coins_in coins ≡ changed same_point (coins_in old.coins) at (Some coin) → coin_places coins ≡ changed same_point (coin_places old.coins) at true → HasItsQueue (with_coins coins queue)
  coin_kept (New hash height) coins queue queued now places = record {
    queue = ap queued_in queued ∙ put_new (coins_in old.coins) (queued_in old.queue) at hash height kept.queue (none_free (coins_in old.coins) at (New hash height) free) ∙ ap queue_of (sym now);
    filled = record { coins = coins_filled old.coins coins at (New hash height) now places kept.filled.coins; names = kept.filled.names; queue = subst IsQueueFilled (sym queued) kept.filled.queue };
  }
  coin_kept (Named name height) coins queue queued now places = record {
    queue = put_named (coins_in old.coins) (queued_in old.queue) (queued_in queue) at name height kept.queue (none_free (coins_in old.coins) at (Named name height) free) queued.queued ∙ ap queue_of (sym now);
    filled = record { coins = coins_filled old.coins coins at (Named name height) now places kept.filled.coins; names = kept.filled.names; queue = queue_filled old.queue queue height at queued kept.filled.queue };
  }

-- ---- outpoints that rise

reversed : (o : Ordering) → o ≡ Less → o ≡ ordering_reverse o → ⊥
reversed Less is back = cc
reversed Equal is back = cc
reversed Greater is back = cc

not_itself : (at : OutPoint) → outpoint_cmp at at ≢ Less
not_itself at less = reversed (outpoint_cmp at at) less (outpoint_cmp-total.antisymm at at)

none_held : (coins : OutPoint → Option Coin) (point : OutPoint) (coin : Coin) → coins ≡ no_coins → coins point ≡ Some coin → ⊥
none_held coins point coin none here = let e : None ≡ Some coin = ap (λ (f : OutPoint → Option Coin). f point) (sym none) ∙ here in absurd cc

-- an outpoint behind the last one has no coin
pub free_at : (last : Option OutPoint) (coins : OutPoint → Option Coin) (at : OutPoint) → AreUpTo last coins → IsAfter last at → coins at ≡ None
free_at None coins at up after = ap (λ (f : OutPoint → Option Coin). f at) up
free_at (Some last) coins at up after = by (coins at) refl
  where
    by : (o : Option Coin) → coins at ≡ o → o ≡ None
    by None is = refl
    by (Some coin) is = absurd (up at coin is after)

-- a coin that stands before is none behind the next outpoint
lower : (last : Option OutPoint) (coins : OutPoint → Option Coin) (at point : OutPoint) (coin : Coin) → AreUpTo last coins → IsAfter last at → coins point ≡ Some coin → outpoint_cmp at point ≢ Less
lower None coins at point coin up after here less = none_held coins point coin up here
lower (Some last) coins at point coin up after here less = up point coin here (outpoint_cmp-total.trans last at point after less)

pub up_to_next : (last : Option OutPoint) (coins now : OutPoint → Option Coin) (at : OutPoint) (held : Coin) → AreUpTo last coins → IsAfter last at
    → now ≡ changed same_point coins at (Some held) → AreUpTo (Some at) now
up_to_next last coins now at held up after is point coin here less = by (same_point at point) refl (ap (λ (f : OutPoint → Option Coin). f point) (sym is) ∙ here)
  where
    by : (b : Bool) → same_point at point ≡ b → cond b (Some held) (coins point) ≡ Some coin → ⊥
    by true same e = not_itself at (subst (λ (p : OutPoint). outpoint_cmp at p ≡ Less) (sym (same_point-true at point same)) less)
    by false same e = lower last coins at point coin up after e less

-- the outpoint that was read is behind the last one
pub entry_after : (last : Option OutPoint) (bytes : List ℕ) (held : HeldCoin) (rest : List ℕ) → Ok (held, rest) ≡ entry_from last bytes → IsAfter last held.at
unfolding later_point_from
entry_after last bytes held rest e =
    let a = bind_ok _ (λ (x : (OutPoint × Coin) × List ℕ). Ok (entry_of_pair x.0, x.1)) (held, rest) (sym e) in
    let b = bind_ok (later_point_from last bytes) (λ (x : OutPoint × List ℕ). coin_from x.1 >>= λ (y : Coin × List ℕ). Ok ((x.0, y.0), y.1)) a.0 a.1 in
    let c = bind_ok (coin_from b.0.1) (λ (y : Coin × List ℕ). Ok ((b.0.0, y.0), y.1)) a.0 b.2 in
    let d = bind_ok (point_from bytes) (λ (x : OutPoint × List ℕ). cond (is_after last x.0) (Ok x) (Err (Unsorted, bytes))) b.0 b.1 in
    let same : b.0.0 ≡ held.at = ap (λ (x : (OutPoint × Coin) × List ℕ). x.0.0) (ok_is ((b.0.0, c.0.0), c.0.1) a.0 c.2) ∙ ap (λ (x : HeldCoin × List ℕ). x.0.at) (ok_is (entry_of_pair a.0.0, a.0.1) (held, rest) a.2) in
    subst (IsAfter last) same (after_is last b.0.0 (tested d.0 b.0 (is_after last d.0.0) refl d.2))
  where
    tested : (x y : OutPoint × List ℕ) (t : Bool) → is_after last x.0 ≡ t → cond {A = Answer OutPoint} t (Ok x) (Err (Unsorted, bytes)) ≡ Ok y → is_after last y.0 ≡ true
    tested x y true is e' = ap (λ (z : OutPoint × List ℕ). is_after last z.0) (sym (ok_is x y e')) ∙ is
    tested x y false is e' = absurd cc
