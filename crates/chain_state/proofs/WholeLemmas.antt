-- A block's work is whole, and is undone.
use Rattle.std.proofs.Common.{◌≡◌, ℕ, suc, Bool, true, false, cond, ◌&&◌, List, [], ◌∷◌, refl, sym, ap, subst, ◌∙◌}
use Rattle.std.proofs.Math.Path.{fun_ext}
use Rattle.std.specs.Prelude.{Option, Some, None, ◌||◌, ◌==◌}
use Rattle.std.specs.Option.{is_some}
use Rattle.std.specs.List.{list_any, AllByRecursion}
use Rattle.std.specs.List.Sorted.{IsStrictlySortedBy}
use Rattle.std.specs.Cmp.{unsigned_Decides}
use Rattle.nmc_base.specs.Roomy.{Roomy}
use Rattle.nmc_base.specs.Expiry.{due_height}
use Rattle.nmc_base.specs.declared.chain_ends.Profile.{Profile}
use Rattle.nmc_base.specs.declared.hashes.OutPoint.{OutPoint}
use Rattle.chain_names.specs.declared.coin.Coin.{Coin}
use Rattle.chain_names.specs.declared.coin.Coin.TheVariants.{New, Named}
use Rattle.chain_names.specs.declared.coin.HeldCoin.{HeldCoin}
use Rattle.chain_names.specs.Points.{same_point}
use Rattle.chain_names.specs.Changes.{restored, back_ops, unless_named_at, without_expired}
use Rattle.chain_names.specs.Tables.{coins_in, coin_places, names_in, queued_in, queue_places, is_named_at, FilledBut, AreNamesFilled}
use Rattle.chain_names.proofs.Points.{same_point-Decides}
use Rattle.chain_names.proofs.DueLemmas.{unless_expired-row, unless_expired-none}
use Rattle.chain_names.proofs.Shown.{true_is_not_false}
use Rattle.chain_names.specs.Fits.{AreUndoable}
use Rattle.chain_names.specs.Coins.{Maps, unless_expired}
use Rattle.chain_names.specs.State.{Stands}
use Rattle.chain_names.proofs.FitLemmas.{standing_live}
use Rattle.name_tables.specs.Tables.{maps_by}
use Rattle.chain_state.specs.Block.{IsReady}
use Rattle.name_tables.specs.Places.{spends, spends_at, is_queued_at}
use Rattle.chain_state.specs.Work.{may_be_empty, may_be_empty_at, IsWork}
use Rattle.name_tables.specs.Expiring.{IsDueCoin, Expires, CanReturn, Restores}
use Rattle.chain_names.specs.Expired.{is_held_at, IsGone, IsSortedByPoint}
use Rattle.chain_state.specs.Whole.{maps_returned, IsWhole, Finishes}
use Rattle.name_tables.specs.declared.tables.Tables.{Tables}
use Rattle.chain_state.specs.declared.work.Work.{Work}
use Rattle.chain_state.specs.declared.whole.Whole.{Whole}
use Rattle.name_tables.proofs.ExpiryLemmas.{restored_other}
use Rattle.name_tables.proofs.ListLemmas.{or_left, or_right, or_both}
use Rattle.name_tables.proofs.PlaceLemmas.{coin-placed, queued-placed}

-- ---- what is restored at an outpoint

-- at an outpoint where a coin expired
returned_there : (expired : List HeldCoin) (coins : OutPoint → Option Coin) (point : OutPoint) → list_any (is_held_at point) expired ≡ true → is_some (restored expired coins point) ≡ true
returned_there [] coins point some = absurd (true_is_not_false (sym some))
returned_there (held ∷ helds) coins point some = by held helds coins point (same_point held.at point) some (returned_there helds coins point)
  where
    by : (held : HeldCoin) (helds : List HeldCoin) (coins : OutPoint → Option Coin) (point : OutPoint) (b : Bool) → (b || list_any (is_held_at point) helds) ≡ true
        → (list_any (is_held_at point) helds ≡ true → is_some (restored helds coins point) ≡ true) → is_some (cond b (Some held.coin) (restored helds coins point)) ≡ true
    by held helds coins point true some later = refl
    by held helds coins point false some later = later some

-- coins of one row are restored as coins of that row
returned_row : (row : ℕ) (expired : List HeldCoin) (coins : OutPoint → Option Coin) (point : OutPoint) → AllByRecursion (λ h. is_named_at row (Some h.coin) ≡ true) expired
    → list_any (is_held_at point) expired ≡ true → is_named_at row (restored expired coins point) ≡ true
returned_row row [] coins point all some = absurd (true_is_not_false (sym some))
returned_row row (held ∷ helds) coins point all some = by (same_point held.at point) some (returned_row row helds coins point all.1)
  where
    by : (b : Bool) → (b || list_any (is_held_at point) helds) ≡ true → (list_any (is_held_at point) helds ≡ true → is_named_at row (restored helds coins point) ≡ true)
        → is_named_at row (cond b (Some held.coin) (restored helds coins point)) ≡ true
    by true some later = all.0
    by false some later = later some

-- each that expired at the outpoint is one of the row
queued_all : (row : ℕ) (expired : List HeldCoin) (point : OutPoint) → AllByRecursion (λ h. is_named_at row (Some h.coin) ≡ true) expired → list_any (is_queued_at row point) expired ≡ list_any (is_held_at point) expired
queued_all row [] point all = refl
queued_all row (held ∷ helds) point all = one (same_point held.at point) (is_named_at row (Some held.coin)) all.0 ∙ ap (λ b. same_point held.at point || b) (queued_all row helds point all.1)
  where
    one : (a b : Bool) → b ≡ true → ((a && b) || list_any (is_queued_at row point) helds) ≡ (a || list_any (is_queued_at row point) helds)
    one true b e = rw e refl
    one false b e = refl

-- ---- the coins are back, and the work is as it was

row_only : (row : ℕ) (coin : Coin) → is_named_at row (Some coin) ≡ true → (other : ℕ) → (row == other) ≡ false → is_named_at other (Some coin) ≡ false
row_only row (New hash made) is other apart = refl
row_only row (Named name made) is other apart = ap (λ n. n == other) ((unsigned_Decides made row).0 is) ∙ apart

none_of_other : (t : Tables) (row other : ℕ) (expired : List HeldCoin) (point : OutPoint) → (row == other) ≡ false → AllByRecursion (CanReturn t row) expired
    → list_any (is_queued_at other point) expired ≡ false
none_of_other t row other [] point apart all = refl
none_of_other t row other (held ∷ helds) point apart all =
    or_both _ _ (none (same_point held.at point) (is_named_at other (Some held.coin)) (row_only row held.coin all.0.of_row other apart)) (none_of_other t row other helds point apart all.1)
  where
    none : (a b : Bool) → b ≡ false → (a && b) ≡ false
    none true b e = e
    none false b e = refl

-- a coin that can return stands where none of another row does
free_there : (t : Tables) (row other : ℕ) (expired : List HeldCoin) (point : OutPoint) → (row == other) ≡ false → AllByRecursion (CanReturn t row) expired
    → list_any (is_held_at point) expired ≡ true → is_named_at other (coins_in t.coins point) ≡ false
free_there t row other [] point apart all some = absurd (true_is_not_false (sym some))
free_there t row other (held ∷ helds) point apart all some = by (same_point held.at point) refl some (free_there t row other helds point apart all.1)
  where
    by : (b : Bool) → same_point held.at point ≡ b → (b || list_any (is_held_at point) helds) ≡ true
        → (list_any (is_held_at point) helds ≡ true → is_named_at other (coins_in t.coins point) ≡ false) → is_named_at other (coins_in t.coins point) ≡ false
    by true is some later = ap (λ p. is_named_at other (coins_in t.coins p)) (sym ((same_point-Decides held.at point).0 is)) ∙ all.0.free other apart
    by false is some later = later some

of_rows : (t : Tables) (row : ℕ) (expired : List HeldCoin) → AllByRecursion (CanReturn t row) expired → AllByRecursion (λ h. is_named_at row (Some h.coin) ≡ true) expired
of_rows t row [] all = tt
of_rows t row (held ∷ helds) all = (all.0.of_row, of_rows t row helds all.1)

named_gone : (row : ℕ) (coin : Option Coin) → is_named_at row coin ≡ true → unless_named_at row coin ≡ None
named_gone row coin e = rw e refl

lost_named : (row : ℕ) (slot : Option Coin) (coin : Coin) → slot ≡ Some coin → unless_named_at row slot ≡ None → (b : Bool) → is_named_at row slot ≡ b → b ≡ true
lost_named row slot coin some none true is = refl
lost_named row slot coin some none false is = absurd (let both : Some coin ≡ None = sym some ∙ sym (ap (λ b. cond b None slot) is) ∙ none in cc)

module _ (w : Whole) (tables : Tables) (whole : IsWhole w) (back : Restores w.work.tables tables w.expired.items) where
  abbrev Returned : Work
  Returned = record { tables = tables; ops = w.work.ops; empty = w.work.empty; height = w.work.height }

  returned_maps : maps_by tables ≡ maps_returned w.work.tables w.expired.items
  returned_maps = λ i. record { coins = back.coins i; names = names_in (back.names i) }

  filled_again : (point : OutPoint) (b : Bool) → list_any (is_held_at point) w.expired.items ≡ b
      → (b ≡ false → is_some (coins_in w.work.tables.coins point) ≡ true) → is_some (restored w.expired.items (coins_in w.work.tables.coins) point) ≡ true
  filled_again point true is was = returned_there w.expired.items (coins_in w.work.tables.coins) point is
  filled_again point false is was = ap is_some (restored_other point w.expired.items (coins_in w.work.tables.coins) is) ∙ was refl

  returned_filled : FilledBut (may_be_empty w.work.ops.items w.work.empty.items) (coin_places tables.coins) (λ point. is_some (coins_in tables.coins point))
  returned_filled point here free =
      ap (λ f. is_some (f point)) back.coins
      ∙ filled_again point (list_any (is_held_at point) w.expired.items) refl
      (λ none. whole.coins_filled point (ap (λ f. f point) (sym back.places) ∙ here) (or_both _ _ free none))

  -- in the row in which coins expired, and in another
  abbrev Queued : ℕ → OutPoint → Type 0
  Queued height point = list_any (is_queued_at height point) w.expired.items ≡ false → is_named_at height (coins_in w.work.tables.coins point) ≡ true

  queued_here : (height : ℕ) (point : OutPoint) → (whole.row == height) ≡ true → Queued height point → (b : Bool) → list_any (is_held_at point) w.expired.items ≡ b
      → is_named_at height (restored w.expired.items (coins_in w.work.tables.coins) point) ≡ true
  queued_here height point is was true some =
      let row = (unsigned_Decides whole.row height).0 is in
      ap (λ n. is_named_at n (restored w.expired.items (coins_in w.work.tables.coins) point)) (sym row)
      ∙ returned_row whole.row w.expired.items (coins_in w.work.tables.coins) point (of_rows w.work.tables whole.row w.expired.items whole.returns) some
  queued_here height point is was false none =
      let row = (unsigned_Decides whole.row height).0 is in
      let nowhere = ap (λ n. list_any (is_queued_at n point) w.expired.items) (sym row)
      ∙ queued_all whole.row w.expired.items point (of_rows w.work.tables whole.row w.expired.items whole.returns) ∙ none in
      ap (is_named_at height) (restored_other point w.expired.items (coins_in w.work.tables.coins) none) ∙ was nowhere

  queued_there : (height : ℕ) (point : OutPoint) → (whole.row == height) ≡ false → Queued height point → (b : Bool) → list_any (is_held_at point) w.expired.items ≡ b
      → is_named_at height (restored w.expired.items (coins_in w.work.tables.coins) point) ≡ true
  queued_there height point apart was true some =
      absurd (true_is_not_false (sym (was (none_of_other w.work.tables whole.row height w.expired.items point apart whole.returns))
      ∙ free_there w.work.tables whole.row height w.expired.items point apart whole.returns some))
  queued_there height point apart was false none =
      ap (is_named_at height) (restored_other point w.expired.items (coins_in w.work.tables.coins) none)
      ∙ was (none_of_other w.work.tables whole.row height w.expired.items point apart whole.returns)

  queued_again : (height : ℕ) (point : OutPoint) → Queued height point → (b : Bool) → (whole.row == height) ≡ b
      → is_named_at height (restored w.expired.items (coins_in w.work.tables.coins) point) ≡ true
  queued_again height point was true is = queued_here height point is was (list_any (is_held_at point) w.expired.items) refl
  queued_again height point was false is = queued_there height point is was (list_any (is_held_at point) w.expired.items) refl

  returned_rows : (height : ℕ) → FilledBut (may_be_empty_at w.work.height w.work.ops.items w.work.empty.items height) (queue_places tables.queue height) (queued_in tables.queue height)
  returned_rows height point here free =
      ap (λ q. q height point) back.queue ∙ ap (λ f. is_named_at height (f point)) back.coins
      ∙ queued_again height point
      (λ none. ap (λ q. q height point) (sym whole.queue) ∙ whole.queue_filled height point (ap (λ q. q height point) (sym back.rows) ∙ here) (or_both _ _ free none))
      (whole.row == height) refl

  pub returned_work : IsWork Returned
  returned_work = record {
    queue = back.queue;
    fits = subst (AreUndoable w.work.height w.work.ops.items) (sym returned_maps) whole.fits;
    spent_placed = subst (λ places. AllByRecursion (λ o. (point : OutPoint) → spends point o ≡ true → places point ≡ true) w.work.ops.items) (sym back.places) whole.spent_placed;
    spent_rows = subst (λ rows. AllByRecursion (λ o. (height : ℕ) (point : OutPoint) → spends_at height point o ≡ true → rows height point ≡ true) w.work.ops.items) (sym back.rows) whole.spent_rows;
    coins_filled = returned_filled;
    queue_filled = returned_rows;
    names_filled = subst AreNamesFilled (sym back.names) whole.names_filled;
    room = whole.room;
  }

-- ---- the coins that are due are gone

named_is_named : (row : ℕ) (coin : Option Coin) (b : Bool) → is_named_at row coin ≡ b → (b ≡ false → is_some coin ≡ true → is_some (unless_named_at row coin) ≡ true)
named_is_named row coin true is e some = absurd (true_is_not_false e)
named_is_named row coin false is e some = ap (λ b. is_some (cond b None coin)) is ∙ some

some_row_coin : (row : ℕ) (coin : Option Coin) → is_named_at row coin ≡ true → unless_named_at row coin ≡ None
some_row_coin row coin e = rw e refl

named_some : (row : ℕ) (coin : Option Coin) → is_named_at row coin ≡ true → is_some coin ≡ true
named_some row None e = absurd (true_is_not_false (sym e))
named_some row (Some coin) e = refl

of_the_row : (row : ℕ) (coins : OutPoint → Option Coin) (helds : List HeldCoin) → AllByRecursion (IsDueCoin coins row) helds → AllByRecursion (λ h. is_named_at row (Some h.coin) ≡ true) helds
of_the_row row coins [] all = tt
of_the_row row coins (held ∷ helds) all = (all.0.of_row, of_the_row row coins helds all.1)

kept_named : (row height : ℕ) (coin : Option Coin) (b : Bool) → is_named_at row coin ≡ b → b ≡ false → is_named_at height coin ≡ true → is_named_at height (unless_named_at row coin) ≡ true
kept_named row height coin true is e named = absurd (true_is_not_false e)
kept_named row height coin false is e named = ap (λ b. is_named_at height (cond b None coin)) is ∙ named

same_row : (row height : ℕ) (coin : Option Coin) → is_named_at row coin ≡ true → is_named_at height coin ≡ true → row ≡ height
same_row row height None a b = absurd (true_is_not_false (sym a))
same_row row height (Some (New hash made)) a b = absurd (true_is_not_false (sym a))
same_row row height (Some (Named name made)) a b = sym ((unsigned_Decides made row).0 a) ∙ (unsigned_Decides made height).0 b

-- a coin that stands isn't expired
lives : (profile : Profile) (height : ℕ) (maps : Maps) → Stands profile height height maps → (point : OutPoint) (slot : Option Coin) → maps.coins point ≡ slot → unless_expired profile height slot ≡ slot
lives profile height maps stands point None is = refl
lives profile height maps stands point (Some coin) is = standing_live profile height maps point coin stands is

-- the coins of the row that is due expired after the block
pub record HasExpired (profile : Profile) (old : Work) (tables : Tables) (expired : Roomy HeldCoin) : Type 0 where
  pub ready : IsReady profile old
  pub row : ℕ
  pub due : due_height profile (suc old.height) ≡ Some row
  pub gone : Expires old.tables tables row expired.items

module _ (profile : Profile) (old : Work) (tables : Tables) (expired : Roomy HeldCoin) (e : HasExpired profile old tables expired) where
  abbrev Done : Whole
  Done = record { work = record { tables = tables; ops = old.ops; empty = old.empty; height = old.height }; expired = expired }

  -- a coin of the row is among those that expired
  among : (point : OutPoint) → is_named_at e.row (coins_in old.tables.coins point) ≡ true → (b : Bool) → list_any (is_held_at point) expired.items ≡ b → b ≡ true
  among point named true is = refl
  among point named false is =
      let before = ap (λ f. f point) (sym e.gone.back) ∙ restored_other point expired.items (coins_in tables.coins) is ∙ ap (λ f. f point) e.gone.coins ∙ some_row_coin e.row _ named in
      absurd (true_is_not_false (sym (named_some e.row _ named) ∙ ap is_some before))

  done_maps : maps_by tables ≡ without_expired profile (suc old.height) (maps_by old.tables)
  done_maps = λ i. record {
    coins = (e.gone.coins ∙ fun_ext (λ point. sym (unless_expired-row profile old.height e.row (coins_in old.tables.coins point) e.due (lives profile old.height (maps_by old.tables) e.ready.standing point (coins_in old.tables.coins point) refl)))) i;
    names = names_in (e.gone.names i);
  }

  done_returned : maps_returned tables expired.items ≡ maps_by old.tables
  done_returned = λ i. record { coins = e.gone.back i; names = names_in (e.gone.names i) }

  done_filled : FilledBut (λ point. may_be_empty old.ops.items old.empty.items point || list_any (is_held_at point) expired.items) (coin_places tables.coins) (λ point. is_some (coins_in tables.coins point))
  done_filled point here free =
      let was = e.ready.work.coins_filled point (ap (λ f. f point) (sym e.gone.places) ∙ here) (or_left _ _ free) in
      ap (λ f. is_some (f point)) e.gone.coins
      ∙ named_is_named e.row (coins_in old.tables.coins point) (is_named_at e.row (coins_in old.tables.coins point)) refl
      (not_named point (is_named_at e.row (coins_in old.tables.coins point)) refl (or_right (may_be_empty old.ops.items old.empty.items point) _ free)) was
    where
      not_named : (point : OutPoint) (b : Bool) → is_named_at e.row (coins_in old.tables.coins point) ≡ b → list_any (is_held_at point) expired.items ≡ false → b ≡ false
      not_named point true is none = absurd (true_is_not_false (sym (among point is (list_any (is_held_at point) expired.items) refl) ∙ none))
      not_named point false is none = refl

  done_rows : (height : ℕ) → FilledBut (λ point. may_be_empty_at old.height old.ops.items old.empty.items height point || list_any (is_queued_at height point) expired.items) (queue_places tables.queue height) (queued_in tables.queue height)
  done_rows height point here free =
      let was = ap (λ q. q height point) (sym e.ready.work.queue) ∙ e.ready.work.queue_filled height point (ap (λ q. q height point) (sym e.gone.rows) ∙ here) (or_left _ _ free) in
      ap (λ q. q height point) e.gone.queue ∙ ap (λ f. is_named_at height (f point)) e.gone.coins
      ∙ kept_named e.row height (coins_in old.tables.coins point) (is_named_at e.row (coins_in old.tables.coins point)) refl
      (not_of_row (is_named_at e.row (coins_in old.tables.coins point)) refl was (or_right (may_be_empty_at old.height old.ops.items old.empty.items height point) _ free)) was
    where
      not_of_row : (b : Bool) → is_named_at e.row (coins_in old.tables.coins point) ≡ b → is_named_at height (coins_in old.tables.coins point) ≡ true
          → list_any (is_queued_at height point) expired.items ≡ false → b ≡ false
      not_of_row true is named none =
          let row_is = same_row e.row height (coins_in old.tables.coins point) is named in
          let nowhere = sym (queued_all e.row expired.items point (of_the_row e.row (coins_in old.tables.coins) expired.items e.gone.each)) ∙ ap (λ n. list_any (is_queued_at n point) expired.items) row_is ∙ none in
          absurd (true_is_not_false (sym (among point is (list_any (is_held_at point) expired.items) refl) ∙ nowhere))
      not_of_row false is named none = refl

  can_return : (helds : List HeldCoin) → AllByRecursion (IsDueCoin (coins_in old.tables.coins) e.row) helds → AllByRecursion (CanReturn tables e.row) helds
  can_return [] all = tt
  can_return (held ∷ helds) all =
      let was = all.0.held_is in
      let named = ap (is_named_at e.row) was ∙ all.0.of_row in (
        record {
          of_row = all.0.of_row;
          place = ap (λ f. f held.at) e.gone.places ∙ coin-placed old.tables.coins held.at held.coin was;
          row_place = ap (λ q. q e.row held.at) e.gone.rows ∙ queued-placed old.tables.queue e.row held.at (ap (λ q. q e.row held.at) e.ready.work.queue ∙ named);
          free = λ other apart. ap (λ f. is_named_at other (f held.at)) e.gone.coins ∙ ap (is_named_at other) (some_row_coin e.row (coins_in old.tables.coins held.at) named);
        },
        can_return helds all.1,
      )

  gone_each : (helds : List HeldCoin) → AllByRecursion (IsDueCoin (coins_in old.tables.coins) e.row) helds → AllByRecursion (IsGone (coins_in old.tables.coins) (coins_in tables.coins)) helds
  gone_each [] all = tt
  gone_each (held ∷ helds) all =
      let was = all.0.held_is in (
        record {
          now_is = was;
          next_is = ap (λ f. f held.at) e.gone.coins ∙ named_gone e.row (coins_in old.tables.coins held.at) (ap (is_named_at e.row) was ∙ all.0.of_row);
        },
        gone_each helds all.1,
      )

  gone_all : (point : OutPoint) (coin : Coin) → coins_in old.tables.coins point ≡ Some coin → coins_in tables.coins point ≡ None → list_any (is_held_at point) expired.items ≡ true
  gone_all point coin now next =
      e.gone.all point (ap (λ q. q e.row point) e.ready.work.queue
      ∙ lost_named e.row (coins_in old.tables.coins point) coin now (ap (λ f. f point) (sym e.gone.coins) ∙ next) _ refl)

  pub finished : Finishes profile old Done
  finished = record {
    height = refl;
    ops = refl;
    maps = done_maps;
    before = ap (back_ops old.ops.items) done_returned;
    due = record { each = gone_each expired.items e.gone.each; all = gone_all };
    sorted = e.gone.sorted;
    whole = record {
      queue = e.gone.queue;
      fits = subst (AreUndoable old.height old.ops.items) (sym done_returned) e.ready.work.fits;
      spent_placed = subst (λ places. AllByRecursion (λ o. (point : OutPoint) → spends point o ≡ true → places point ≡ true) old.ops.items) (sym e.gone.places) e.ready.work.spent_placed;
      spent_rows = subst (λ rows. AllByRecursion (λ o. (height : ℕ) (point : OutPoint) → spends_at height point o ≡ true → rows height point ≡ true) old.ops.items) (sym e.gone.rows) e.ready.work.spent_rows;
      coins_filled = done_filled;
      queue_filled = done_rows;
      names_filled = subst AreNamesFilled (sym e.gone.names) e.ready.work.names_filled;
      none_empty = e.ready.none_empty;
      room = e.ready.work.room;
      row = e.row;
      returns = can_return expired.items e.gone.each;
    };
  }

-- ---- none is due

pub finished_none : (profile : Profile) (old : Work) (expired : Roomy HeldCoin) → IsReady profile old → due_height profile (suc old.height) ≡ None → expired.items ≡ []
    → Finishes profile old (record { work = old; expired = expired })
unfolding IsStrictlySortedBy
finished_none profile old expired ready undue none = record {
  height = refl;
  ops = refl;
  maps = λ i. record { coins = fun_ext (λ point. sym (unless_expired-none profile old.height (coins_in old.tables.coins point) undue (lives profile old.height (maps_by old.tables) ready.standing point (coins_in old.tables.coins point) refl))) i; names = names_in old.tables.names };
  before = ap (λ es. back_ops old.ops.items (maps_returned old.tables es)) none;
  due = record {
    each = subst (AllByRecursion (IsGone (coins_in old.tables.coins) (coins_in old.tables.coins))) (sym none) tt;
    all = λ point coin now next. absurd (let both : Some coin ≡ None = sym now ∙ next in cc);
  };
  sorted = subst IsSortedByPoint (sym none) tt;
  whole = record {
    queue = ready.work.queue;
    fits = subst (λ es. AreUndoable old.height old.ops.items (maps_returned old.tables es)) (sym none) ready.work.fits;
    spent_placed = ready.work.spent_placed;
    spent_rows = ready.work.spent_rows;
    coins_filled = λ point here free. ready.work.coins_filled point here (or_left _ _ free);
    queue_filled = λ height point here free. ready.work.queue_filled height point here (or_left _ _ free);
    names_filled = ready.work.names_filled;
    none_empty = ready.none_empty;
    room = ready.work.room;
    row = 0;
    returns = subst (AllByRecursion (CanReturn old.tables 0)) (sym none) tt;
  };
}
