-- What is read of the queue at a height, of the row that is there or of none.
use Rattle.std.proofs.Common.{◌≡◌, ℕ, cond, List, Bool, true, false, Option, Some, None, is_some, nat_eq, refl, sym, ap, ◌∙◌, true≢false}
use Rattle.std.proofs.lemmas.Bool.{eqb-true}
use Rattle.std.proofs.lemmas.Map.Made.{is_some-lookup}
use Rattle.std.specs.List.{list_any}
use Rattle.std.specs.Map.{lookup, keys_of}
use Rattle.indexmap.specs.IndexSet.{insert_key}
use Rattle.nmc_base.specs.declared.hashes.OutPoint.{OutPoint}
use Rattle.chain_names.specs.Points.{same_point, changed}
use Rattle.chain_names.specs.Tables.{QueueSlots, row_of, row_at, queued_in, queue_places, row_points, is_filled}
use Rattle.chain_names.proofs.Changed.{changed-kept, read_at-changed}
use Rattle.chain_names.proofs.Points.{same_point-true}
use Rattle.expiry_queue.specs.OneRow.{RowSlots, row_queued, row_places}

-- what is queued, and what has a place, in a row or in none
abbrev pub queued_of : Option RowSlots → OutPoint → Bool
queued_of row = row_queued (row_of row)

abbrev pub places_of : Option RowSlots → OutPoint → Bool
places_of row = row_places (row_of row)

-- a change to the value that is there
pub height_kept : {V : Type 0} (f : ℕ → V) (height : ℕ) (value : V) → f height ≡ value → changed nat_eq f height value ≡ f
height_kept f height value h = changed-kept nat_eq eqb-true f height value h

pub point_kept : {V : Type 0} (f : OutPoint → V) (point : OutPoint) (value : V) → f point ≡ value → changed same_point f point value ≡ f
point_kept f point value h = changed-kept same_point same_point-true f point value h

-- no place, and so not filled
pub not_filled : (place : Option Bool) → false ≡ is_some place → is_filled place ≡ false
not_filled None h = refl
not_filled (Some filled) h = absurd (true≢false (sym h))

-- what is filled has a place
pub placed_where_filled : (place : Option Bool) → true ≡ is_filled place → is_some place ≡ true
placed_where_filled None h = absurd (true≢false h)
placed_where_filled (Some filled) h = refl

-- one point of one row is another, and so it is in the queue
module _ (old new : QueueSlots) (height : ℕ) (before after : RowSlots) (point : OutPoint) (value : RowSlots → Bool)
    (updates : (h : ℕ) → lookup (nat_eq h) new ≡ cond (nat_eq height h) (Some after) (lookup (nat_eq h) old))
    (was : row_at old height ≡ before) where
  pub queued_in-changed : row_queued after ≡ changed same_point (row_queued before) point (value before)
      → queued_in new ≡ changed nat_eq (queued_in old) height (changed same_point (queued_in old height) point (value (row_at old height)))
  queued_in-changed row =
      read_at-changed nat_eq queued_of old new height (Some after) updates
      ∙ ap (changed nat_eq (queued_in old) height) (row ∙ ap (λ (r : RowSlots). changed same_point (row_queued r) point (value r)) (sym was))

  pub queue_places-changed : row_places after ≡ changed same_point (row_places before) point (value before)
      → queue_places new ≡ changed nat_eq (queue_places old) height (changed same_point (queue_places old height) point (value (row_at old height)))
  queue_places-changed row =
      read_at-changed nat_eq places_of old new height (Some after) updates
      ∙ ap (changed nat_eq (queue_places old) height) (row ∙ ap (λ (r : RowSlots). changed same_point (row_places r) point (value r)) (sym was))

-- the outpoints that have a place in a row or in none
abbrev pub points_of : Option RowSlots → List OutPoint
points_of row = keys_of (row_of row)

-- one row is another, and so are its outpoints in the queue
pub row_points-changed : (old new : QueueSlots) (height : ℕ) (before after : RowSlots) (points : List OutPoint → List OutPoint)
    → ((h : ℕ) → lookup (nat_eq h) new ≡ cond (nat_eq height h) (Some after) (lookup (nat_eq h) old))
    → row_at old height ≡ before → keys_of after ≡ points (keys_of before)
    → row_points new ≡ changed nat_eq (row_points old) height (points (row_points old height))
row_points-changed old new height before after points updates was row =
    read_at-changed nat_eq points_of old new height (Some after) updates
    ∙ ap (changed nat_eq (row_points old) height) (row ∙ ap (λ (r : RowSlots). points (keys_of r)) (sym was))

-- a place that is there stands where it stood
pub placed_key : (row : RowSlots) (point : OutPoint) → is_some (lookup (same_point point) row) ≡ true → insert_key same_point (keys_of row) point ≡ keys_of row
placed_key row point here =
    let found : list_any (same_point point) (keys_of row) ≡ true = sym (is_some-lookup (same_point point) row) ∙ here in
    rw found refl
