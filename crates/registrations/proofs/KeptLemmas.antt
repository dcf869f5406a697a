-- What holds of histories and records whatever their registration heights are.
use Rattle.std.proofs.Common.{◌≡◌, ℕ, ◌+◌, ◌<◌, ◌^◌, List, [], ◌∷◌, ◌++◌, length, map, reverse, is_some, refl, sym, ap, subst, ◌∙◌, arith}
use Rattle.std.proofs.lemmas.List.{length-map, length-reverse, reverse-append, reverse-reverse}
use Rattle.std.specs.Prelude.{Option, Some, None}
use Rattle.std.specs.List.{AllByRecursion}
use Rattle.nmc_base.proofs.ListLemmas.{all-more}
use Rattle.chain_names.specs.declared.coin.Item.{Item}
use Rattle.chain_names.specs.declared.undo.Undo.{Undo}
use Rattle.chain_names.specs.declared.undo.UndoOp.{UndoOp}
use Rattle.chain_names.specs.declared.undo.UndoOp.TheVariants.{New, First, Update}
use Rattle.chain_names.specs.Coins.{entry_of}
use Rattle.chain_names.specs.Expired.{points_of}
use Rattle.chain_names.specs.Limits.{IsShortBefore, IsWithinLimitsOp, IsWithinLimits}
use Rattle.chain_names.specs.Seen.{seen_undo}
use Rattle.chain_names.specs.State.{FitsItem}
use Rattle.chain_names.specs.Tables.{NameSlots, names_in, name_places}
use Rattle.chain_names.specs.Undo.{UndoRecord}
use Rattle.name_tables.specs.Parts.{newest_first}
use Rattle.sound_states.specs.Touched.{spent_points, points_below}
use Rattle.undo_records.specs.Versions.{item_without, before_without, op_without, without_heights}
use Rattle.registrations.specs.Kept.{IsWithin, KeepsLimits}
use Rattle.registrations.specs.Told.{Histories, names_without, TellSame}
use Rattle.registrations.proofs.ToldLemmas.{entry_told}
use Rattle.registrations.proofs.WritableLemmas.{HaveText, filled_writable}
use Rattle.registrations.specs.Filling.{AreFilledBy}
use Rattle.chain_names.specs.Writable.{IsWritable}

-- ---- the same lists but for registration heights

-- what holds of what is told, and of it alone, holds of both
module _ {A : Type 0} (P : A → Type 0) (f : A → A) (to : (x : A) → P x → P (f x)) (from : (x : A) → P (f x) → P x) where
  all_to : (xs : List A) → AllByRecursion P xs → AllByRecursion P (map f xs)
  all_to [] all = tt
  all_to (x ∷ xs) all = (to x all.0, all_to xs all.1)

  all_from : (xs : List A) → AllByRecursion P (map f xs) → AllByRecursion P xs
  all_from [] all = tt
  all_from (x ∷ xs) all = (from x all.0, all_from xs all.1)

  all_same : (xs ys : List A) → map f xs ≡ map f ys → AllByRecursion P ys → AllByRecursion P xs
  all_same xs ys same all = all_from xs (subst (AllByRecursion P) (sym same) (all_to ys all))

-- ---- names and values

some_told : (before : Option Item) → is_some (before_without before) ≡ is_some before
some_told None = refl
some_told (Some item) = refl

entry_same : (names other : Histories) (name : List ℕ) → names_without names ≡ names_without other → is_some (entry_of (names name)) ≡ is_some (entry_of (other name))
entry_same names other name same =
    sym (some_told (entry_of (names name))) ∙ ap is_some (sym (entry_told (names name))) ∙ ap (λ (ns : Histories). is_some (entry_of (ns name))) same
    ∙ ap is_some (entry_told (other name)) ∙ some_told (entry_of (other name))

-- ---- records

before_to : (before : Option Item) → IsShortBefore before → IsShortBefore (before_without before)
before_to None short = tt
before_to (Some item) short = short

before_from : (before : Option Item) → IsShortBefore (before_without before) → IsShortBefore before
before_from None short = tt
before_from (Some item) short = short

op_to : (op : UndoOp) → IsWithinLimitsOp op → IsWithinLimitsOp (op_without op)
op_to (New made) limits = tt
op_to (First made spent coin name before) limits = (limits.0, limits.1, before_to before limits.2)
op_to (Update made spent coin name before) limits = (limits.0, limits.1, before_to before limits.2)

op_from : (op : UndoOp) → IsWithinLimitsOp (op_without op) → IsWithinLimitsOp op
op_from (New made) limits = tt
op_from (First made spent coin name before) limits = (limits.0, limits.1, before_from before limits.2)
op_from (Update made spent coin name before) limits = (limits.0, limits.1, before_from before limits.2)

undo_to : (u : UndoRecord) → IsWithinLimits u → IsWithinLimits (without_heights u)
undo_to u limits = record {
  few_ops = omega (arith, limits.few_ops, length-map u.ops op_without);
  few_expired = limits.few_expired;
  ops = all_to IsWithinLimitsOp op_without op_to op_from u.ops limits.ops;
  expired = limits.expired;
  sorted = limits.sorted;
}

undo_from : (u : UndoRecord) → IsWithinLimits (without_heights u) → IsWithinLimits u
undo_from u limits = record {
  few_ops = omega (arith, limits.few_ops, length-map u.ops op_without);
  few_expired = limits.few_expired;
  ops = all_from IsWithinLimitsOp op_without op_to op_from u.ops limits.ops;
  expired = limits.expired;
  sorted = limits.sorted;
}

-- ---- the newest first

pub all_reverse : {A : Type 0} (P : A → Type 0) (xs : List A) → AllByRecursion P xs → AllByRecursion P (reverse xs)
all_reverse P [] all = tt
all_reverse P (x ∷ xs) all = subst (AllByRecursion P) (sym (reverse-append (x ∷ []) xs)) (all-more P (reverse xs) x (all_reverse P xs all.1) all.0)

within_seen : (undos : List Undo) → AllByRecursion IsWithin undos → AllByRecursion IsWithinLimits (map seen_undo undos)
within_seen [] all = tt
within_seen (undo ∷ undos) all = (all.0, within_seen undos all.1)

seen_within : (undos : List Undo) → AllByRecursion IsWithinLimits (map seen_undo undos) → AllByRecursion IsWithin undos
seen_within [] all = tt
seen_within (undo ∷ undos) all = (all.0, seen_within undos all.1)

-- ---- coins

spent_same : (ops : List UndoOp) → spent_points (map op_without ops) ≡ spent_points ops
spent_same [] = refl
spent_same (New made ∷ ops) = spent_same ops
spent_same (First made spent coin name before ∷ ops) = ap (λ rest. spent ∷ rest) (spent_same ops)
spent_same (Update made spent coin name before ∷ ops) = ap (λ rest. spent ∷ rest) (spent_same ops)

points_same : (us : List UndoRecord) → points_below (map without_heights us) ≡ points_below us
points_same [] = refl
points_same (u ∷ us) = λ i. (spent_same u.ops i ++ points_of u.expired) ++ points_same us i

-- ---- all together

newest_length : (undos : List Undo) → length (newest_first undos) ≡ length undos
newest_length undos = length-reverse (map seen_undo undos) ∙ length-map undos seen_undo

pub keeps_limits : (old new : NameSlots) (before after : List Undo) → TellSame (names_in new) (names_in old) (newest_first after) (newest_first before) → AreFilledBy old new (newest_first before) (newest_first after)
    → KeepsLimits old new before after
keeps_limits old new before after told filled =
    let places = filled.places in
    let us = newest_first before in
    let them = newest_first after in
    record {
      places = places;
      filled = λ each name. ap (λ (ps : List ℕ → _). ps name) places ∙ each name ∙ sym (entry_same (names_in new) (names_in old) name told.names_told);
      short = λ short name.
          all_same (FitsItem name) item_without (λ item fits. fits) (λ item fits. fits) (names_in new name) (names_in old name) (ap (λ (ns : Histories). ns name) told.names_told) (short name);
      count =
          sym (newest_length after) ∙ sym (length-map them without_heights) ∙ ap length told.undos_told ∙ length-map us without_heights ∙ newest_length before;
      within = λ within.
          seen_within after
          (subst (AllByRecursion IsWithinLimits) (reverse-reverse (map seen_undo after))
          (all_reverse IsWithinLimits them
          (all_same IsWithinLimits without_heights undo_to undo_from them us told.undos_told (all_reverse IsWithinLimits (map seen_undo before) (within_seen before within)))));
      writable = λ fits.
          let texts = filled_writable us (names_in old) fits in
          record { items = subst HaveText (sym filled.names_are) texts.items; undos = subst (AllByRecursion IsWritable) (sym filled.undos_are) texts.undos };
      few = λ coins few.
          let same : points_below them ≡ points_below us = sym (points_same them) ∙ ap points_below told.undos_told ∙ points_same us in
          record { points = few.points; all = few.all; few = subst (λ l. length few.points + length l < 2 ^ 32) (sym same) few.few };
    }
