-- The records of a mirror, once one was put above or taken away.
use Rattle.std.proofs.Common.{◌≡◌, ℕ, zero, suc, ◌+◌, ◌-◌, ◌≤◌, arith, List, [], ◌∷◌, ◌++◌, length, reverse, take, map, Some, None, refl, sym, ap, ◌∙◌, length-append, append-nil}
use Rattle.std.proofs.lemmas.Grind.{flat_map-append}
use Rattle.std.specs.List.{AllByRecursion, flat_map, slice_get}
use Rattle.std.specs.Option.{option_map}
use Rattle.std.proofs.lemmas.List.{length-map, reverse-append}
use Rattle.chain_names.specs.Changes.{undone}
use Rattle.chain_names.specs.Coins.{Maps}
use Rattle.chain_names.specs.Seen.{seen_undo}
use Rattle.chain_names.specs.Undo.{UndoRecord}
use Rattle.chain_names.specs.declared.undo.Undo.{Undo}
use Rattle.chain_state.specs.StageBack.{newest_work}
use Rattle.undo_records.specs.Text.{undo_text}
use Rattle.undo_records.specs.declared.version.Version.TheVariants.{Two}
use Rattle.image_writer.specs.Lengths.{capped}
use Rattle.sliced_save.specs.Kept.{undos_length}
use Rattle.sliced_save.specs.Mirror.{maps_below}
use Rattle.sliced_save.specs.Steps.{newest_of}
use Rattle.sliced_save.specs.declared.most.TheConstants.{MOST}

-- ---- lists

pub all_append : {X : Type 0} (P : X → Type 0) (xs : List X) (x : X) → AllByRecursion P xs → P x → AllByRecursion P (xs ++ x ∷ [])
all_append P [] x all here = (here, tt)
all_append P (y ∷ xs) x all here = (all.0, all_append P xs x all.1 here)

pub all_take : {X : Type 0} (P : X → Type 0) (n : ℕ) (xs : List X) → AllByRecursion P xs → AllByRecursion P (take n xs)
all_take P zero xs all = tt
all_take P (suc n) [] all = tt
all_take P (suc n) (x ∷ xs) all = (all.0, all_take P n xs all.1)

module _ {X : Type 0} (text : X → List ℕ) where
  pub size_append : (xs : List X) (x : X) → length (flat_map text (xs ++ x ∷ [])) ≡ length (flat_map text xs) + length (text x)
  size_append xs x =
      ap length (flat_map-append text xs (x ∷ [])) ∙ length-append (flat_map text xs) (text x ++ []) ∙ ap (λ (l : List ℕ). length (flat_map text xs) + length l) (append-nil (text x))

  size_front : (xs : List X) (i : ℕ) (x : X) → i + 1 ≡ length xs → slice_get xs i ≡ Some x → length (text x) + length (flat_map text (take i xs)) ≡ length (flat_map text xs)
  size_front [] i x e here = absurd (cc here)
  size_front (y ∷ []) zero x e here =
      let same : y ≡ x = cc here in
      omega (arith, length-append (text y) [], ap (λ (z : X). length (text z)) same)
  size_front (y ∷ []) (suc i) x e here = absurd (omega (arith, e))
  size_front (y ∷ z ∷ xs) zero x e here = absurd (omega (arith, e))
  size_front (y ∷ z ∷ xs) (suc i) x e here =
      omega (arith, length-append (text y) (flat_map text (z ∷ xs)), length-append (text y) (flat_map text (take i (z ∷ xs))), size_front (z ∷ xs) i x (omega (arith, e)) here)

  -- without the last
  pub size_last : (xs : List X) (i : ℕ) (x : X) → i + 1 ≡ length xs → slice_get xs i ≡ Some x → length (text x) + length (flat_map text (take (length xs - 1) xs)) ≡ length (flat_map text xs)
  size_last xs i x e here =
      let last : length xs - 1 ≡ i = omega (arith, e) in
      rw last (size_front xs i x e here)

pub slice_get_map : {X Y : Type 0} (f : X → Y) (xs : List X) (i : ℕ) → slice_get (map f xs) i ≡ option_map f (slice_get xs i)
slice_get_map f [] i = refl
slice_get_map f (x ∷ xs) zero = refl
slice_get_map f (x ∷ xs) (suc i) = slice_get_map f xs i

map_take : {X Y : Type 0} (f : X → Y) (n : ℕ) (xs : List X) → map f (take n xs) ≡ take n (map f xs)
map_take f zero xs = refl
map_take f (suc n) [] = refl
map_take f (suc n) (x ∷ xs) = ap (λ (l : List _). f x ∷ l) (map_take f n xs)

-- ---- records

-- the newest one stands last
newest_front : (undos : List UndoRecord) (one other : UndoRecord) → newest_of ((undos ++ one ∷ []) ++ other ∷ []) ≡ newest_of (undos ++ one ∷ [])
newest_front [] one other = refl
newest_front (undo ∷ undos) one other = refl

behind : (undo : UndoRecord) (undos : List UndoRecord) → reverse (undo ∷ undos) ≡ reverse undos ++ undo ∷ []
behind undo undos = reverse-append (undo ∷ []) undos

pub newest_last : (undos : List UndoRecord) (i : ℕ) → i + 1 ≡ length undos → newest_of (reverse undos) ≡ slice_get undos i
newest_last [] i e = absurd (omega (arith, e))
newest_last (undo ∷ []) zero e = refl
newest_last (undo ∷ []) (suc i) e = absurd (omega (arith, e))
newest_last (undo ∷ next ∷ undos) zero e = absurd (omega (arith, e))
newest_last (undo ∷ next ∷ undos) (suc i) e =
    ap newest_of (behind undo (next ∷ undos) ∙ ap (λ (l : List UndoRecord). l ++ undo ∷ []) (behind next undos)) ∙ newest_front (reverse undos) next undo
    ∙ sym (ap newest_of (behind next undos)) ∙ newest_last (next ∷ undos) i (omega (arith, e))

-- the maps that the newest one leads back to
pub below_newest : (undos : List UndoRecord) (undo : UndoRecord) (maps : Maps) → Some undo ≡ newest_of undos → maps_below undos maps ≡ undone undo.ops undo.expired maps
below_newest [] undo maps e = absurd (cc e)
below_newest (first ∷ undos) undo maps e =
    let same : first ≡ undo = cc e in
    ap (λ (u : UndoRecord). undone u.ops u.expired maps) same

pub below_none : (undos : List UndoRecord) (maps : Maps) → None ≡ newest_of undos → maps_below undos maps ≡ maps
below_none [] maps e = refl
below_none (first ∷ undos) maps e = absurd (cc e)

-- what the newest one's block touched
pub work_newest : (undos : List UndoRecord) (undo : UndoRecord) → Some undo ≡ newest_of undos → newest_work undos ≡ length undo.ops + length undo.expired
work_newest [] undo e = absurd (cc e)
work_newest (first ∷ undos) undo e =
    let same : first ≡ undo = cc e in
    ap (λ (u : UndoRecord). length u.ops + length u.expired) same

-- how long the newest one is
pub last_length : (stack : List Undo) (i : ℕ) (undo : Undo) (n : ℕ) → i + 1 ≡ length stack → Some undo ≡ slice_get stack i → undos_length (map seen_undo stack) ≤ MOST
    → n ≡ capped (0 + length (undo_text Two (seen_undo undo)))
    → n + undos_length (take (length (map seen_undo stack) - 1) (map seen_undo stack)) ≡ undos_length (map seen_undo stack)
last_length stack i undo n last here most e =
    let us : List UndoRecord = map seen_undo stack in
    let found : slice_get us i ≡ Some (seen_undo undo) = slice_get_map seen_undo stack i ∙ ap (option_map seen_undo) (sym here) in
    omega (arith, e, most, size_last (undo_text Two) us i (seen_undo undo) (last ∙ sym (length-map stack seen_undo)) found)

pub popped : (stack new : List Undo) → new ≡ take (length stack - 1) stack → map seen_undo new ≡ take (length (map seen_undo stack) - 1) (map seen_undo stack)
popped stack new is =
    ap (map seen_undo) is ∙ map_take seen_undo (length stack - 1) stack ∙ ap (λ n. take (n - 1) (map seen_undo stack)) (sym (length-map stack seen_undo))
