-- Each history is a front of the one above.
use Rattle.std.proofs.Common.{◌≡◌, ℕ, ◌-◌, Bool, true, false, cond, List, [], ◌∷◌, length, take, refl, subst}
use Rattle.std.specs.List.{AllByRecursion}
use Rattle.std.specs.Str.{bytes_eq}
use Rattle.chain_names.specs.declared.coin.Item.{Item}
use Rattle.chain_names.specs.declared.undo.UndoOp.{UndoOp}
use Rattle.chain_names.specs.declared.undo.UndoOp.TheVariants.{New as undo_new, First as undo_first, Update as undo_update}
use Rattle.chain_names.specs.Coins.{Maps}
use Rattle.chain_names.specs.Changes.{without_entry, back_op, back_ops, undone}
use Rattle.chain_names.specs.Undo.{UndoRecord}
use Rattle.chain_names.specs.State.{FitsItem, IsRising}
use Rattle.chain_names.specs.Fits.{with_restored}
use Rattle.chain_names.proofs.Changed.{bytes_eq-true}
use Rattle.sound_states.proofs.HistoryLemmas.{rising-take, all-take}

module _ (P : List ℕ → List Item → Type 0) (front : (name : List ℕ) (n : ℕ) (items : List Item) → P name items → P name (take n items)) where
  moved_front : (maps : Maps) (moved name : List ℕ) → ((n : List ℕ) → P n (maps.names n)) → (b : Bool) → bytes_eq moved name ≡ b
      → P name (cond b (without_entry (maps.names moved)) (maps.names name))
  moved_front maps moved name all true is =
      subst (λ n. P n (without_entry (maps.names moved))) (bytes_eq-true moved name is) (front moved (length (maps.names moved) - 1) (maps.names moved) (all moved))
  moved_front maps moved name all false is = all name

  front_op : (op : UndoOp) (maps : Maps) → ((n : List ℕ) → P n (maps.names n)) → (name : List ℕ) → P name ((back_op op maps).names name)
  front_op (undo_new made) maps all name = all name
  front_op (undo_first made spent coin moved before) maps all name = moved_front maps moved name all (bytes_eq moved name) refl
  front_op (undo_update made spent coin moved before) maps all name = moved_front maps moved name all (bytes_eq moved name) refl

  fronts : (ops : List UndoOp) (maps : Maps) → ((n : List ℕ) → P n (maps.names n)) → (name : List ℕ) → P name ((back_ops ops maps).names name)
  fronts [] maps all name = all name
  fronts (op ∷ ops) maps all name = front_op op (back_ops ops maps) (fronts ops maps all) name

pub rising_left : (u : UndoRecord) (maps : Maps) → ((n : List ℕ) → IsRising (maps.names n)) → (name : List ℕ) → IsRising ((undone u.ops u.expired maps).names name)
rising_left u maps rising name = fronts (λ n items. IsRising items) (λ n k items. rising-take k items) u.ops (with_restored u.expired maps) rising name

pub lengths_left : (u : UndoRecord) (maps : Maps) → ((n : List ℕ) → AllByRecursion (FitsItem n) (maps.names n)) → (name : List ℕ)
    → AllByRecursion (FitsItem name) ((undone u.ops u.expired maps).names name)
lengths_left u maps lengths name =
    fronts (λ n items. AllByRecursion (FitsItem n) items) (λ n k items. all-take (FitsItem n) k items) u.ops (with_restored u.expired maps) lengths name
