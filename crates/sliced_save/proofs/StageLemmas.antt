-- The text of a mirror's image, value by value.
use Rattle.std.proofs.Common.{◌≡◌, ℕ, zero, suc, ◌+◌, ◌<◌, arith, List, [], ◌∷◌, ◌++◌, length, map, drop, Option, Some, None, refl, sym, ap, ◌∙◌, append_assoc, append-nil}
use Rattle.std.specs.Int.{w32, to_le_bytes}
use Rattle.std.specs.List.{flat_map, slice_get}
use Rattle.chain_names.specs.Undo.{UndoRecord}
use Rattle.chain_names.specs.declared.coin.HeldCoin.{HeldCoin}
use Rattle.chain_names.specs.declared.coin.Item.{Item}
use Rattle.chain_names.specs.declared.undo.UndoOp.{UndoOp}
use Rattle.undo_records.specs.Text.{held_text, item_text, name_text, op_text, undo_text}
use Rattle.undo_records.specs.declared.version.Version.TheVariants.{Two}
use Rattle.image_grammar.specs.Text.{history_text}
use Rattle.sliced_save.specs.Left.{Writes, coins_left, expired_left, items_left, left, names_left, ops_left, undos_left}
use Rattle.sliced_save.specs.Mirror.{Mirrored, history_pair}
use Rattle.sliced_save.specs.declared.stage.Stage.{Stage}

-- ---- lists from a place on

drop_at : {X : Type 0} (xs : List X) (i : ℕ) (x : X) → slice_get xs i ≡ Some x → drop i xs ≡ x ∷ drop (suc i) xs
drop_at [] i x e = absurd (cc e)
drop_at (y ∷ xs) zero x e =
    let same : y ≡ x = cc e in
    ap (λ (z : _). z ∷ xs) same
drop_at (y ∷ xs) (suc i) x e = drop_at xs i x e

drop_past : {X : Type 0} (xs : List X) (i : ℕ) → None ≡ slice_get xs i → drop i xs ≡ []
drop_past [] zero e = refl
drop_past [] (suc i) e = refl
drop_past (y ∷ xs) zero e = absurd (cc e)
drop_past (y ∷ xs) (suc i) e = drop_past xs i e

module _ {X Y : Type 0} (f : X → Y) (text : Y → List ℕ) (xs : List X) (i : ℕ) (rest : List ℕ) where
  -- the next value, and those behind it
  pub next_value : (x : X) → slice_get xs i ≡ Some x → text (f x) ++ (flat_map text (map f (drop (i + 1) xs)) ++ rest) ≡ flat_map text (map f (drop i xs)) ++ rest
  next_value x here =
      let at : i + 1 ≡ suc i = omega arith in
      rw (at, drop_at xs i x here) (sym (append_assoc (text (f x)) (flat_map text (map f (drop (suc i) xs))) rest))

  -- none is left
  pub no_value : None ≡ slice_get xs i → rest ≡ flat_map text (map f (drop i xs)) ++ rest
  no_value past = rw (drop_past xs i past) refl

module _ {X : Type 0} (text : X → List ℕ) (xs : List X) (i : ℕ) (rest : List ℕ) where
  pub next_plain : (x : X) → slice_get xs i ≡ Some x → text x ++ (flat_map text (drop (i + 1) xs) ++ rest) ≡ flat_map text (drop i xs) ++ rest
  next_plain x here =
      let at : i + 1 ≡ suc i = omega arith in
      rw (at, drop_at xs i x here) (sym (append_assoc (text x) (flat_map text (drop (suc i) xs)) rest))

  pub no_plain : None ≡ slice_get xs i → rest ≡ flat_map text (drop i xs) ++ rest
  no_plain past = rw (drop_past xs i past) refl

-- ---- a step

pub writes : (m : Mirrored) (old new : Stage) (page bytes : List ℕ) → page ≡ bytes → 0 < length page → bytes ++ left m new ≡ left m old → Writes m old new page
writes m old new page bytes is some text = record { text = ap (λ (l : List ℕ). l ++ left m new) is ∙ text; some = λ e. absurd (omega (arith, some, ap length e)) }

-- from another place at which as much is left
pub writes_on : (m : Mirrored) (old other new : Stage) (bytes : List ℕ) → left m other ≡ left m old → Writes m other new bytes → Writes m old new bytes
writes_on m old other new bytes same step = record { text = step.text ∙ same; some = λ e. sym same ∙ step.some e }

module _ (m : Mirrored) where
  -- the head of a record
  pub record_head : (i : ℕ) (u : UndoRecord) → slice_get m.undos i ≡ Some u → (u.block.0 ++ to_le_bytes w32 (length u.ops)) ++ ops_left m (slice_get m.undos i) i 0 ≡ undos_left m i
  unfolding undo_text
  record_head i u here =
      let behind : List ℕ = to_le_bytes w32 (length m.coins) ++ coins_left m 0 in
      let more : List ℕ = flat_map (undo_text Two) (drop (i + 1) m.undos) in
      let ops : List ℕ = flat_map (op_text Two) u.ops in
      let count : List ℕ = to_le_bytes w32 (length u.expired) in
      let expired : List ℕ = flat_map held_text u.expired in
      let ops_count : List ℕ = to_le_bytes w32 (length u.ops) in
      ap (λ (o : Option UndoRecord). (u.block.0 ++ ops_count) ++ ops_left m o i 0) here
      ∙ append_assoc u.block.0 ops_count (ops ++ (count ++ (expired ++ (more ++ behind))))
      ∙ ap (λ (l : List ℕ). u.block.0 ++ (ops_count ++ l)) (ap (λ (l : List ℕ). ops ++ l) (sym (append_assoc count expired (more ++ behind))) ∙ sym (append_assoc ops (count ++ expired) (more ++ behind)))
      ∙ ap (λ (l : List ℕ). u.block.0 ++ l) (sym (append_assoc ops_count (ops ++ (count ++ expired)) (more ++ behind)))
      ∙ sym (append_assoc u.block.0 (ops_count ++ (ops ++ (count ++ expired))) (more ++ behind))
      ∙ next_plain (undo_text Two) m.undos i behind u here

  pub next_op : (i from : ℕ) (u : UndoRecord) (op : UndoOp) → slice_get m.undos i ≡ Some u → slice_get u.ops from ≡ Some op
      → op_text Two op ++ ops_left m (slice_get m.undos i) i (from + 1) ≡ ops_left m (slice_get m.undos i) i from
  next_op i from u op here at = rw here (next_plain (op_text Two) u.ops from _ op at)

  pub no_op : (i from : ℕ) (u : UndoRecord) → slice_get m.undos i ≡ Some u → None ≡ slice_get u.ops from
      → to_le_bytes w32 (length u.expired) ++ expired_left m (slice_get m.undos i) i 0 ≡ ops_left m (slice_get m.undos i) i from
  no_op i from u here past = rw here (no_plain (op_text Two) u.ops from _ past)

  pub next_held : (i from : ℕ) (u : UndoRecord) (held : HeldCoin) → slice_get m.undos i ≡ Some u → slice_get u.expired from ≡ Some held
      → held_text held ++ expired_left m (slice_get m.undos i) i (from + 1) ≡ expired_left m (slice_get m.undos i) i from
  next_held i from u held here at = rw here (next_plain held_text u.expired from _ held at)

  pub no_held : (i from : ℕ) (u : UndoRecord) → slice_get m.undos i ≡ Some u → None ≡ slice_get u.expired from → undos_left m (i + 1) ≡ expired_left m (slice_get m.undos i) i from
  no_held i from u here past = rw here (no_plain held_text u.expired from _ past)

  -- a name with the number of its items
  pub name_head : (i : ℕ) (pair : List ℕ × List Item) → slice_get m.names i ≡ Some pair
      → (name_text pair.0 ++ to_le_bytes w32 (length pair.1)) ++ items_left m (slice_get m.names i) i 0 ≡ names_left m i
  name_head i pair here =
      let more : List ℕ = names_left m (i + 1) in
      let items : List ℕ = flat_map (item_text Two) pair.1 in
      let count : List ℕ = to_le_bytes w32 (length pair.1) in
      ap (λ (o : Option (List ℕ × List Item)). (name_text pair.0 ++ count) ++ items_left m o i 0) here
      ∙ append_assoc (name_text pair.0) count (items ++ more)
      ∙ ap (λ (l : List ℕ). name_text pair.0 ++ l) (sym (append_assoc count items more))
      ∙ sym (append_assoc (name_text pair.0) (count ++ items) more)
      ∙ ap (λ (l : List ℕ). history_text Two (history_pair pair) ++ l) (sym (append-nil more))
      ∙ next_value history_pair (history_text Two) m.names i [] pair here
      ∙ append-nil (names_left m i)

  pub no_name : (i : ℕ) → None ≡ slice_get m.names i → names_left m i ≡ []
  no_name i past = rw (drop_past m.names i past) refl

  pub next_item : (i from : ℕ) (pair : List ℕ × List Item) (item : Item) → slice_get m.names i ≡ Some pair → slice_get pair.1 from ≡ Some item
      → item_text Two item ++ items_left m (slice_get m.names i) i (from + 1) ≡ items_left m (slice_get m.names i) i from
  next_item i from pair item here at = rw here (next_plain (item_text Two) pair.1 from _ item at)

  pub no_item : (i from : ℕ) (pair : List ℕ × List Item) → slice_get m.names i ≡ Some pair → None ≡ slice_get pair.1 from → names_left m (i + 1) ≡ items_left m (slice_get m.names i) i from
  no_item i from pair here past = rw here (no_plain (item_text Two) pair.1 from _ past)
