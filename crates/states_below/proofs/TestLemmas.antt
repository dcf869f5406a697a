-- The tests of operations, from the last to the first.
use Rattle.std.proofs.Common.{◌≡◌, ℕ, Bool, true, false, List, [], ◌∷◌, ◌++◌, Option, Some, refl, sym, ap, ◌∙◌, true≢false}
use Rattle.std.specs.Prelude.{◌&&◌}
use Rattle.nmc_base.specs.declared.hashes.OutPoint.{OutPoint}
use Rattle.chain_names.specs.declared.coin.Item.{Item}
use Rattle.chain_names.specs.declared.undo.UndoOp.{UndoOp}
use Rattle.chain_names.specs.Coins.{Maps, entry_of}
use Rattle.chain_names.specs.Changes.{back_op, back_ops}
use Rattle.chain_names.proofs.HistoryLemmas.{entry_of-more, without_entry-more}
use Rattle.chain_names.proofs.UndoLemmas.{back_ops-append}
use Rattle.states_below.specs.Tests.{same_entry, is_made_item, ends_so, fits_op, fits_ops}
use Rattle.states_below.specs.Undoing.{Tried, TriedAll}

-- ---- the end of a history

module _ (tip registered : ℕ) (made : OutPoint) (before : Option Item) (items front : List Item) (last : Item) (is : items ≡ front ++ last ∷ []) where
  ends-at : ends_so tip registered made before items ≡ (is_made_item tip registered made (Some last) && same_entry (entry_of front) before)
  ends-at =
      ap (ends_so tip registered made before) is
      ∙ (λ i. is_made_item tip registered made (entry_of-more front last i) && same_entry (entry_of (without_entry-more front last i)) before)

  pub ends-then : is_made_item tip registered made (Some last) ≡ true → same_entry (entry_of front) before ≡ ends_so tip registered made before items
  ends-then here = sym (ends-at ∙ ap (λ b. b && same_entry (entry_of front) before) here)

  pub ends-else : is_made_item tip registered made (Some last) ≡ false → false ≡ ends_so tip registered made before items
  ends-else here = sym (ends-at ∙ ap (λ b. b && same_entry (entry_of front) before) here)

-- ---- one operation more

and-true : (b : Bool) → b ≡ (b && true)
and-true true = refl
and-true false = refl

and-and : (a b c : Bool) → ((a && b) && c) ≡ (a && (b && c))
and-and true b c = refl
and-and false b c = refl

pub fits_ops-more : (tip : ℕ) (ops : List UndoOp) (op : UndoOp) (maps : Maps)
    → fits_ops tip (ops ++ op ∷ []) maps ≡ (fits_op tip op maps && fits_ops tip ops (back_op op maps))
fits_ops-more tip [] op maps = and-true (fits_op tip op maps)
fits_ops-more tip (first ∷ ops) op maps =
    (λ i. fits_ops-more tip ops op maps i && fits_op tip first (back_ops-append ops (op ∷ []) maps i))
    ∙ and-and (fits_op tip op maps) (fits_ops tip ops (back_op op maps)) (fits_op tip first (back_ops ops (back_op op maps)))

pub record IsLeft (tip : ℕ) (rest ops : List UndoOp) (now start : Maps) : Type 0 where
  pub fit : fits_ops tip rest now ≡ fits_ops tip ops start
  pub back : back_ops rest now ≡ back_ops ops start

pub one_back : (tip : ℕ) (rest more ops : List UndoOp) (op : UndoOp) (now next start : Maps) (fits : Bool) → rest ≡ more ++ op ∷ [] → IsLeft tip rest ops now start
    → Tried tip op now next fits → fits ≡ true → IsLeft tip more ops next start
one_back tip rest more ops op now next start fits e left tried is = record {
  fit = sym (ap (λ os. fits_ops tip os now) e ∙ fits_ops-more tip more op now
      ∙ (λ i. (sym tried.tested ∙ is) i && fits_ops tip more (back_op op now)) ∙ ap (fits_ops tip more) (sym (tried.undone is))) ∙ left.fit;
  back = ap (back_ops more) (tried.undone is) ∙ sym (back_ops-append more (op ∷ []) now) ∙ ap (λ os. back_ops os now) (sym e) ∙ left.back;
}

pub not_back : (tip : ℕ) (rest more ops : List UndoOp) (op : UndoOp) (now next start : Maps) (fits : Bool) → rest ≡ more ++ op ∷ [] → IsLeft tip rest ops now start
    → Tried tip op now next fits → fits ≡ false → TriedAll tip ops start next false
not_back tip rest more ops op now next start fits e left tried is = record {
  tested = sym (sym left.fit ∙ ap (λ os. fits_ops tip os now) e ∙ fits_ops-more tip more op now ∙ (λ i. (sym tried.tested ∙ is) i && fits_ops tip more (back_op op now)));
  undone = λ bad. absurd (true≢false (sym bad));
}
