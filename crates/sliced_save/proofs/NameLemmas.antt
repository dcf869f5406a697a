-- The names of a mirror, once one was given items or taken out.
use Rattle.std.proofs.Common.{◌≡◌, ◌≢◌, ℕ, zero, suc, ◌+◌, ◌-◌, ◌≤◌, arith, Bool, true, false, cond, List, [], ◌∷◌, ◌++◌, length, drop, Option, Some, None, refl, sym, ap, ◌∙◌, length-append, append-nil}
use Rattle.std.proofs.Math.Path.{fun_ext}
use Rattle.std.proofs.lemmas.Grind.{flat_map-append}
use Rattle.std.proofs.lemmas.Map.Text.{is_eq-slice_cmp}
use Rattle.std.proofs.lemmas.Slice.Eq.{bytes_eq-Decides}
use Rattle.std.specs.Cmp.Lexicographic.{slice_cmp, nat_list_cmp_total}
use Rattle.std.specs.List.{AllByRecursion, flat_map, slice_get}
use Rattle.std.specs.Ordering.{nat_cmp}
use Rattle.std.specs.Str.{bytes_eq}
use Rattle.std.specs.declared.cmp.Ordering.TheVariants.{Equal}
use Rattle.nmc_base.proofs.ListLemmas.{all-weaker}
use Rattle.chain_names.specs.Changes.{without_entry}
use Rattle.chain_names.specs.Points.{changed}
use Rattle.chain_names.specs.State.{FitsItem}
use Rattle.chain_names.specs.Writable.{IsWritableName}
use Rattle.chain_names.specs.declared.coin.Item.{Item}
use Rattle.undo_records.specs.Text.{item_text}
use Rattle.undo_records.specs.declared.version.Version.TheVariants.{Two}
use Rattle.image_grammar.specs.Text.{history_text}
use Rattle.image_grammar.proofs.WrittenLaws.{name_short}
use Rattle.image_writer.proofs.LengthLemmas.{history_length, item_length}
use Rattle.image_writer.specs.Lengths.{capped}
use Rattle.image_writer.specs.Listed.{IsShortItem}
use Rattle.shared_chunks.specs.Pairs.{AreInOrder, value_at, with_pair, without_key}
use Rattle.sliced_save.specs.Changes.{ItemsByName, grown, grown_name}
use Rattle.sliced_save.specs.Kept.{AreKeptNames, IsKeptItem, IsKeptName, IsLowItem, names_length}
use Rattle.sliced_save.specs.Lengths.{SetsLength, UnsetsLength, items_length, name_weight}
use Rattle.sliced_save.specs.Mirror.{NamePairs, history_pair, items_at, items_or}
use Rattle.sliced_save.specs.Rows.{HasFitRow}
use Rattle.sliced_save.specs.declared.most.TheConstants.{MOST}
use Rattle.sliced_save.proofs.PairLemmas.{all_found, all_with, all_without, exact_by, found_set, found_unset, set_size, unset_size}
use Rattle.sliced_save.proofs.UndoLemmas.{all_take, size_last}

pub exact_name : (a b : List ℕ) → slice_cmp nat_cmp a b ≡ Equal → a ≡ b
exact_name = exact_by bytes_eq (slice_cmp nat_cmp) bytes_eq-Decides is_eq-slice_cmp

-- ---- what is found

pub or_cond : (b : Bool) (items : List Item) (found : Option (List Item)) → items_or (cond b (Some items) found) ≡ cond b items (items_or found)
or_cond true items found = refl
or_cond false items found = refl

or_none : (b : Bool) (found : Option (List Item)) → items_or (cond b None found) ≡ cond b [] (items_or found)
or_none true found = refl
or_none false found = refl

pub items_set : (old new : NamePairs) (name : List ℕ) (items : List Item) → new ≡ with_pair (slice_cmp nat_cmp) old name items → items_at new ≡ changed bytes_eq (items_at old) name items
items_set old new name items is = fun_ext (λ q.
    ap (λ (z : NamePairs). items_at z q) is
    ∙ ap items_or (found_set bytes_eq (slice_cmp nat_cmp) bytes_eq-Decides is_eq-slice_cmp nat_list_cmp_total old name items q)
    ∙ or_cond (bytes_eq name q) items (value_at (slice_cmp nat_cmp) old q))

pub items_unset : (old new : NamePairs) (name : List ℕ) → AreInOrder (slice_cmp nat_cmp) old → new ≡ without_key (slice_cmp nat_cmp) old name → items_at new ≡ changed bytes_eq (items_at old) name []
items_unset old new name order is = fun_ext (λ q.
    ap (λ (z : NamePairs). items_at z q) is
    ∙ ap items_or (found_unset bytes_eq (slice_cmp nat_cmp) bytes_eq-Decides is_eq-slice_cmp nat_list_cmp_total old name q order)
    ∙ or_none (bytes_eq name q) (value_at (slice_cmp nat_cmp) old q))

-- a name that has the items already
pub same_items : (names : ItemsByName) (name : List ℕ) (items : List Item) → names name ≡ items → names ≡ changed bytes_eq names name items
same_items names name items is = fun_ext (λ q. by q (bytes_eq name q) refl)
  where
    by : (q : List ℕ) (b : Bool) → bytes_eq name q ≡ b → names q ≡ cond b items (names q)
    by q true e = ap names (sym ((bytes_eq-Decides name q).0 e)) ∙ is
    by q false e = refl

-- ---- how long it is

pub history_size : (name : List ℕ) (items : List Item) → length (history_text Two (history_pair (name, items))) ≡ length name + (5 + items_length items)
history_size name items = omega (arith, history_length (history_pair (name, items)))

pub names_set : (old new : NamePairs) (name : List ℕ) (items : List Item) (len : ℕ) → AreKeptNames old → IsKeptName (name, items) → new ≡ with_pair (slice_cmp nat_cmp) old name items
    → AreInOrder (slice_cmp nat_cmp) new → SetsLength old name items len → len ≤ MOST → AreKeptNames new × (len ≡ names_length new) × (len ≤ MOST)
names_set old new name items len kept kept_name is order e most =
    let size = set_size history_pair (history_text Two) (slice_cmp nat_cmp) exact_name nat_list_cmp_total old name items kept.order in (
      record { order = order; each = rw is (all_with IsKeptName (slice_cmp nat_cmp) old name items kept_name kept.each) },
      rw is (omega (arith, size, e)),
      most,
    )

pub names_unset : (old new : NamePairs) (name : List ℕ) (len : ℕ) → AreKeptNames old → new ≡ without_key (slice_cmp nat_cmp) old name → AreInOrder (slice_cmp nat_cmp) new → UnsetsLength old name len
    → names_length old ≤ MOST → AreKeptNames new × (len ≡ names_length new) × (len ≤ MOST)
names_unset old new name len kept is order e most =
    let size = unset_size history_pair (history_text Two) (slice_cmp nat_cmp) exact_name old name in (
      record { order = order; each = rw is (all_without IsKeptName (slice_cmp nat_cmp) old name kept.each) },
      rw is (omega (arith, size, e)),
      omega (arith, size, e, most),
    )

pub none_of_none : {X : Type 0} (xs : List X) → length xs ≡ 0 → xs ≡ []
none_of_none [] e = refl
none_of_none (x ∷ xs) e = absurd (omega (arith, e))

-- ---- a name's items

pub kept_found : (names : NamePairs) (name : List ℕ) (items : List Item) → AreKeptNames names → Some items ≡ value_at (slice_cmp nat_cmp) names name → IsKeptName (name, items)
kept_found names name items kept here = all_found IsKeptName (slice_cmp nat_cmp) exact_name names name items kept.each (sym here)

-- how long the last one is
pub last_item : (items : List Item) (i : ℕ) (item : Item) (n : ℕ) → i + 1 ≡ length items → Some item ≡ slice_get items i → IsKeptItem item → n ≡ capped (0 + length (item_text Two item))
    → (n + items_length (without_entry items) ≡ items_length items) × (n ≤ 1069)
last_item items i item n last here kept e =
    let long = item_length item kept.measured in
    (omega (arith, e, long, kept.short, size_last (item_text Two) items i item last (sym here)), omega (arith, e, long, kept.short))

-- with more items behind
pub more_size : (name : List ℕ) (here more : List Item) → length (history_text Two (history_pair (name, here ++ more))) ≡ length (history_text Two (history_pair (name, here))) + items_length more
more_size name here more =
    omega (
      arith,
      history_size name here,
      history_size name (here ++ more),
      ap length (flat_map-append (item_text Two) here more),
      length-append (flat_map (item_text Two) here) (flat_map (item_text Two) more),
    )

some_behind : (here there : List Item) → here ++ drop (length here) there ≡ [] → there ≡ []
some_behind [] there e = e
some_behind (item ∷ here) there e = absurd (cc e)

pub grown_some : (here there : List Item) → there ≢ [] → grown here there ≢ []
grown_some here there some e = some (some_behind here there e)

pub grown_length : (names : NamePairs) (name : List ℕ) (here items : List Item) (begun len : ℕ) → SetsLength names name here begun → len ≡ capped (begun + items_length (drop (length here) items)) → len ≤ MOST
    → SetsLength names name (grown here items) len
grown_length names name here items begun len so_far e most = omega (arith, so_far, e, most, more_size name here (drop (length here) items))

drop_none : (n : ℕ) (items : List Item) → items ≡ [] → drop n items ≡ []
drop_none zero items e = e
drop_none (suc n) [] e = refl
drop_none (suc n) (item ∷ items) e = absurd (cc e)

pub none_grown : (names : ItemsByName) (name : List ℕ) (items : List Item) → items ≡ [] → names ≡ grown_name name items names
none_grown names name items none =
    same_items names name (grown (names name) items)
    (sym (append-nil (names name)) ∙ ap (λ (l : List Item). names name ++ l) (sym (drop_none (length (names name)) items none)))

-- without its last item
module _ (names : NamePairs) (name : List ℕ) (items : List Item) (last before : ℕ) (here : Some items ≡ value_at (slice_cmp nat_cmp) names name) (is : before ≡ names_length names) where
  here_part : length name + (5 + items_length items) ≤ before
  here_part =
      omega (arith, ap (name_weight name) here, is, history_size name items, unset_size history_pair (history_text Two) (slice_cmp nat_cmp) exact_name names name)

  pub last_part : last + items_length (without_entry items) ≡ items_length items → last ≤ before
  last_part e = omega (arith, e, here_part)

  pub less_length : (less : List Item) → less ≡ without_entry items → last + items_length (without_entry items) ≡ items_length items → SetsLength names name less (before - last)
  less_length less less_is e =
      rw less_is
      (omega (arith, ap (name_weight name) here, here_part, e, is, history_size name items, history_size name (without_entry items)))

  -- and without any
  only_one : (less : List Item) → less ≡ without_entry items → length less ≡ 0 → last + items_length (without_entry items) ≡ items_length items → last ≡ items_length items
  only_one less less_is none e = omega (arith, e, ap items_length (sym less_is ∙ none_of_none less none))

  pub gone_part : (less : List Item) → less ≡ without_entry items → length less ≡ 0 → last + items_length (without_entry items) ≡ items_length items → last + (5 + length name) ≤ before
  gone_part less less_is none e = omega (arith, here_part, only_one less less_is none e)

  pub gone_length : (less : List Item) → less ≡ without_entry items → length less ≡ 0 → last + items_length (without_entry items) ≡ items_length items → UnsetsLength names name (before - last - 5 - length name)
  gone_length less less_is none e =
      let one : last ≡ items_length items = only_one less less_is none e in
      let part : length name + (5 + items_length items) ≤ before = here_part in
      let weight : length name + (5 + items_length items) ≡ name_weight name (value_at (slice_cmp nat_cmp) names name) = sym (history_size name items) ∙ ap (name_weight name) here in
      omega (arith, one, part, weight, is)

-- ---- items that fit

pub short_items : (name : List ℕ) (items : List Item) → AllByRecursion (HasFitRow name) items → AllByRecursion IsShortItem items
short_items name items fits = all-weaker (HasFitRow name) IsShortItem items (λ item fit. fit.lengths.value_length) fits

pub low_items : (name : List ℕ) (items : List Item) → AllByRecursion (HasFitRow name) items → AllByRecursion IsLowItem items
low_items name items fits = all-weaker (HasFitRow name) IsLowItem items (λ item fit. fit.low) fits

pub fits_short : (name : List ℕ) (items : List Item) → (length items ≡ 0 → ⊥) → AllByRecursion (HasFitRow name) items → IsWritableName name
fits_short name items some fits =
    name_short name items (λ e. some (ap length e)) (all-weaker (HasFitRow name) (FitsItem name) items (λ item fit. fit.lengths) fits)

pub kept_grown : (name : List ℕ) (here items : List Item) → (length items ≡ 0 → ⊥) → AllByRecursion (HasFitRow name) items → AllByRecursion IsKeptItem (grown here items) → IsKeptName (name, grown here items)
kept_grown name here items some fits kept =
    record { short = fits_short name items some fits; some = grown_some here items (λ e. some (ap length e)); items = kept }

pub kept_less : (name : List ℕ) (items less : List Item) → IsKeptName (name, items) → less ≡ without_entry items → (length less ≡ 0 → ⊥) → IsKeptName (name, less)
kept_less name items less kept is some =
    record { short = kept.short; some = λ e. some (ap length e); items = rw is (all_take IsKeptItem (length items - 1) items kept.items) }

pub nothing_less : (names : NamePairs) (name : List ℕ) → None ≡ value_at (slice_cmp nat_cmp) names name → items_at names ≡ changed bytes_eq (items_at names) name (without_entry (items_at names name))
nothing_less names name none =
    let e : items_at names name ≡ [] = ap items_or (sym none) in
    same_items (items_at names) name (without_entry (items_at names name)) (e ∙ ap without_entry (sym e))
