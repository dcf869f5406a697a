-- The image of a mirror is that of the state that it says, and its text is read again.
use Rattle.std.proofs.Common.{◌≡◌, ℕ, ◌≤◌, ◌^◌, cond, List, [], ◌∷◌, length, map, reverse, Option, Some, None, refl, sym, ap, subst, ◌∙◌}
use Rattle.std.proofs.Math.Path.{fun_ext}
use Rattle.std.proofs.lemmas.List.{reverse-reverse}
use Rattle.std.proofs.lemmas.Map.Text.{is_eq-slice_cmp}
use Rattle.std.proofs.lemmas.Slice.Eq.{bytes_eq-Decides}
use Rattle.std.specs.Cmp.Lexicographic.{slice_cmp}
use Rattle.std.specs.List.{AllByRecursion}
use Rattle.std.specs.List.Sorted.{IsStrictlySortedBy}
use Rattle.std.specs.Map.{keys_of}
use Rattle.std.specs.Ordering.{nat_cmp}
use Rattle.nmc_base.proofs.ListLemmas.{all-weaker}
use Rattle.nmc_base.specs.Hash.{outpoint_cmp}
use Rattle.nmc_base.specs.declared.chain_ends.Base.{Base}
use Rattle.nmc_base.specs.declared.hashes.OutPoint.{OutPoint}
use Rattle.chain_names.proofs.OrderLemmas.{same_by_cmp}
use Rattle.chain_names.proofs.Points.{same_point-Decides}
use Rattle.chain_names.specs.Coins.{Maps}
use Rattle.chain_names.specs.Expired.{points_of}
use Rattle.chain_names.specs.Measured.{AreMeasured, IsMeasuredItem}
use Rattle.chain_names.specs.Points.{same_point}
use Rattle.chain_names.specs.Sound.{IsSound}
use Rattle.chain_names.specs.Undo.{UndoRecord}
use Rattle.chain_names.specs.declared.coin.Item.{Item}
use Rattle.std.specs.Str.{bytes_eq}
use Rattle.undo_records.specs.Measured.{IsMeasured}
use Rattle.undo_records.specs.declared.version.Version.TheVariants.{Two}
use Rattle.image_grammar.proofs.WrittenLaws.{all_reversed, has_text-sound}
use Rattle.image_grammar.proofs.StateLaws.{one_image-state, one_text-state}
use Rattle.image_grammar.specs.Image.{HasItems, IsImageOf, coins_listed, names_listed, names_of}
use Rattle.image_grammar.specs.Text.{IsStateText, image_text}
use Rattle.image_grammar.specs.Widths.{HaveWidths}
use Rattle.image_writer.specs.Whole.{IsReadAgain}
use Rattle.shared_chunks.specs.Pairs.{value_at}
use Rattle.sliced_save.specs.Kept.{AreKeptNames, IsKept, IsKeptCoin, IsKeptItem, IsKeptName, IsKeptUndo}
use Rattle.sliced_save.specs.Mirror.{CoinPairs, IsMirrorOf, Mirrored, NamePairs, coin_at, held_pair, history_pair, items_at, items_or, maps_in, mirror_image}
use Rattle.sliced_save.proofs.CoinLemmas.{exact_point}
use Rattle.sliced_save.proofs.NameLemmas.{kept_found, or_cond}
use Rattle.sliced_save.proofs.PairLemmas.{all_found, by_key}

-- ---- the lists

coins_at : (coins : CoinPairs) (q : OutPoint) → coins_listed (map held_pair coins) q ≡ coin_at coins q
coins_at [] q = refl
coins_at (pair ∷ coins) q =
    ap (cond (same_point pair.0 q) (Some pair.1)) (coins_at coins q)
    ∙ ap (λ b. cond b (Some pair.1) (coin_at coins q)) (sym (by_key same_point outpoint_cmp same_point-Decides same_by_cmp pair.0 q))

names_at : (names : NamePairs) (q : List ℕ) → names_listed (map history_pair names) q ≡ items_at names q
names_at [] q = refl
names_at (pair ∷ names) q =
    ap (cond (bytes_eq pair.0 q) pair.1) (names_at names q)
    ∙ sym (or_cond (bytes_eq pair.0 q) pair.1 (value_at (slice_cmp nat_cmp) names q))
    ∙ ap (λ b. items_or (cond b (Some pair.1) (value_at (slice_cmp nat_cmp) names q))) (sym (by_key bytes_eq (slice_cmp nat_cmp) bytes_eq-Decides is_eq-slice_cmp pair.0 q))

points_are : (coins : CoinPairs) → keys_of coins ≡ points_of (map held_pair coins)
points_are [] = refl
points_are (pair ∷ coins) = ap (λ (l : List OutPoint). pair.0 ∷ l) (points_are coins)

names_are : (names : NamePairs) → keys_of names ≡ names_of (map history_pair names)
names_are [] = refl
names_are (pair ∷ names) = ap (λ (l : List (List ℕ)). pair.0 ∷ l) (names_are names)

some_items : (names : NamePairs) → AllByRecursion IsKeptName names → AllByRecursion HasItems (map history_pair names)
some_items [] all = tt
some_items (pair ∷ names) all = (all.0.some, some_items names all.1)

maps_listed_are : (m : Mirrored) → record { coins = coins_listed (map held_pair m.coins); names = names_listed (map history_pair m.names) } ≡ maps_in m
maps_listed_are m =
    let coins : coins_listed (map held_pair m.coins) ≡ coin_at m.coins = fun_ext (coins_at m.coins) in
    let names : names_listed (map history_pair m.names) ≡ items_at m.names = fun_ext (names_at m.names) in
    λ i. record { coins = coins i; names = names i }

-- ---- the text

is_image : (m : Mirrored) (base : Base) (undos : List UndoRecord) (maps : Maps) → IsKept m → IsMirrorOf base undos maps m → IsImageOf base (reverse undos) maps (mirror_image m)
is_image m base undos maps kept mirror = record {
  base_is = mirror.base_is;
  undos_are = mirror.undos_are;
  maps_are = maps_listed_are m ∙ mirror.maps_are;
  coins_sorted = subst (IsStrictlySortedBy outpoint_cmp) (points_are m.coins) kept.coins.order;
  names_sorted = subst (IsStrictlySortedBy (slice_cmp nat_cmp)) (names_are m.names) kept.names.order;
  some = some_items m.names kept.names.each;
}

pub state_text : (m : Mirrored) (base : Base) (undos : List UndoRecord) (maps : Maps) (text : List ℕ) → text ≡ image_text Two (mirror_image m) → IsKept m → IsMirrorOf base undos maps m
    → IsStateText Two base undos maps text
state_text m base undos maps text is kept mirror = record { image = mirror_image m; image_is = is_image m base undos maps kept mirror; text_is = is }

-- ---- read again

items_measured : (names : NamePairs) → AreKeptNames names → (name : List ℕ) → AllByRecursion IsMeasuredItem (items_at names name)
items_measured names kept name = by (value_at (slice_cmp nat_cmp) names name) refl
  where
    by : (found : Option (List Item)) → value_at (slice_cmp nat_cmp) names name ≡ found → AllByRecursion IsMeasuredItem (items_or found)
    by None e = tt
    by (Some items) e = all-weaker IsKeptItem IsMeasuredItem items (λ item it. it.measured) (kept_found names name items kept (sym e)).items

measured_in : (m : Mirrored) → IsKept m → AreMeasured (maps_in m)
measured_in m kept = record {
  coins = λ point coin here. (all_found IsKeptCoin outpoint_cmp exact_point m.coins point coin kept.coins.each here).measured;
  items = items_measured m.names kept.names;
}

widths : (m : Mirrored) (base : Base) (undos : List UndoRecord) (maps : Maps) → IsKept m → IsMirrorOf base undos maps m → HaveWidths base undos maps
widths m base undos maps kept mirror = record {
  hash = sym (ap (λ (b : Base). length b.hash.0) mirror.base_is) ∙ kept.hash;
  undos_are =
      subst (AllByRecursion IsMeasured) (ap reverse mirror.undos_are ∙ reverse-reverse undos)
      (all_reversed IsMeasured m.undos (all-weaker IsKeptUndo IsMeasured m.undos (λ u it. it.measured) kept.undos));
  maps_are = subst AreMeasured mirror.maps_are (measured_in m kept);
}

pub read_again : (m : Mirrored) (base : Base) (tip : ℕ) (undos : List UndoRecord) (maps : Maps) (text : List ℕ) → text ≡ image_text Two (mirror_image m) → IsKept m → IsMirrorOf base undos maps m
    → IsSound base.profile base.height tip maps undos → IsReadAgain base undos maps text
read_again m base tip undos maps text is kept mirror sound short image is' =
    let mine = is_image m base undos maps kept mirror in
    has_text-sound Two base tip undos maps image is' (widths m base undos maps kept mirror) sound
    (subst (λ (t : List ℕ). length t ≤ 2 ^ 37) (is ∙ ap (image_text Two) (one_image-state base (reverse undos) maps (mirror_image m) image mine is')) short)

-- ---- how long it is

pub state_length : (m : Mirrored) (base : Base) (undos : List UndoRecord) (maps : Maps) (text : List ℕ) (n : ℕ) → n ≡ length (image_text Two (mirror_image m)) → IsKept m → IsMirrorOf base undos maps m
    → IsStateText Two base undos maps text → n ≡ length text
state_length m base undos maps text n e kept mirror is =
    e ∙ ap length (one_text-state Two base undos maps (image_text Two (mirror_image m)) text (state_text m base undos maps _ refl kept mirror) is)
