-- The length of an image's text, counted place by place.
use Rattle.std.proofs.Common.{◌≡◌, ℕ, suc, ◌+◌, ◌-◌, ◌^◌, ◌<◌, ◌≤◌, List, [], ◌∷◌, ◌++◌, length, map, take, drop, slice_get, sym, ap, subst, ◌∙◌, arith, length-append, append-nil}
use Rattle.std.specs.Prelude.{Option, Some, None}
use Rattle.std.specs.Cmp.Lexicographic.{slice_cmp}
use Rattle.std.specs.Int.{w32, to_le_bytes}
use Rattle.std.specs.List.{flat_map, AllByRecursion, IsDistinct}
use Rattle.std.specs.List.Sorted.{IsStrictlySortedBy}
use Rattle.std.specs.Ordering.{nat_cmp}
use Rattle.std.specs.Map.{keys_of}
use Rattle.std.specs.Str.{bytes_eq}
use Rattle.std.proofs.lemmas.Grind.{flat_map-append}
use Rattle.std.proofs.lemmas.List.{take-append-drop, map-append, length-map}
use Rattle.nmc_base.specs.declared.chain_ends.Base.{Base}
use Rattle.nmc_base.specs.declared.hashes.OutPoint.{OutPoint}
use Rattle.chain_names.specs.declared.coin.Coin.{Coin}
use Rattle.chain_names.specs.declared.coin.HeldCoin.{HeldCoin}
use Rattle.chain_names.specs.declared.coin.Item.{Item}
use Rattle.chain_names.specs.Expired.{IsSortedByPoint}
use Rattle.chain_names.specs.Undo.{UndoRecord}
use Rattle.chain_names.specs.Coins.{Maps}
use Rattle.chain_names.specs.Points.{same_point}
use Rattle.chain_names.specs.Seen.{seen_undo}
use Rattle.chain_names.specs.Tables.{CoinSlots, NameSlots, coins_in, names_in, AreNamesFilled}
use Rattle.undo_records.specs.declared.version.Version.TheVariants.{Two}
use Rattle.undo_records.specs.Text.{point_text, coin_text, held_text, name_text, undo_text, item_text}
use Rattle.name_tables.specs.Parts.{newest_first, tables_of}
use Rattle.name_tables.specs.Tables.{maps_by, AreFilled}
use Rattle.name_tables.specs.declared.parts.Parts.{Parts}
use Rattle.image_grammar.specs.Image.{Image, History, HasItems, names_of, coins_listed, names_listed}
use Rattle.image_grammar.specs.Text.{counted_text, head_text, history_text, IsStateText}
use Rattle.image_grammar.proofs.KeyedLaws.{total-flat_map, same_sum}
use Rattle.image_grammar.proofs.ListedLaws.{points_apart, names_apart}
use Rattle.image_grammar.proofs.StateLaws.{coins_keyed, coins_lists, coins_some, names_keyed, names_lists, names_some}
use Rattle.image_writer.specs.Lengths.{capped, parts_length}
use Rattle.image_writer.specs.Ordered.{held_in, history_in, histories_in}
use Rattle.image_writer.proofs.KeyLemmas.{distinct_apart}
use Rattle.image_writer.proofs.OrderLemmas.{take-more, take-past, held_in-append, held_distinct, held_maps, histories_maps, names_behind, all_have_items}
use Rattle.image_writer.proofs.WholeLemmas.{oldest_first}

module _ {X : Type 0} (text : X → List ℕ) where
  -- as many values as bytes, at most
  no_fewer : (xs : List X) → ((x : X) → 1 ≤ length (text x)) → length xs ≤ length (flat_map text xs)
  no_fewer [] some = omega arith
  no_fewer (x ∷ xs) some = omega (arith, some x, no_fewer xs some, length-append (text x) (flat_map text xs))

  one_more : (start sum next : ℕ) (xs : List X) (x : X) → sum ≡ capped (start + length (flat_map text xs)) → next ≡ capped (sum + length (text x))
      → next ≡ capped (start + length (flat_map text (xs ++ x ∷ [])))
  one_more start sum next xs x so_far e =
      let n : ℕ = length (text x) in
      let long : length (flat_map text (xs ++ x ∷ [])) ≡ length (flat_map text xs) + length (text x) =
      ap length (flat_map-append text xs (x ∷ [])) ∙ length-append (flat_map text xs) (text x ++ []) ∙ ap (λ (l : List ℕ). length (flat_map text xs) + length l) (append-nil (text x)) in
      omega (arith, so_far, e, long)

-- ---- coins

-- the coins of so many places were counted
pub record CountsCoins (slots : CoinSlots) (start sum i : ℕ) : Type 0 where
  pub fits : sum < 2 ^ 64
  pub sum_is : sum ≡ capped (start + length (flat_map held_text (held_in (take i slots))))
  pub count : length (held_in (take i slots)) ≡ i
  pub distinct : 0 < i → IsDistinct same_point (keys_of slots)

held_some : (held : HeldCoin) → 1 ≤ length (held_text held)
unfolding held_text point_text
held_some held =
    omega (
      arith,
      length-append (held.at.txid.0 ++ to_le_bytes w32 held.at.index) (coin_text held.coin),
      length-append held.at.txid.0 (to_le_bytes w32 held.at.index),
    )

pub coins_counted : (slots : CoinSlots) (start sum next i : ℕ) (held : HeldCoin) → CountsCoins slots start sum i → slice_get slots i ≡ Some (held.at, Some held.coin)
    → next ≡ capped (sum + length (held_text held)) → IsDistinct same_point (keys_of slots) → CountsCoins slots start next (i + 1)
coins_counted slots start sum next i held so_far here e distinct =
    let at : i + 1 ≡ suc i = omega arith in
    let more : held_in (take (i + 1) slots) ≡ held_in (take i slots) ++ held ∷ [] =
    ap (λ k. held_in (take k slots)) at ∙ ap held_in (take-more slots i (held.at, Some held.coin) here) ∙ held_in-append (take i slots) ((held.at, Some held.coin) ∷ []) in
    record {
      fits = omega (arith, e);
      sum_is = one_more held_text start sum next (held_in (take i slots)) held so_far.sum_is e ∙ ap (λ (helds : List HeldCoin). capped (start + length (flat_map held_text helds))) (sym more);
      count = ap length more ∙ length-append (held_in (take i slots)) (held ∷ []) ∙ ap (λ n. n + 1) so_far.count;
      distinct = λ some. distinct;
    }

pub coins_past : (slots : CoinSlots) (start sum i : ℕ) → CountsCoins slots start sum i → slice_get slots i ≡ None → sum ≡ capped (start + length (flat_map held_text (held_in slots)))
coins_past slots start sum i so_far past = so_far.sum_is ∙ ap (λ (l : CoinSlots). capped (start + length (flat_map held_text (held_in l)))) (take-past slots i past)

-- more than can be counted
pub coins_many : (slots : CoinSlots) (start sum i : ℕ) → CountsCoins slots start sum i → 2 ^ 64 - 1 ≤ i → 2 ^ 64 - 1 ≡ capped (start + length (flat_map held_text (held_in slots)))
coins_many slots start sum i so_far many =
    let front : List HeldCoin = held_in (take i slots) in
    let whole : length (flat_map held_text (held_in slots)) ≡ length (flat_map held_text front) + length (flat_map held_text (held_in (drop i slots))) =
    ap (λ (l : CoinSlots). length (flat_map held_text (held_in l))) (sym (take-append-drop i slots)) ∙ ap (λ (l : List HeldCoin). length (flat_map held_text l)) (held_in-append (take i slots) (drop i slots))
    ∙ ap length (flat_map-append held_text front (held_in (drop i slots))) ∙ length-append (flat_map held_text front) (flat_map held_text (held_in (drop i slots))) in
    omega (arith, whole, many, so_far.count, no_fewer held_text front held_some)

-- ---- names

module _ (slots : NameSlots) where
  -- the names of so many places were counted
  pub record CountsNames (start sum i : ℕ) : Type 0 where
    pub fits : sum < 2 ^ 64
    pub sum_is : sum ≡ capped (start + length (flat_map (history_text Two) (map (history_in slots) (take i (keys_of slots)))))
    pub count : length (take i (keys_of slots)) ≡ i
    pub distinct : 0 < i → IsDistinct bytes_eq (keys_of slots)

  abbrev histories : List (List ℕ) → List History
  histories names = map (history_in slots) names

  history_some : (h : History) → 1 ≤ length (history_text Two h)
  history_some h = omega (arith, length-append (name_text h.name) (counted_text (item_text Two) h.items))

  pub names_counted : (start sum next i : ℕ) (h : History) → CountsNames start sum i → slice_get (keys_of slots) i ≡ Some h.name → h.items ≡ names_in slots h.name
      → next ≡ capped (sum + length (history_text Two h)) → IsDistinct bytes_eq (keys_of slots) → CountsNames start next (i + 1)
  names_counted start sum next i h so_far here items e distinct =
      let keys : List (List ℕ) = keys_of slots in
      let at : i + 1 ≡ suc i = omega arith in
      let more : take (i + 1) keys ≡ take i keys ++ h.name ∷ [] = ap (λ k. take k keys) at ∙ take-more keys i h.name here in
      let it : h ≡ history_in slots h.name = λ j. record { name = h.name; items = items j } in
      let longer : histories (take (i + 1) keys) ≡ histories (take i keys) ++ h ∷ [] =
      ap histories more ∙ map-append (history_in slots) (take i keys) (h.name ∷ []) ∙ ap (λ (x : History). histories (take i keys) ++ x ∷ []) (sym it) in
      record {
        fits = omega (arith, e);
        sum_is = one_more (history_text Two) start sum next (histories (take i keys)) h so_far.sum_is e ∙ ap (λ (hs : List History). capped (start + length (flat_map (history_text Two) hs))) (sym longer);
        count = ap length more ∙ length-append (take i keys) (h.name ∷ []) ∙ ap (λ n. n + 1) so_far.count;
        distinct = λ some. distinct;
      }

  pub names_past : (start sum i : ℕ) → CountsNames start sum i → slice_get (keys_of slots) i ≡ None → sum ≡ capped (start + length (flat_map (history_text Two) (histories_in slots)))
  names_past start sum i so_far past = so_far.sum_is ∙ ap (λ (l : List (List ℕ)). capped (start + length (flat_map (history_text Two) (histories l)))) (take-past (keys_of slots) i past)

  -- more than can be counted
  pub names_many : (start sum i : ℕ) → CountsNames start sum i → 2 ^ 64 - 1 ≤ i → 2 ^ 64 - 1 ≡ capped (start + length (flat_map (history_text Two) (histories_in slots)))
  names_many start sum i so_far many =
      let keys : List (List ℕ) = keys_of slots in
      let front : List History = histories (take i keys) in
      let back : List History = histories (drop i keys) in
      let whole : length (flat_map (history_text Two) (histories_in slots)) ≡ length (flat_map (history_text Two) front) + length (flat_map (history_text Two) back) =
      ap (λ (l : List (List ℕ)). length (flat_map (history_text Two) (histories l))) (sym (take-append-drop i keys))
      ∙ ap (λ (l : List History). length (flat_map (history_text Two) l)) (map-append (history_in slots) (take i keys) (drop i keys))
      ∙ ap length (flat_map-append (history_text Two) front back) ∙ length-append (flat_map (history_text Two) front) (flat_map (history_text Two) back) in
      omega (arith, whole, many, so_far.count, length-map (take i keys) (history_in slots), no_fewer (history_text Two) front history_some)

-- ---- the whole

-- lists of the same coins are as long
coins_length : (slots : CoinSlots) (helds : List HeldCoin) → IsDistinct same_point (keys_of slots) → coins_listed helds ≡ coins_in slots → IsSortedByPoint helds
    → length (flat_map held_text helds) ≡ length (flat_map held_text (held_in slots))
coins_length slots helds distinct maps sorted =
    total-flat_map held_text helds
    ∙ same_sum coins_keyed (λ (held : HeldCoin). length (held_text held)) helds (held_in slots) (points_apart helds sorted) (distinct_apart coins_keyed (held_in slots) (held_distinct slots distinct)) (coins_some helds)
    (coins_some (held_in slots)) (λ point. ap (λ (f : OutPoint → Option Coin). f point) (coins_lists helds ∙ maps ∙ sym (held_maps slots distinct)))
    ∙ sym (total-flat_map held_text (held_in slots))

names_length : (slots : NameSlots) (hs : List History) → IsDistinct bytes_eq (keys_of slots) → AreNamesFilled slots → names_listed hs ≡ names_in slots → IsStrictlySortedBy (slice_cmp nat_cmp) (names_of hs)
    → AllByRecursion HasItems hs → length (flat_map (history_text Two) hs) ≡ length (flat_map (history_text Two) (histories_in slots))
names_length slots hs distinct filled maps sorted some =
    let keys : IsDistinct bytes_eq (map names_keyed.key (histories_in slots)) = subst (IsDistinct bytes_eq) (sym (names_behind slots (keys_of slots))) distinct in
    total-flat_map (history_text Two) hs
    ∙ same_sum names_keyed (λ (h : History). length (history_text Two h)) hs (histories_in slots) (names_apart hs sorted) (distinct_apart names_keyed (histories_in slots) keys) (names_some hs some)
    (names_some (histories_in slots) (all_have_items slots filled)) (λ name. ap (λ (f : List ℕ → List Item). f name) (names_lists hs ∙ maps ∙ sym (histories_maps slots)))
    ∙ sym (total-flat_map (history_text Two) (histories_in slots))

-- what is known of the parts
pub record AreCounted (base : Base) (parts : Parts) : Type 0 where
  pub hash : length base.hash.0 ≡ 32
  pub filled : AreFilled (tables_of parts)
  pub coins : IsDistinct same_point (keys_of parts.coins)
  pub names : IsDistinct bytes_eq (keys_of parts.names)

head_length : (base : Base) → length base.hash.0 ≡ 32 → length (head_text Two base) ≡ 42
head_length base hash = omega (arith, hash, length-append (to_le_bytes w32 base.height) base.hash.0)

counted_length : {X : Type 0} (text : X → List ℕ) (xs : List X) → length (counted_text text xs) ≡ 4 + length (flat_map text xs)
counted_length text xs = omega (arith, length-append (to_le_bytes w32 (length xs)) (flat_map text xs))

pub text_length : (base : Base) (parts : Parts) (text : List ℕ) → AreCounted base parts → IsStateText Two base (newest_first parts.undos.items) (maps_by (tables_of parts)) text
    → length text ≡ 54 + parts_length parts
text_length base parts text known is =
    let image : Image = is.image in
    let names : List ℕ = counted_text (history_text Two) image.names in
    let coins : List ℕ = counted_text held_text image.coins in
    let undos : List ℕ = counted_text (undo_text Two) image.undos in
    let records : image.undos ≡ map seen_undo parts.undos.items = is.image_is.undos_are ∙ oldest_first parts.undos.items in
    omega (
      arith,
      ap length is.text_is,
      head_length image.base (ap (λ (b : Base). length b.hash.0) is.image_is.base_is ∙ known.hash),
      length-append (head_text Two image.base) (undos ++ (coins ++ names)),
      length-append undos (coins ++ names),
      length-append coins names,
      counted_length (undo_text Two) image.undos,
      counted_length held_text image.coins,
      counted_length (history_text Two) image.names,
      ap (λ (us : List UndoRecord). length (flat_map (undo_text Two) us)) records,
      coins_length parts.coins image.coins known.coins (ap (λ (m : Maps). m.coins) is.image_is.maps_are) is.image_is.coins_sorted,
      names_length parts.names image.names known.names known.filled.names (ap (λ (m : Maps). m.names) is.image_is.maps_are) is.image_is.names_sorted is.image_is.some,
    )

-- three sums, one after the other
pub capped_sums : (total undos coins names first second third : ℕ) → first ≡ capped (total + undos) → second ≡ capped (first + coins) → third ≡ capped (second + names)
    → third ≡ capped (total + (undos + (coins + names)))
capped_sums total undos coins names first second third e e' e'' = omega (arith, e, e', e'')
