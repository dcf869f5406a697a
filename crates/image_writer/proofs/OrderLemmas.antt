-- The coins and names of a table, collected place by place and put into order.
use Rattle.std.proofs.Common.{◌≡◌, ◌≢◌, ℕ, suc, ◌+◌, Bool, true, false, cond, List, [], ◌∷◌, ◌++◌, map, take, slice_get, refl, sym, ap, subst, ◌∙◌, arith, true≢false}
use Prim.Native.Nat.{zero}
use Rattle.std.specs.Prelude.{Option, Some, None, ◌||◌}
use Rattle.std.specs.Cmp.{IsEquivalence, IsStrictWeakOrder}
use Rattle.std.specs.Cmp.Lexicographic.{slice_cmp, nat_list_cmp_total}
use Rattle.std.specs.List.{All, AllByRecursion, IsDistinct, list_any}
use Rattle.std.specs.List.Sorted.{IsPermutation, IsSortedBy, IsSortedByKey, IsStrictlySortedBy}
use Rattle.std.specs.Map.{keys_of, lookup}
use Rattle.std.specs.Option.{is_some, option_map}
use Rattle.std.specs.Ordering.{is_lt, nat_cmp}
use Rattle.std.specs.Str.{bytes_eq}
use Rattle.std.proofs.Math.Path.{fun_ext}
use Rattle.std.proofs.lemmas.List.{map-append}
use Rattle.std.proofs.lemmas.List.Elements.{All-from_recursion, recursion_from_All}
use Rattle.std.proofs.lemmas.List.Sorted.{IsPermutation-map, All-permutation}
use Rattle.std.proofs.lemmas.Map.Keys.{IsDistinct-IsPermutation}
use Rattle.std.proofs.lemmas.Map.Made.{is_some-lookup, All-is_member}
use Rattle.std.proofs.lemmas.Map.Text.{is_eq-slice_cmp}
use Rattle.std.proofs.lemmas.Slice.Eq.{bytes_eq-Decides}
use Rattle.std.proofs.lemmas.Option.{none-some, slice_get-map}
use Rattle.nmc_base.specs.declared.hashes.OutPoint.{OutPoint}
use Rattle.nmc_base.specs.Hash.{outpoint_cmp}
use Rattle.nmc_base.specs.Roomy.{Roomy}
use Rattle.nmc_base.proofs.ListLemmas.{all-more}
use Rattle.nmc_base.proofs.TruthLemmas.{same_truth}
use Rattle.chain_names.specs.declared.coin.Coin.{Coin}
use Rattle.chain_names.specs.declared.coin.HeldCoin.{HeldCoin}
use Rattle.chain_names.specs.declared.coin.Item.{Item}
use Rattle.chain_names.specs.Coins.{entry_of}
use Rattle.chain_names.specs.Points.{same_point}
use Rattle.chain_names.specs.Tables.{CoinSlots, NameSlots, filled_by, coins_in, items_of, names_in, AreNamesFilled}
use Rattle.chain_names.proofs.OrderLemmas.{outpoint_cmp-total, same_by_cmp}
use Rattle.chain_names.proofs.Changed.{bytes_eq-true, bytes_eq-self}
use Rattle.chain_names.proofs.Points.{same_point-comm, same_point-true}
use Rattle.image_grammar.specs.Image.{History, HasItems}
use Rattle.image_grammar.proofs.KeyedLaws.{lists}
use Rattle.image_grammar.proofs.StateLaws.{coins_keyed, coins_lists, points_are, names_keyed, names_lists, names_are_keys}
use Rattle.image_writer.specs.declared.listed.CoinPlace.{CoinPlace}
use Rattle.image_writer.specs.declared.listed.NamePlace.{NamePlace}
use Rattle.image_writer.specs.Front.{padded}
use Rattle.image_writer.specs.Places.{held_of, held_at, name_of, name_at, history_at, coin_place_cmp, name_place_cmp, IsCoinAt, IsNameAt}
use Rattle.image_writer.specs.Whole.{HasCoins, HasNames}
use Rattle.image_writer.proofs.FrontLemmas.{Begins, padded_law, point_law, ranked, by_key}
use Rattle.image_writer.specs.Ordered.{held_by, held_in, history_in, histories_in, ListsNames}
use Rattle.image_writer.proofs.KeyLemmas.{strictly, distinct_apart, listed_in_order}

-- ---- place by place

pub take-past : {X : Type 0} (xs : List X) (i : ℕ) → slice_get xs i ≡ None → take i xs ≡ xs
take-past [] zero e = refl
take-past [] (suc i) e = refl
take-past (x ∷ xs) zero e = absurd (none-some _ (sym e))
take-past (x ∷ xs) (suc i) e = ap (λ l. x ∷ l) (take-past xs i e)

pub take-more : {X : Type 0} (xs : List X) (i : ℕ) (x : X) → slice_get xs i ≡ Some x → take (suc i) xs ≡ take i xs ++ x ∷ []
take-more [] i x e = absurd (none-some _ e)
take-more (first ∷ xs) zero x e = let same : first ≡ x = cc in ap (λ y. y ∷ []) same
take-more (first ∷ xs) (suc i) x e = ap (λ l. first ∷ l) (take-more xs i x e)

held_by-append : (at : OutPoint) (coin : Option Coin) (xs ys : List HeldCoin) → held_by at coin (xs ++ ys) ≡ held_by at coin xs ++ ys
held_by-append at None xs ys = refl
held_by-append at (Some coin) xs ys = refl

pub held_in-append : (xs ys : CoinSlots) → held_in (xs ++ ys) ≡ held_in xs ++ held_in ys
held_in-append [] ys = refl
held_in-append (slot ∷ xs) ys = ap (held_by slot.0 slot.1) (held_in-append xs ys) ∙ held_by-append slot.0 slot.1 (held_in xs) (held_in ys)

-- the coins of so many places were listed
pub record ListsCoinsTo (slots : CoinSlots) (listed : List CoinPlace) (i : ℕ) : Type 0 where
  pub coins : map (held_at slots) listed ≡ held_in (take i slots)
  pub there : AllByRecursion (IsCoinAt slots) listed

pub coins_more : (slots : CoinSlots) (i : ℕ) (listed longer : List CoinPlace) (front : List ℕ) {at : OutPoint} {coin : Coin} → ListsCoinsTo slots listed i → slice_get slots i ≡ Some (at, Some coin)
    → front ≡ padded 4 at.txid.0 → longer ≡ listed ++ record { front = front; place = i } ∷ [] → ListsCoinsTo slots longer (i + 1)
coins_more slots i listed longer front {at} {coin} so_far here is e =
    let next : i + 1 ≡ suc i = omega arith in
    let it : CoinPlace = record { front = front; place = i } in
    let held : HeldCoin = record { at = at; coin = coin } in record {
      coins =
          ap (map (held_at slots)) e ∙ map-append (held_at slots) listed (it ∷ []) ∙ ap (λ helds. helds ++ held_at slots it ∷ []) so_far.coins
          ∙ ap (λ slot. held_in (take i slots) ++ held_of slot ∷ []) here
          ∙ sym (held_in-append (take i slots) ((at, Some coin) ∷ [])) ∙ ap held_in (sym (take-more slots i (at, Some coin) here))
          ∙ ap (λ k. held_in (take k slots)) (sym next);
      there = subst (AllByRecursion (IsCoinAt slots)) (sym e) (all-more (IsCoinAt slots) listed it so_far.there (record { held = held; here = here; front_is = is }));
    }

pub coins_end : (slots : CoinSlots) (i : ℕ) (listed : List CoinPlace) → ListsCoinsTo slots listed i → slice_get slots i ≡ None → map (held_at slots) listed ≡ held_in slots
coins_end slots i listed so_far past = so_far.coins ∙ ap held_in (take-past slots i past)

-- the names of so many places were listed
pub record ListsNamesTo (slots : NameSlots) (listed : List NamePlace) (i : ℕ) : Type 0 where
  pub names : map (name_at slots) listed ≡ take i (keys_of slots)
  pub there : AllByRecursion (IsNameAt slots) listed

pub names_more : (slots : NameSlots) (i : ℕ) (listed longer : List NamePlace) (front name : List ℕ) → ListsNamesTo slots listed i → slice_get (keys_of slots) i ≡ Some name
    → front ≡ padded 8 name → longer ≡ listed ++ record { front = front; place = i } ∷ [] → ListsNamesTo slots longer (i + 1)
names_more slots i listed longer front name so_far here is e =
    let next : i + 1 ≡ suc i = omega arith in
    let it : NamePlace = record { front = front; place = i } in record {
      names =
          ap (map (name_at slots)) e ∙ map-append (name_at slots) listed (it ∷ []) ∙ ap (λ l. l ++ name_at slots it ∷ []) so_far.names
          ∙ ap (λ key. take i (keys_of slots) ++ name_of key ∷ []) here ∙ sym (take-more (keys_of slots) i name here) ∙ ap (λ k. take k (keys_of slots)) (sym next);
      there = subst (AllByRecursion (IsNameAt slots)) (sym e) (all-more (IsNameAt slots) listed it so_far.there (record { name = name; here = here; front_is = is }));
    }

pub names_end : (slots : NameSlots) (i : ℕ) (listed : List NamePlace) → ListsNamesTo slots listed i → slice_get (keys_of slots) i ≡ None → map (name_at slots) listed ≡ keys_of slots
names_end slots i listed so_far past = so_far.names ∙ take-past (keys_of slots) i past

-- ---- the coins of a table

abbrev point_of : HeldCoin → OutPoint
point_of held = held.at

no_place : (point : OutPoint) (slots : CoinSlots) → AllByRecursion (λ q. same_point point q ≡ false) (keys_of slots) → coins_in slots point ≡ None
no_place point [] apart = refl
no_place point (slot ∷ slots) apart = ap (λ b. filled_by (cond b (Some slot.1) (lookup (same_point point) slots))) apart.0 ∙ no_place point slots apart.1

-- the coins of the places are those of the table
held_listed : (slots : CoinSlots) → IsDistinct same_point (keys_of slots) → (point : OutPoint) → lists coins_keyed (held_in slots) point ≡ coins_in slots point
unfolding IsDistinct
held_listed [] distinct point = refl
held_listed (slot ∷ slots) distinct point = by slot.0 slot.1 distinct.0 (held_listed slots distinct.1 point) (same_point point slot.0) refl
  where
    by : (at : OutPoint) (coin : Option Coin) → AllByRecursion (λ q. same_point at q ≡ false) (keys_of slots) → lists coins_keyed (held_in slots) point ≡ coins_in slots point
        → (b : Bool) → same_point point at ≡ b → lists coins_keyed (held_by at coin (held_in slots)) point ≡ filled_by (cond b (Some coin) (lookup (same_point point) slots))
    by at None apart rest true is = rest ∙ ap (coins_in slots) (same_point-true point at is) ∙ no_place at slots apart
    by at None apart rest false is = rest
    by at (Some coin) apart rest true is = ap (λ b. cond b (Some coin) (lists coins_keyed (held_in slots) point)) (same_point-comm at point ∙ is)
    by at (Some coin) apart rest false is = ap (λ b. cond b (Some coin) (lists coins_keyed (held_in slots) point)) (same_point-comm at point ∙ is) ∙ rest

all_held : (P : OutPoint → Type 0) (slots : CoinSlots) → AllByRecursion P (keys_of slots) → AllByRecursion P (map point_of (held_in slots))
all_held P [] all = tt
all_held P (slot ∷ slots) all = by slot.0 slot.1 all.0 (all_held P slots all.1)
  where
    by : (at : OutPoint) (coin : Option Coin) → P at → AllByRecursion P (map point_of (held_in slots)) → AllByRecursion P (map point_of (held_by at coin (held_in slots)))
    by at None here rest = rest
    by at (Some coin) here rest = (here, rest)

pub held_distinct : (slots : CoinSlots) → IsDistinct same_point (keys_of slots) → IsDistinct same_point (map point_of (held_in slots))
unfolding IsDistinct
held_distinct [] distinct = tt
held_distinct (slot ∷ slots) distinct = by slot.0 slot.1 distinct.0 (held_distinct slots distinct.1)
  where
    by : (at : OutPoint) (coin : Option Coin) → AllByRecursion (λ q. same_point at q ≡ false) (keys_of slots) → IsDistinct same_point (map point_of (held_in slots))
        → IsDistinct same_point (map point_of (held_by at coin (held_in slots)))
    by at None apart rest = rest
    by at (Some coin) apart rest = (all_held (λ q. same_point at q ≡ false) slots apart, rest)

pub held_maps : (slots : CoinSlots) → IsDistinct same_point (keys_of slots) → lists coins_keyed (held_in slots) ≡ coins_in slots
held_maps slots distinct = fun_ext (held_listed slots distinct)

abbrev point_at : CoinSlots → CoinPlace → OutPoint
point_at slots coin = (held_at slots coin).at

points_behind : (slots : CoinSlots) (coins : List CoinPlace) → map (point_at slots) coins ≡ map point_of (map (held_at slots) coins)
points_behind slots [] = refl
points_behind slots (coin ∷ coins) = ap (λ points. point_at slots coin ∷ points) (points_behind slots coins)

coin_begins : (slots : CoinSlots) (coin : CoinPlace) → IsCoinAt slots coin → Begins (λ (p : OutPoint). padded 4 p.txid.0) coin.front (slice_get (keys_of slots) coin.place) (point_at slots coin)
coin_begins slots coin there =
    let point : point_at slots coin ≡ there.held.at = ap (λ slot. (held_of slot).at) there.here in record {
      front_is = there.front_is ∙ ap (λ (p : OutPoint). padded 4 p.txid.0) (sym point);
      found = slice_get-map (λ slot. slot.0) slots coin.place ∙ ap (option_map (λ slot. slot.0)) there.here ∙ ap Some (sym point);
    }

pub coins_ranked : (slots : CoinSlots) → IsStrictWeakOrder (λ x y. is_lt (coin_place_cmp slots x y))
coins_ranked slots = ranked outpoint_cmp outpoint_cmp-total (λ (c : CoinPlace). c.front) (λ c. slice_get (keys_of slots) c.place)

pub coins_ordered : (slots : CoinSlots) (collected sorted : List CoinPlace) → IsDistinct same_point (keys_of slots) → map (held_at slots) collected ≡ held_in slots
    → AllByRecursion (IsCoinAt slots) collected → IsPermutation collected sorted → IsSortedBy (λ x y. is_lt (coin_place_cmp slots x y)) sorted → HasCoins slots sorted
coins_ordered slots collected sorted distinct are placed moved up_by_place =
    let helds : List HeldCoin = map (held_at slots) sorted in
    let permuted : IsPermutation (held_in slots) helds = subst (λ xs. IsPermutation xs helds) are (IsPermutation-map (held_at slots) collected sorted moved) in
    let there : All (IsCoinAt slots) sorted = All-permutation (IsCoinAt slots) collected sorted moved (All-from_recursion (IsCoinAt slots) collected placed) in
    let rising : IsSortedByKey (point_at slots) outpoint_cmp sorted =
    by_key outpoint_cmp (λ (p : OutPoint). padded 4 p.txid.0) point_law (λ (c : CoinPlace). c.front) (λ c. slice_get (keys_of slots) c.place) (point_at slots) sorted
    (λ k d within. coin_begins slots _ (there k d within)) up_by_place in
    let apart : IsDistinct same_point (map point_of (held_in slots)) = held_distinct slots distinct in
    let apart' : IsDistinct same_point (map point_of helds) = IsDistinct-IsPermutation same_point same_point-comm _ _ (IsPermutation-map point_of (held_in slots) helds permuted) apart in
    let up : IsStrictlySortedBy outpoint_cmp (map (point_at slots) sorted) =
    strictly outpoint_cmp outpoint_cmp-total same_point same_by_cmp (point_at slots) sorted rising (subst (IsDistinct same_point) (sym (points_behind slots sorted)) apart') in
    record {
      in_order = record {
        maps =
            sym (coins_lists helds)
            ∙ fun_ext (λ point. listed_in_order coins_keyed (held_in slots) helds permuted (distinct_apart coins_keyed (held_in slots) apart) (distinct_apart coins_keyed helds apart') point)
            ∙ held_maps slots distinct;
        sorted = subst (IsStrictlySortedBy outpoint_cmp) (points_behind slots sorted ∙ sym (points_are helds)) up;
      };
      there = recursion_from_All (IsCoinAt slots) sorted there;
    }

-- ---- the names of a table

bytes_eq-comm : (a b : List ℕ) → bytes_eq a b ≡ bytes_eq b a
bytes_eq-comm a b = same_truth _ _ (λ e. (bytes_eq-Decides b a).1 (sym (bytes_eq-true a b e))) (λ e. (bytes_eq-Decides a b).1 (sym (bytes_eq-true b a e)))

bytes_eq-IsEquivalence : IsEquivalence bytes_eq
bytes_eq-IsEquivalence = record { refl = bytes_eq-self; symm = bytes_eq-comm; congr = λ x y z e. ap (λ a. bytes_eq a z) (bytes_eq-true x y e) }

module _ (slots : NameSlots) where
  -- each name of a list has the items that it has in the table, and others have none
  some_listed : (names : List (List ℕ)) (name : List ℕ) → lists names_keyed (map (history_in slots) names) name ≡ cond (list_any (bytes_eq name) names) (names_in slots name) []
  some_listed [] name = refl
  some_listed (first ∷ names) name = by (some_listed names name) (bytes_eq name first) refl
    where
      by : lists names_keyed (map (history_in slots) names) name ≡ cond (list_any (bytes_eq name) names) (names_in slots name) [] → (b : Bool) → bytes_eq name first ≡ b
          → lists names_keyed (map (history_in slots) (first ∷ names)) name ≡ cond (b || list_any (bytes_eq name) names) (names_in slots name) []
      by rest true is =
          ap (λ b. cond b (names_in slots first) (lists names_keyed (map (history_in slots) names) name)) (bytes_eq-comm first name ∙ is) ∙ ap (names_in slots) (sym (bytes_eq-true name first is))
      by rest false is =
          ap (λ b. cond b (names_in slots first) (lists names_keyed (map (history_in slots) names) name)) (bytes_eq-comm first name ∙ is) ∙ rest

  itemless : (entry : Option (Roomy Item)) → cond (is_some entry) (items_of entry) [] ≡ items_of entry
  itemless None = refl
  itemless (Some history) = refl

  histories_listed : (name : List ℕ) → lists names_keyed (histories_in slots) name ≡ names_in slots name
  histories_listed name =
      some_listed (keys_of slots) name ∙ ap (λ b. cond b (names_in slots name) []) (sym (is_some-lookup (bytes_eq name) slots)) ∙ itemless (lookup (bytes_eq name) slots)

  pub histories_maps : lists names_keyed (histories_in slots) ≡ names_in slots
  histories_maps = fun_ext histories_listed

  pub names_behind : (names : List (List ℕ)) → map (λ (h : History). h.name) (map (history_in slots) names) ≡ names
  names_behind [] = refl
  names_behind (name ∷ names) = ap (λ l. name ∷ l) (names_behind names)

  has_some : (items : List Item) → true ≡ is_some (entry_of items) → items ≢ []
  has_some items filled e = true≢false (filled ∙ ap (λ (l : List Item). is_some (entry_of l)) e)

  -- each name has a place in a list that has it
  all_placed : (names : List (List ℕ)) → AllByRecursion (λ name. list_any (bytes_eq name) (keys_of slots) ≡ true) names → AreNamesFilled slots → AllByRecursion HasItems (map (history_in slots) names)
  all_placed [] placed filled = tt
  all_placed (name ∷ names) placed filled =
      (has_some (names_in slots name) (sym placed.0 ∙ sym (is_some-lookup (bytes_eq name) slots) ∙ filled name), all_placed names placed.1 filled)

  pub all_have_items : AreNamesFilled slots → AllByRecursion HasItems (histories_in slots)
  all_have_items filled =
      all_placed (keys_of slots) (recursion_from_All (λ name. list_any (bytes_eq name) (keys_of slots) ≡ true) (keys_of slots) (All-is_member bytes_eq-IsEquivalence (keys_of slots))) filled

name_begins : (slots : NameSlots) (place : NamePlace) → IsNameAt slots place → Begins (padded 8) place.front (slice_get (keys_of slots) place.place) (name_at slots place)
name_begins slots place there =
    let name : name_at slots place ≡ there.name = ap name_of there.here in
    record { front_is = there.front_is ∙ ap (padded 8) (sym name); found = there.here ∙ ap Some (sym name) }

pub names_ranked : (slots : NameSlots) → IsStrictWeakOrder (λ x y. is_lt (name_place_cmp slots x y))
names_ranked slots = ranked (slice_cmp nat_cmp) nat_list_cmp_total (λ (p : NamePlace). p.front) (λ p. slice_get (keys_of slots) p.place)

pub names_ordered : (slots : NameSlots) (collected sorted : List NamePlace) → IsDistinct bytes_eq (keys_of slots) → AreNamesFilled slots → map (name_at slots) collected ≡ keys_of slots
    → AllByRecursion (IsNameAt slots) collected → IsPermutation collected sorted → IsSortedBy (λ x y. is_lt (name_place_cmp slots x y)) sorted → HasNames slots sorted
names_ordered slots collected sorted distinct filled are placed moved up_by_place =
    let names : List (List ℕ) = map (name_at slots) sorted in
    let hs : List History = map (history_in slots) names in
    let permuted : IsPermutation (keys_of slots) names = subst (λ xs. IsPermutation xs names) are (IsPermutation-map (name_at slots) collected sorted moved) in
    let there : All (IsNameAt slots) sorted = All-permutation (IsNameAt slots) collected sorted moved (All-from_recursion (IsNameAt slots) collected placed) in
    let rising : IsSortedByKey (name_at slots) (slice_cmp nat_cmp) sorted =
    by_key (slice_cmp nat_cmp) (padded 8) (padded_law 8) (λ (p : NamePlace). p.front) (λ p. slice_get (keys_of slots) p.place) (name_at slots) sorted
    (λ k d within. name_begins slots _ (there k d within)) up_by_place in
    let apart' : IsDistinct bytes_eq names = IsDistinct-IsPermutation bytes_eq bytes_eq-comm (keys_of slots) names permuted distinct in
    let up : IsStrictlySortedBy (slice_cmp nat_cmp) names = strictly (slice_cmp nat_cmp) nat_list_cmp_total bytes_eq is_eq-slice_cmp (name_at slots) sorted rising apart' in
    let keys : IsDistinct bytes_eq (map names_keyed.key (histories_in slots)) = subst (IsDistinct bytes_eq) (sym (names_behind slots (keys_of slots))) distinct in
    let keys' : IsDistinct bytes_eq (map names_keyed.key hs) = subst (IsDistinct bytes_eq) (sym (names_behind slots names)) apart' in
    let histories : IsPermutation (histories_in slots) hs = IsPermutation-map (history_in slots) (keys_of slots) names permuted in
    record {
      in_order = subst (ListsNames slots) (once_mapped slots sorted) (record {
        maps =
            sym (names_lists hs)
            ∙ fun_ext (λ name. listed_in_order names_keyed (histories_in slots) hs histories (distinct_apart names_keyed (histories_in slots) keys) (distinct_apart names_keyed hs keys') name)
            ∙ histories_maps slots;
        sorted = subst (IsStrictlySortedBy (slice_cmp nat_cmp)) (sym (names_behind slots names) ∙ sym (names_are_keys hs)) up;
        some =
            recursion_from_All HasItems hs (All-permutation HasItems (histories_in slots) hs histories (All-from_recursion HasItems (histories_in slots) (all_have_items slots filled)));
      });
      there = recursion_from_All (IsNameAt slots) sorted there;
    }
  where
    once_mapped : (slots : NameSlots) (places : List NamePlace) → map (history_in slots) (map (name_at slots) places) ≡ map (history_at slots) places
    once_mapped slots [] = refl
    once_mapped slots (place ∷ places) = ap (λ hs. history_at slots place ∷ hs) (once_mapped slots places)
