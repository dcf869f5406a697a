-- A state has one image at most: the lists of its coins and of its names, in order.
use Rattle.std.proofs.Common.{◌≡◌, ◌≢◌, ℕ, Bool, true, false, ◌||◌, List, [], ◌∷◌, map, refl, sym, ap, subst, ◌∙◌}
use Rattle.std.specs.Prelude.{Option, Some, None}
use Rattle.std.specs.Cmp.{IsTotalOrder}
use Rattle.std.specs.Cmp.Lexicographic.{slice_cmp, nat_list_cmp_total}
use Rattle.std.specs.List.{AllByRecursion, list_any}
use Rattle.std.specs.List.Sorted.{IsStrictlySortedBy}
use Rattle.std.specs.Option.{is_some}
use Rattle.std.specs.Ordering.{nat_cmp, is_eq}
use Rattle.std.specs.Str.{bytes_eq}
use Rattle.std.specs.declared.cmp.Ordering.{Ordering}
use Rattle.std.specs.declared.cmp.Ordering.TheVariants.{Equal}
use Rattle.std.proofs.lemmas.Map.Lookups.{btree_set_from_contains}
use Rattle.std.proofs.lemmas.Map.Text.{is_eq-slice_cmp}
use Rattle.std.proofs.lemmas.Slice.Eq.{bytes_eq-Decides}
use Rattle.nmc_base.specs.declared.chain_ends.Base.{Base}
use Rattle.nmc_base.specs.declared.hashes.OutPoint.{OutPoint}
use Rattle.nmc_base.specs.Hash.{outpoint_cmp}
use Rattle.chain_names.specs.declared.coin.Coin.{Coin}
use Rattle.chain_names.specs.declared.coin.HeldCoin.{HeldCoin}
use Rattle.chain_names.specs.declared.coin.Item.{Item}
use Rattle.chain_names.specs.Coins.{Maps}
use Rattle.chain_names.specs.Expired.{IsSortedByPoint, points_of}
use Rattle.chain_names.specs.Points.{same_point, changed}
use Rattle.chain_names.specs.Undo.{UndoRecord}
use Rattle.chain_names.proofs.OrderLemmas.{outpoint_cmp-total, same_by_cmp}
use Rattle.chain_names.proofs.Points.{same_point-Decides}
use Rattle.undo_records.specs.declared.version.Version.{Version}
use Rattle.image_grammar.specs.Image.{Image, History, names_of, coins_listed, names_listed, HasItems, IsImageOf}
use Rattle.image_grammar.specs.Text.{image_text, IsStateText}
use Rattle.image_grammar.proofs.KeyedLaws.{Keyed, lists, Apart, AreSome, each_listed, has_key_listed, one_by_keys}
use Rattle.image_grammar.proofs.ListedLaws.{points_apart, names_apart}

-- ---- lists in the order of their keys

-- an order in which the keys that tie are the same
record Orders {K : Type 0} (same : K → K → Bool) (cmp : K → K → Ordering) : Type 0 where
  total : IsTotalOrder cmp
  ties : (a b : K) → is_eq (cmp a b) ≡ same a b

module _ {K V X : Type 0} (l : Keyed K V X) (cmp : K → K → Ordering) (orders : Orders l.same cmp) where
  exact : (a b : K) → cmp a b ≡ Equal → a ≡ b
  exact a b e = (l.decides a b).0 (sym (orders.ties a b) ∙ ap is_eq e)

  by_order : (k : K) (ks : List K) → list_any (λ q. is_eq (cmp k q)) ks ≡ list_any (λ q. l.same k q) ks
  by_order k [] = refl
  by_order k (q ∷ ks) = ap (λ b. b || list_any (λ q. is_eq (cmp k q)) ks) (orders.ties k q) ∙ ap (λ b. l.same k q || b) (by_order k ks)

  abbrev SortedKeys : List X → Type 0
  SortedKeys xs = IsStrictlySortedBy cmp (map l.key xs)

  keys_one : (xs ys : List X) → SortedKeys xs → SortedKeys ys → AreSome l xs → AreSome l ys → ((k : K) → lists l xs k ≡ lists l ys k) → map l.key xs ≡ map l.key ys
  keys_one xs ys sorted sorted' some some' same =
      btree_set_from_contains orders.total (record { keys = map l.key xs }) (record { keys = map l.key ys }) sorted sorted'
      (λ k. by_order k (map l.key xs) ∙ has_key_listed l xs some k ∙ ap l.is_some (same k) ∙ sym (has_key_listed l ys some' k) ∙ sym (by_order k (map l.key ys))) exact

  one_sorted : (f : K → V) (xs ys : List X) → SortedKeys xs → SortedKeys ys → Apart l xs → Apart l ys → AreSome l xs → AreSome l ys → lists l xs ≡ f → lists l ys ≡ f → xs ≡ ys
  one_sorted f xs ys sorted sorted' apart apart' some some' is is' =
      one_by_keys l f xs ys (subst (λ g. AllByRecursion (λ x. g (l.key x) ≡ l.value x) xs) is (each_listed l xs apart))
      (subst (λ g. AllByRecursion (λ x. g (l.key x) ≡ l.value x) ys) is' (each_listed l ys apart'))
      (keys_one xs ys sorted sorted' some some' (λ k. ap (λ g. g k) (is ∙ sym is')))

-- ---- coins

pub one_held : (a b : HeldCoin) → a.at ≡ b.at → Some a.coin ≡ Some b.coin → a ≡ b
one_held a b at coins =
    let coin : a.coin ≡ b.coin = cc in
    λ i. record { at = at i; coin = coin i }

abbrev pub coins_keyed : Keyed OutPoint (Option Coin) HeldCoin
coins_keyed = record {
  same = same_point;
  decides = same_point-Decides;
  key = λ held. held.at;
  value = λ held. Some held.coin;
  none = None;
  is_some = is_some;
  is_none = refl;
  one = one_held;
}

abbrev points_order : Orders same_point outpoint_cmp
points_order = record { total = outpoint_cmp-total; ties = same_by_cmp }

pub coins_lists : (helds : List HeldCoin) → lists coins_keyed helds ≡ coins_listed helds
coins_lists [] = refl
coins_lists (held ∷ helds) = ap (λ (f : OutPoint → Option Coin). changed same_point f held.at (Some held.coin)) (coins_lists helds)

pub coins_some : (helds : List HeldCoin) → AreSome coins_keyed helds
coins_some [] = tt
coins_some (held ∷ helds) = (refl, coins_some helds)

pub points_are : (helds : List HeldCoin) → points_of helds ≡ map coins_keyed.key helds
points_are [] = refl
points_are (held ∷ helds) = ap (λ points. held.at ∷ points) (points_are helds)

one_coins : (f : OutPoint → Option Coin) (xs ys : List HeldCoin) → coins_listed xs ≡ f → coins_listed ys ≡ f → IsSortedByPoint xs → IsSortedByPoint ys → xs ≡ ys
one_coins f xs ys is is' sorted sorted' =
    one_sorted coins_keyed outpoint_cmp points_order f xs ys (subst (IsStrictlySortedBy outpoint_cmp) (points_are xs) sorted) (subst (IsStrictlySortedBy outpoint_cmp) (points_are ys) sorted') (points_apart xs sorted)
    (points_apart ys sorted') (coins_some xs) (coins_some ys) (coins_lists xs ∙ is) (coins_lists ys ∙ is')

-- ---- names

abbrev pub has_items : List Item → Bool
has_items [] = false
has_items (item ∷ items) = true

pub one_history : (a b : History) → a.name ≡ b.name → a.items ≡ b.items → a ≡ b
one_history a b name items = λ i. record { name = name i; items = items i }

abbrev pub names_keyed : Keyed (List ℕ) (List Item) History
names_keyed = record {
  same = bytes_eq;
  decides = bytes_eq-Decides;
  key = λ h. h.name;
  value = λ h. h.items;
  none = [];
  is_some = has_items;
  is_none = refl;
  one = one_history;
}

abbrev names_order : Orders bytes_eq (slice_cmp nat_cmp)
names_order = record { total = nat_list_cmp_total; ties = is_eq-slice_cmp }

pub names_lists : (hs : List History) → lists names_keyed hs ≡ names_listed hs
names_lists [] = refl
names_lists (h ∷ hs) = ap (λ (f : List ℕ → List Item). changed bytes_eq f h.name h.items) (names_lists hs)

some_items : (items : List Item) → items ≢ [] → has_items items ≡ true
some_items [] some = absurd (some refl)
some_items (item ∷ items) some = refl

pub names_some : (hs : List History) → AllByRecursion HasItems hs → AreSome names_keyed hs
names_some [] some = tt
names_some (h ∷ hs) some = (some_items h.items some.0, names_some hs some.1)

pub names_are_keys : (hs : List History) → names_of hs ≡ map names_keyed.key hs
names_are_keys [] = refl
names_are_keys (h ∷ hs) = ap (λ names. h.name ∷ names) (names_are_keys hs)

abbrev SortedNames : List History → Type 0
SortedNames hs = IsStrictlySortedBy (slice_cmp nat_cmp) (names_of hs)

one_names : (f : List ℕ → List Item) (xs ys : List History) → names_listed xs ≡ f → names_listed ys ≡ f → SortedNames xs → SortedNames ys → AllByRecursion HasItems xs → AllByRecursion HasItems ys
    → xs ≡ ys
one_names f xs ys is is' sorted sorted' some some' =
    one_sorted names_keyed (slice_cmp nat_cmp) names_order f xs ys (subst (IsStrictlySortedBy (slice_cmp nat_cmp)) (names_are_keys xs) sorted)
    (subst (IsStrictlySortedBy (slice_cmp nat_cmp)) (names_are_keys ys) sorted') (names_apart xs sorted) (names_apart ys sorted') (names_some xs some) (names_some ys some') (names_lists xs ∙ is) (names_lists ys ∙ is')

-- ---- the whole

pub one_image-state : (base : Base) (undos : List UndoRecord) (maps : Maps) (image other : Image) → IsImageOf base undos maps image → IsImageOf base undos maps other → image ≡ other
one_image-state base undos maps image other is is' =
    let bases : image.base ≡ other.base = is.base_is ∙ sym is'.base_is in
    let records : image.undos ≡ other.undos = is.undos_are ∙ sym is'.undos_are in
    let coins : image.coins ≡ other.coins =
    one_coins maps.coins image.coins other.coins (ap (λ (m : Maps). m.coins) is.maps_are) (ap (λ (m : Maps). m.coins) is'.maps_are) is.coins_sorted is'.coins_sorted in
    let names : image.names ≡ other.names =
    one_names maps.names image.names other.names (ap (λ (m : Maps). m.names) is.maps_are) (ap (λ (m : Maps). m.names) is'.maps_are) is.names_sorted is'.names_sorted is.some is'.some in
    λ i. record { base = bases i; undos = records i; coins = coins i; names = names i }

pub one_text-state : (version : Version) (base : Base) (undos : List UndoRecord) (maps : Maps) (text other : List ℕ) → IsStateText version base undos maps text → IsStateText version base undos maps other
    → text ≡ other
one_text-state version base undos maps text other is is' =
    is.text_is ∙ ap (image_text version) (one_image-state base _ maps is.image is'.image is.image_is is'.image_is) ∙ sym is'.text_is
