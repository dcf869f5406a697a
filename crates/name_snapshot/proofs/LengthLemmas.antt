-- The image of a snapshot's index isn't long: it lists the coins and the values that the makes leave, in another order.
use Rattle.std.proofs.Common.{◌≡◌, ◌≢◌, ℕ, suc, ◌+◌, ◌*◌, ◌≤◌, List, [], ◌∷◌, ◌++◌, length, refl, sym, ap, ◌∙◌, arith, true≢false, length-append}
use Rattle.std.specs.Prelude.{Option, Some}
use Rattle.std.specs.Cmp.Lexicographic.{slice_cmp}
use Rattle.std.specs.Int.{w16, w32, to_le_bytes}
use Rattle.std.specs.List.{AllByRecursion, flat_map}
use Rattle.std.specs.List.Sorted.{IsStrictlySortedBy}
use Rattle.std.specs.Ordering.{nat_cmp}
use Rattle.std.specs.Str.{bytes_eq}
use Rattle.nmc_base.specs.declared.chain_ends.Base.{Base}
use Rattle.nmc_base.specs.declared.hashes.OutPoint.{OutPoint}
use Rattle.chain_names.specs.declared.coin.Coin.{Coin}
use Rattle.chain_names.specs.declared.coin.HeldCoin.{HeldCoin}
use Rattle.chain_names.specs.declared.coin.Item.{Item}
use Rattle.chain_names.specs.Coins.{Maps, coin_of, opened, unless_expired, live_coin, with_operation, history_of}
use Rattle.chain_names.specs.Expired.{IsSortedByPoint}
use Rattle.chain_names.specs.Index.{index_maps}
use Rattle.chain_names.specs.Points.{same_point, changed}
use Rattle.chain_names.specs.Start.{IsStartOperation}
use Rattle.chain_names.specs.Undo.{UndoRecord}
use Rattle.chain_names.proofs.IndexLemmas.{index_at_base}
use Rattle.undo_records.specs.declared.version.Version.TheVariants.{Two}
use Rattle.undo_records.specs.Text.{point_text, coin_text, held_text, item_text, undo_text}
use Rattle.image_grammar.specs.Image.{Image, History, HasItems, names_of, coins_listed, names_listed}
use Rattle.image_grammar.specs.Text.{counted_text, head_text, history_text, IsStateText}
use Rattle.image_grammar.proofs.KeyedLaws.{Keyed, lists, Apart, AreSome, StandIn, each_listed, total-flat_map, same_sum}
use Rattle.image_grammar.proofs.ListedLaws.{points_apart, names_apart}
use Rattle.image_grammar.proofs.StateLaws.{coins_keyed, coins_lists, coins_some, names_keyed, names_lists, names_some}
use Rattle.name_snapshot.specs.Makes.{MayFollowAll, IsSnapshot}
use Rattle.name_snapshot.specs.Text.{Told, commitment, value, StartMake, operation_of, start_of, told_text, make_text, makes_text}
use Rattle.name_snapshot.proofs.IndexLemmas.{live_more}
use Rattle.name_snapshot.proofs.PutLemmas.{first_value}

-- ---- what the makes leave, the newest first

abbrev coin_by : StartMake → HeldCoin
coin_by m = record { at = m.at; coin = coin_of (operation_of m.told) m.height }

abbrev coins_by : List StartMake → List HeldCoin
coins_by [] = []
coins_by (m ∷ below) = coin_by m ∷ coins_by below

-- the history of a name with one value
abbrev one_value : OutPoint → ℕ → List ℕ → List ℕ → History
one_value at height name bytes = record { name = name; items = opened height at bytes ∷ [] }

abbrev with_told : OutPoint → ℕ → Told → List History → List History
with_told at height (commitment hash) hs = hs
with_told at height (value name bytes) hs = one_value at height name bytes ∷ hs

abbrev histories_by : List StartMake → List History
histories_by [] = []
histories_by (m ∷ below) = with_told m.at m.height m.told (histories_by below)

histories_some : (makes : List StartMake) → AllByRecursion HasItems (histories_by makes)
histories_some [] = tt
histories_some (m ∷ below) = by m.told (histories_some below)
  where
    by : (t : Told) → AllByRecursion HasItems (histories_by below) → AllByRecursion HasItems (with_told m.at m.height t (histories_by below))
    by (commitment hash) some = some
    by (value name bytes) some = ((λ e. absurd cc), some)

-- ---- these are listed, each once

module _ {K V X : Type 0} (l : Keyed K V X) where
  all_others : (f : K → V) (key : K) (xs : List X) → f key ≡ l.none → AreSome l xs → StandIn l f xs → AllByRecursion (λ y. key ≢ l.key y) xs
  all_others f key [] free some stand = tt
  all_others f key (x ∷ xs) free some stand =
      ((λ e. true≢false (sym some.0 ∙ ap l.is_some (sym stand.0 ∙ ap f (sym e) ∙ free) ∙ l.is_none)), all_others f key xs free some.1 stand.1)

  -- a value more, at a key where none is listed
  apart_more : (x : X) (xs : List X) → lists l xs (l.key x) ≡ l.none → AreSome l xs → Apart l xs → Apart l (x ∷ xs)
  apart_more x xs free some apart = (all_others (lists l xs) (l.key x) xs free some (each_listed l xs apart), apart)

module _ (base : Base) where
  abbrev height : ℕ
  height = suc base.height

  coins_are : (makes : List StartMake) → MayFollowAll base makes → coins_listed (coins_by makes) ≡ live_coin base.profile (start_of makes) height
  coins_are [] follow = refl
  coins_are (m ∷ below) follow =
      ap (λ (f : OutPoint → Option Coin). changed same_point f m.at (Some (coin_of (operation_of m.told) m.height))) (coins_are below follow.1) ∙ sym (live_more base below m follow.0)

  coins_apart : (makes : List StartMake) → MayFollowAll base makes → Apart coins_keyed (coins_by makes)
  coins_apart [] follow = tt
  coins_apart (m ∷ below) follow =
      apart_more coins_keyed (coin_by m) (coins_by below)
      (ap (λ (f : OutPoint → Option Coin). f m.at) (coins_lists (coins_by below) ∙ coins_are below follow.1) ∙ ap (unless_expired base.profile height) follow.0.start.one) (coins_some (coins_by below))
      (coins_apart below follow.1)

  names_are : (makes : List StartMake) → MayFollowAll base makes → names_listed (histories_by makes) ≡ history_of (start_of makes)
  names_are [] follow = refl
  names_are (m ∷ below) follow = by m.told follow.0.start.fits (names_are below follow.1)
    where
      by : (t : Told) → IsStartOperation base.profile base.height (start_of below) (operation_of t) m.height → names_listed (histories_by below) ≡ history_of (start_of below)
          → names_listed (with_told m.at m.height t (histories_by below)) ≡ with_operation (history_of (start_of below)) m.at (operation_of t) m.height
      by (commitment hash) fits same = same
      by (value name bytes) fits same =
          let item : Item = opened m.height m.at bytes in
          first_value (history_of (start_of below)) (names_listed (with_told m.at m.height (value name bytes) (histories_by below))) m.at m.height name bytes fits.one
          (ap (λ (f : List ℕ → List Item). changed bytes_eq f name (item ∷ [])) same ∙ ap (λ (items : List Item). changed bytes_eq (history_of (start_of below)) name (items ++ item ∷ [])) (sym fits.one))

  histories_apart : (makes : List StartMake) → MayFollowAll base makes → Apart names_keyed (histories_by makes)
  histories_apart [] follow = tt
  histories_apart (m ∷ below) follow = by m.told follow.0.start.fits (histories_apart below follow.1)
    where
      by : (t : Told) → IsStartOperation base.profile base.height (start_of below) (operation_of t) m.height → Apart names_keyed (histories_by below)
          → Apart names_keyed (with_told m.at m.height t (histories_by below))
      by (commitment hash) fits apart = apart
      by (value name bytes) fits apart =
          apart_more names_keyed (one_value m.at m.height name bytes) (histories_by below)
          (ap (λ (f : List ℕ → List Item). f name) (names_lists (histories_by below) ∙ names_are below follow.1) ∙ fits.one) (names_some (histories_by below) (histories_some below)) apart

  -- ---- the lists of an image are as long

  coins_length : (makes : List StartMake) (helds : List HeldCoin) → MayFollowAll base makes → coins_listed helds ≡ live_coin base.profile (start_of makes) height → IsSortedByPoint helds
      → length (flat_map held_text helds) ≡ length (flat_map held_text (coins_by makes))
  coins_length makes helds follow maps sorted =
      total-flat_map held_text helds
      ∙ same_sum coins_keyed (λ (held : HeldCoin). length (held_text held)) helds (coins_by makes) (points_apart helds sorted) (coins_apart makes follow) (coins_some helds) (coins_some (coins_by makes))
      (λ point. ap (λ (f : OutPoint → Option Coin). f point) (coins_lists helds ∙ maps ∙ sym (coins_are makes follow) ∙ sym (coins_lists (coins_by makes))))
      ∙ sym (total-flat_map held_text (coins_by makes))

  names_length : (makes : List StartMake) (hs : List History) → MayFollowAll base makes → names_listed hs ≡ history_of (start_of makes) → IsStrictlySortedBy (slice_cmp nat_cmp) (names_of hs)
      → AllByRecursion HasItems hs → length (flat_map (history_text Two) hs) ≡ length (flat_map (history_text Two) (histories_by makes))
  names_length makes hs follow maps sorted some =
      total-flat_map (history_text Two) hs
      ∙ same_sum names_keyed (λ (h : History). length (history_text Two h)) hs (histories_by makes) (names_apart hs sorted) (histories_apart makes follow) (names_some hs some)
      (names_some (histories_by makes) (histories_some makes))
      (λ name. ap (λ (f : List ℕ → List Item). f name) (names_lists hs ∙ maps ∙ sym (names_are makes follow) ∙ sym (names_lists (histories_by makes))))
      ∙ sym (total-flat_map (history_text Two) (histories_by makes))

-- ---- lengths

held_length : (held : HeldCoin) → length (held_text held) ≡ length (point_text held.at) + length (coin_text held.coin)
unfolding held_text
held_length held = length-append (point_text held.at) (coin_text held.coin)

item_length : (item : Item) → length (item_text Two item) ≡ 10 + (length (point_text item.at) + length item.value)
unfolding item_text
item_length item = omega (arith, length-append (point_text item.at) (to_le_bytes w16 (length item.value) ++ item.value))

history_length : (at : OutPoint) (height : ℕ) (name bytes : List ℕ)
    → length (history_text Two (one_value at height name bytes)) ≡ 15 + (length name + (length (point_text at) + length bytes))
history_length at height name bytes =
    let item : Item = opened height at bytes in
    omega (arith, item_length item, length-append name (counted_text (item_text Two) (item ∷ [])), length-append (item_text Two item) [])

-- what a make leaves has at most three times its bytes
make_fits : (m : StartMake) (hs : List History)
    → length (held_text (coin_by m)) + length (flat_map (history_text Two) (with_told m.at m.height m.told hs)) ≤ 3 * length (make_text m) + length (flat_map (history_text Two) hs)
unfolding coin_text
make_fits m hs = omega (arith, held_length (coin_by m), length-append (point_text m.at) (told_text m.height m.told), by m.told)
  where
    by : (t : Told)
        → length (coin_text (coin_of (operation_of t) m.height)) + length (flat_map (history_text Two) (with_told m.at m.height t hs))
        ≤ 2 * length (point_text m.at) + (3 * length (told_text m.height t) + length (flat_map (history_text Two) hs))
    by (commitment hash) = omega arith
    by (value name bytes) =
        omega (
          arith,
          history_length m.at m.height name bytes,
          length-append (history_text Two (one_value m.at m.height name bytes)) (flat_map (history_text Two) hs),
          length-append name (to_le_bytes w16 (length bytes) ++ bytes),
        )

makes_fit : (makes : List StartMake) → length (flat_map held_text (coins_by makes)) + length (flat_map (history_text Two) (histories_by makes)) ≤ 3 * length (makes_text makes)
makes_fit [] = omega arith
makes_fit (m ∷ below) =
    omega (
      arith,
      makes_fit below,
      make_fits m (histories_by below),
      length-append (held_text (coin_by m)) (flat_map held_text (coins_by below)),
      length-append (makes_text below) (make_text m),
    )

head_length : (base : Base) → length (head_text Two base) ≡ 10 + length base.hash.0
head_length base = omega (arith, length-append (to_le_bytes w32 base.height) base.hash.0)

counted_length : {X : Type 0} (text : X → List ℕ) (xs : List X) → length (counted_text text xs) ≡ 4 + length (flat_map text xs)
counted_length text xs = omega (arith, length-append (to_le_bytes w32 (length xs)) (flat_map text xs))

pub image_short : (base : Base) (text : List ℕ) (makes : List StartMake) (image : List ℕ) → IsSnapshot base text makes
    → IsStateText Two base [] (index_maps base.profile (start_of makes) base.height []) image → length image ≤ 22 + length base.hash.0 + 3 * length text
image_short base text makes image snapshot is =
    let held : Image = is.image in
    let maps = is.image_is.maps_are ∙ index_at_base base.profile (start_of makes) base.height in
    let undos : List ℕ = counted_text (undo_text Two) held.undos in
    let coins : List ℕ = counted_text held_text held.coins in
    let names : List ℕ = counted_text (history_text Two) held.names in
    omega (
      arith,
      ap length snapshot.text_is,
      makes_fit makes,
      ap length is.text_is,
      head_length held.base,
      ap (λ (b : Base). length b.hash.0) is.image_is.base_is,
      length-append (head_text Two held.base) (undos ++ (coins ++ names)),
      length-append undos (coins ++ names),
      length-append coins names,
      ap (λ (us : List UndoRecord). length (counted_text (undo_text Two) us)) is.image_is.undos_are,
      counted_length held_text held.coins,
      counted_length (history_text Two) held.names,
      coins_length base makes held.coins snapshot.follow (ap (λ (m : Maps). m.coins) maps) is.image_is.coins_sorted,
      names_length base makes held.names snapshot.follow (ap (λ (m : Maps). m.names) maps) is.image_is.names_sorted is.image_is.some,
    )
