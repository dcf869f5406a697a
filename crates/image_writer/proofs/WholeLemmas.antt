-- The whole of what is written is the image of the parts.
use Rattle.std.proofs.Common.{◌≡◌, ℕ, ◌≤◌, ◌^◌, List, [], ◌∷◌, ◌++◌, length, map, reverse, refl, sym, ap, subst, ◌∙◌, append_assoc}
use Rattle.std.specs.Prelude.{Some}
use Rattle.std.specs.Int.{w32, to_le_bytes}
use Rattle.std.specs.List.{flat_map, AllByRecursion}
use Rattle.std.proofs.lemmas.List.{length-map, reverse-reverse}
use Rattle.nmc_base.specs.declared.chain_ends.Base.{Base}
use Rattle.nmc_base.specs.declared.chain_ends.Profile.{Profile}
use Rattle.nmc_base.specs.declared.hashes.OutPoint.{OutPoint}
use Rattle.nmc_base.proofs.ListLemmas.{all-weaker}
use Rattle.chain_names.specs.declared.coin.Coin.{Coin}
use Rattle.chain_names.specs.declared.coin.Coin.TheVariants.{New, Named}
use Rattle.chain_names.specs.declared.coin.HeldCoin.{HeldCoin}
use Rattle.chain_names.specs.declared.undo.Undo.{Undo}
use Rattle.chain_names.specs.Coins.{Maps}
use Rattle.chain_names.specs.Limits.{IsWithinLimits}
use Rattle.chain_names.specs.Seen.{seen_undo}
use Rattle.chain_names.specs.Sound.{IsSound}
use Rattle.chain_names.specs.State.{IsState, FitsItem}
use Rattle.chain_names.specs.Tables.{CoinSlots, NameSlots, coins_in, names_in}
use Rattle.chain_names.specs.Undo.{UndoRecord}
use Rattle.chain_names.specs.Writable.{HasShortName}
use Rattle.chain_names.proofs.SoundLemmas.{sound_state}
use Rattle.undo_records.specs.declared.version.Version.TheVariants.{Two}
use Rattle.undo_records.specs.Measured.{IsMeasured}
use Rattle.undo_records.specs.Text.{held_text, undo_text}
use Rattle.name_tables.specs.Parts.{newest_first, tables_of}
use Rattle.name_tables.specs.Tables.{maps_by}
use Rattle.name_tables.specs.declared.parts.Parts.{Parts}
use Rattle.image_grammar.specs.Image.{HasItems, IsImageOf}
use Rattle.image_grammar.specs.Text.{counted_text, head_text, history_text, image_text, IsStateText}
use Rattle.image_grammar.specs.Widths.{HaveWidths}
use Rattle.image_grammar.proofs.KeyedLaws.{StandIn, each_listed}
use Rattle.image_grammar.proofs.ListedLaws.{points_apart}
use Rattle.image_grammar.proofs.StateLaws.{coins_keyed, coins_lists, one_image-state}
use Rattle.image_grammar.proofs.WrittenLaws.{sound_limits, all_reversed, short_name, name_short, has_text-sound}
use Rattle.image_writer.specs.declared.listed.CoinPlace.{CoinPlace}
use Rattle.image_writer.specs.declared.listed.NamePlace.{NamePlace}
use Rattle.image_writer.specs.declared.listed.Listed.{Listed}
use Rattle.image_writer.specs.Left.{undos_left, IsWithin}
use Rattle.image_writer.specs.Listed.{AreShort, IsShortCoin, IsShortItem, IsShortName}
use Rattle.image_writer.specs.Places.{held_at, history_at, name_at, IsCoinAt, IsNameAt}
use Rattle.image_writer.specs.Whole.{image_by, IsWide, IsReadAgain, ListsParts}

-- ---- the text

pub whole_text : (base : Base) (undos : List Undo) (l : Listed) → (head_text Two base ++ to_le_bytes w32 (length undos)) ++ undos_left l undos ≡ image_text Two (image_by base undos l)
whole_text base undos l =
    let names : List ℕ = flat_map (history_text Two) (map (history_at l.name_table.now) l.names.items) in
    let coins : List ℕ = flat_map held_text (map (held_at l.coin_table) l.coins.items) in
    let records : List ℕ = flat_map (undo_text Two) (map seen_undo undos) in
    append_assoc (head_text Two base) (to_le_bytes w32 (length undos)) (undos_left l undos)
    ∙ ap (λ (n : ℕ). head_text Two base ++ (to_le_bytes w32 n ++ undos_left l undos)) (sym (length-map undos seen_undo))
    ∙ ap (λ (n : ℕ). head_text Two base ++ (to_le_bytes w32 (length (map seen_undo undos)) ++ (records ++ (to_le_bytes w32 n ++ (coins ++ (to_le_bytes w32 (length l.names.items) ++ names)))))) (sym (length-map l.coins.items (held_at l.coin_table)))
    ∙ ap (λ (n : ℕ). head_text Two base ++ (to_le_bytes w32 (length (map seen_undo undos)) ++ (records ++ (to_le_bytes w32 (length (map (held_at l.coin_table) l.coins.items)) ++ (coins ++ (to_le_bytes w32 n ++ names))))))
    (sym (length-map l.names.items (history_at l.name_table.now)))
    ∙ ap (λ (t : List ℕ). head_text Two base ++ t)
    (sym (append_assoc (to_le_bytes w32 (length (map seen_undo undos))) records _) ∙ ap (λ (t : List ℕ). counted_text (undo_text Two) (map seen_undo undos) ++ t) (sym (append_assoc (to_le_bytes w32 (length (map (held_at l.coin_table) l.coins.items))) coins _)))

-- ---- lists through references

all_seen : {X Y : Type 0} (P : Y → Type 0) (f : X → Y) (xs : List X) → AllByRecursion P (map f xs) → AllByRecursion (λ x. P (f x)) xs
all_seen P f [] all = tt
all_seen P f (x ∷ xs) all = (all.0, all_seen P f xs all.1)

seen_all : {X Y : Type 0} (P : Y → Type 0) (f : X → Y) (xs : List X) → AllByRecursion (λ x. P (f x)) xs → AllByRecursion P (map f xs)
seen_all P f [] all = tt
seen_all P f (x ∷ xs) all = (all.0, seen_all P f xs all.1)

pub oldest_first : (undos : List Undo) → reverse (newest_first undos) ≡ map seen_undo undos
oldest_first undos = reverse-reverse (map seen_undo undos)

pub all_measured : (undos : List Undo) → AllByRecursion IsWide undos → AllByRecursion IsMeasured (newest_first undos)
all_measured undos wide = all_reversed IsMeasured (map seen_undo undos) (seen_all IsMeasured seen_undo undos wide)

pub all_within : (undos : List Undo) → AllByRecursion IsWithinLimits (newest_first undos) → AllByRecursion IsWithin undos
all_within undos limits =
    all_seen IsWithinLimits seen_undo undos (subst (AllByRecursion IsWithinLimits) (oldest_first undos) (all_reversed IsWithinLimits (newest_first undos) limits))

-- ---- lengths

module _ (profile : Profile) (tip : ℕ) (maps : Maps) (state : IsState profile tip maps) where
  short_coin : (at : OutPoint) (coin : Coin) → maps.coins at ≡ Some coin → HasShortName coin
  short_coin at (New hash height) here = tt
  short_coin at (Named name height) here = short_name name (maps.names name) _ (state.lengths name) (state.named_coins at name height here).is_last.last

  short_coins : (slots : CoinSlots) (coins : List CoinPlace) → StandIn coins_keyed maps.coins (map (held_at slots) coins) → AllByRecursion (IsCoinAt slots) coins → AllByRecursion (IsShortCoin slots) coins
  short_coins slots [] stand there = tt
  short_coins slots (coin ∷ coins) stand there = (
    record { there = there.0; short = short_coin (held_at slots coin).at (held_at slots coin).coin stand.0 },
    short_coins slots coins stand.1 there.1,
  )

  short_names : (slots : NameSlots) → names_in slots ≡ maps.names → (names : List NamePlace) → AllByRecursion HasItems (map (history_at slots) names) → AllByRecursion (IsNameAt slots) names
      → AllByRecursion (IsShortName slots) names
  short_names slots are [] some there = tt
  short_names slots are (place ∷ names) some there = (
    record {
      there = there.0;
      short =
          name_short (name_at slots place) (names_in slots (name_at slots place)) some.0
          (subst (λ f. AllByRecursion (FitsItem (name_at slots place)) (f (name_at slots place))) (sym are) (state.lengths (name_at slots place)));
    },
    short_names slots are names some.1 there.1,
  )

pub all_short : (base : Base) (tip : ℕ) (parts : Parts) (l : Listed) → IsSound base.profile base.height tip (maps_by (tables_of parts)) (newest_first parts.undos.items) → ListsParts parts l → AreShort l
all_short base tip parts l sound lists =
    let maps : Maps = maps_by (tables_of parts) in
    let state : IsState base.profile tip maps = sound_state base.profile base.height tip maps (newest_first parts.undos.items) sound in
    let helds : List HeldCoin = map (held_at l.coin_table) l.coins.items in record {
      coins =
          short_coins base.profile tip maps state l.coin_table l.coins.items
          (subst (λ f. StandIn coins_keyed f helds) (coins_lists helds ∙ lists.coins_are.in_order.maps ∙ ap coins_in lists.coin_table_is)
          (each_listed coins_keyed helds (points_apart helds lists.coins_are.in_order.sorted)))
          lists.coins_are.there;
      names = short_names base.profile tip maps state l.name_table.now (ap names_in lists.name_table_is) l.names.items lists.names_are.in_order.some lists.names_are.there;
      items = λ name.
          all-weaker (FitsItem name) IsShortItem (names_in l.name_table.now name) (λ item fits. fits.value_length)
          (subst (λ slots. AllByRecursion (FitsItem name) (names_in slots name)) (sym lists.name_table_is) (state.lengths name));
    }

pub sound_within : (base : Base) (tip : ℕ) (parts : Parts) → IsSound base.profile base.height tip (maps_by (tables_of parts)) (newest_first parts.undos.items) → AllByRecursion IsWithin parts.undos.items
sound_within base tip parts sound = all_within parts.undos.items (sound_limits base.profile base.height tip (maps_by (tables_of parts)) (newest_first parts.undos.items) sound)

-- ---- the whole

is_image : (base : Base) (parts : Parts) (l : Listed) → ListsParts parts l → IsImageOf base (reverse (newest_first parts.undos.items)) (maps_by (tables_of parts)) (image_by base parts.undos.items l)
is_image base parts l lists = record {
  base_is = refl;
  undos_are = sym (oldest_first parts.undos.items);
  maps_are =
      let coins = lists.coins_are.in_order.maps ∙ ap coins_in lists.coin_table_is in
      let names = lists.names_are.in_order.maps ∙ ap names_in lists.name_table_is in
      λ i. record { coins = coins i; names = names i };
  coins_sorted = lists.coins_are.in_order.sorted;
  names_sorted = lists.names_are.in_order.sorted;
  some = lists.names_are.in_order.some;
}

pub is_text : (base : Base) (parts : Parts) (l : Listed) (undos : List Undo) (head counted : List ℕ) → ListsParts parts l → undos ≡ parts.undos.items → head ≡ [] ++ head_text Two base
    → counted ≡ head ++ to_le_bytes w32 (length undos) → IsStateText Two base (newest_first parts.undos.items) (maps_by (tables_of parts)) (counted ++ undos_left l undos)
is_text base parts l undos head counted lists are e e' = record {
  image = image_by base parts.undos.items l;
  image_is = is_image base parts l lists;
  text_is =
      ap (λ (t : List ℕ). t ++ undos_left l undos) (e' ∙ ap (λ (t : List ℕ). t ++ to_le_bytes w32 (length undos)) e)
      ∙ whole_text base undos l
      ∙ ap (λ (us : List Undo). image_text Two (image_by base us l)) are;
}

pub is_read_again : (base : Base) (tip : ℕ) (parts : Parts) (text : List ℕ) → IsStateText Two base (newest_first parts.undos.items) (maps_by (tables_of parts)) text
    → HaveWidths base (newest_first parts.undos.items) (maps_by (tables_of parts)) → IsSound base.profile base.height tip (maps_by (tables_of parts)) (newest_first parts.undos.items)
    → IsReadAgain base (newest_first parts.undos.items) (maps_by (tables_of parts)) text
is_read_again base tip parts text is widths sound short image is' =
    let undos : List UndoRecord = newest_first parts.undos.items in
    let maps : Maps = maps_by (tables_of parts) in
    has_text-sound Two base tip undos maps image is' widths sound
    (subst (λ (t : List ℕ). length t ≤ 2 ^ 37) (is.text_is ∙ ap (image_text Two) (one_image-state base (reverse undos) maps is.image image is.image_is is')) short)
