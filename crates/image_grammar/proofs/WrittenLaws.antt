-- The image of a sound state has a text, where that is no longer than 2^37 bytes.
use Rattle.std.proofs.Common.{◌≡◌, ◌≢◌, ℕ, ◌*◌, ◌^◌, ◌<◌, ◌≤◌, List, [], ◌∷◌, ◌++◌, length, reverse, refl, sym, ap, subst, ◌∙◌, arith, length-append}
use Rattle.std.specs.Prelude.{Some, None}
use Rattle.std.specs.Int.{w16, w32, to_le_bytes}
use Rattle.std.specs.List.{flat_map, AllByRecursion}
use Rattle.std.proofs.lemmas.List.{reverse-append}
use Rattle.nmc_base.specs.declared.chain_ends.Base.{Base}
use Rattle.nmc_base.specs.declared.chain_ends.Profile.{Profile}
use Rattle.nmc_base.specs.declared.hashes.OutPoint.{OutPoint}
use Rattle.nmc_base.specs.Heights.{highest}
use Rattle.nmc_base.proofs.ListLemmas.{all-append}
use Rattle.chain_names.specs.declared.coin.Coin.{Coin}
use Rattle.chain_names.specs.declared.coin.Coin.TheVariants.{New, Named}
use Rattle.chain_names.specs.declared.coin.HeldCoin.{HeldCoin}
use Rattle.chain_names.specs.declared.coin.Item.{Item}
use Rattle.chain_names.specs.Changes.{undone}
use Rattle.chain_names.specs.Coins.{Maps, entry_of}
use Rattle.chain_names.specs.Limits.{IsWithinLimits}
use Rattle.chain_names.specs.Measured.{IsMeasuredCoin, IsMeasuredItem, AreMeasured}
use Rattle.chain_names.specs.Sound.{IsSound}
use Rattle.chain_names.specs.State.{IsState, FitsItem}
use Rattle.chain_names.specs.Undo.{UndoRecord}
use Rattle.chain_names.specs.Writable.{IsWritableName, IsWritableItem, IsWritable}
use Rattle.chain_names.proofs.SoundLemmas.{sound_state, sound_height}
use Rattle.undo_records.specs.declared.version.Version.{Version}
use Rattle.undo_records.specs.Measured.{IsMeasured}
use Rattle.undo_records.specs.Text.{point_text, name_text, registered_text, item_text, held_text, undo_text}
use Rattle.undo_records.proofs.WidthLaws.{measured_fits}
use Rattle.image_grammar.specs.Image.{Image, History, IsWritableEntry, IsWritableHistory, IsWritableCoin, HasItems, HasText, IsImageOf}
use Rattle.image_grammar.specs.Text.{counted_text, head_text, history_text, image_text, IsStateText}
use Rattle.image_grammar.specs.Widths.{HaveWidths}
use Rattle.image_grammar.proofs.FewLaws.{point_long, held_long}
use Rattle.image_grammar.proofs.KeyedLaws.{StandIn, each_listed}
use Rattle.image_grammar.proofs.ListedLaws.{points_apart, names_apart}
use Rattle.image_grammar.proofs.StateLaws.{coins_keyed, coins_lists, names_keyed, names_lists}

-- ---- records

pub sound_limits : (profile : Profile) (base tip : ℕ) (maps : Maps) (us : List UndoRecord) → IsSound profile base tip maps us → AllByRecursion IsWithinLimits us
sound_limits profile base tip maps [] sound = tt
sound_limits profile base tip maps (u ∷ us) sound = (sound.1.limits, sound_limits profile base sound.0 (undone u.ops u.expired maps) us sound.2)

all_writable : (us : List UndoRecord) → AllByRecursion IsWithinLimits us → AllByRecursion IsMeasured us → AllByRecursion IsWritable us
all_writable [] limits measured = tt
all_writable (u ∷ us) limits measured = (measured_fits u limits.0 measured.0, all_writable us limits.1 measured.1)

pub all_reversed : {X : Type 0} (P : X → Type 0) (xs : List X) → AllByRecursion P xs → AllByRecursion P (reverse xs)
all_reversed P [] all = tt
all_reversed {X = X} P (x ∷ xs) all =
    subst (AllByRecursion P) (sym (reverse-append (x ∷ []) xs)) (all-append P (reverse xs) (x ∷ []) (all_reversed P xs all.1) (all.0, tt))

-- ---- coins

pub short_name : (name : List ℕ) (items : List Item) (item : Item) → AllByRecursion (FitsItem name) items → entry_of items ≡ Some item → IsWritableName name
short_name name [] item fits e = let bad : None ≡ Some item = e in absurd cc
short_name name (first ∷ items) item fits e = fits.0.name_length

module _ (profile : Profile) (tip : ℕ) (maps : Maps) (state : IsState profile tip maps) (measured : AreMeasured maps) where
  coin_writable : (at : OutPoint) (coin : Coin) → maps.coins at ≡ Some coin → IsMeasuredCoin at coin → IsWritableCoin coin
  coin_writable at (New hash height) here widths = (widths.height, widths.hash)
  coin_writable at (Named name height) here widths =
      let last = (state.named_coins at name height here).is_last in
      (widths.height, short_name name (maps.names name) _ (state.lengths name) last.last)

  coins_writable : (helds : List HeldCoin) → StandIn coins_keyed maps.coins helds → AllByRecursion IsWritableEntry helds
  coins_writable [] stand = tt
  coins_writable (held ∷ helds) stand =
      let widths = measured.coins held.at held.coin stand.0 in
      (record { at = widths.at; coin = coin_writable held.at held.coin stand.0 widths }, coins_writable helds stand.1)

-- ---- counts

-- values of 32 bytes or more
counted : {X : Type 0} (text : X → List ℕ) (xs : List X) → AllByRecursion (λ x. 32 ≤ length (text x)) xs → 32 * length xs ≤ length (flat_map text xs)
counted text [] long = omega arith
counted text (x ∷ xs) long = omega (arith, long.0, counted text xs long.1, length-append (text x) (flat_map text xs))

power : 2 ^ 37 ≡ 32 * 2 ^ 32
power = refl

few : {X : Type 0} (text : X → List ℕ) (xs : List X) → AllByRecursion (λ x. 32 ≤ length (text x)) xs → length (counted_text text xs) ≤ 2 ^ 37 → length xs < 2 ^ 32
few text xs long short = omega (arith, power, short, counted text xs long, length-append (to_le_bytes w32 (length xs)) (flat_map text xs))

coins_long : (helds : List HeldCoin) → AllByRecursion IsWritableEntry helds → AllByRecursion (λ held. 32 ≤ length (held_text held)) helds
coins_long [] fits = tt
coins_long (held ∷ helds) fits = (held_long held fits.0.at, coins_long helds fits.1)

undo_long : (version : Version) (u : UndoRecord) → IsWritable u → 32 ≤ length (undo_text version u)
unfolding undo_text
undo_long version u fits = omega (arith, fits.fits.block, length-append {A = ℕ})

undos_long : (version : Version) (us : List UndoRecord) → AllByRecursion IsWritable us → AllByRecursion (λ u. 32 ≤ length (undo_text version u)) us
undos_long version [] fits = tt
undos_long version (u ∷ us) fits = (undo_long version u fits.0, undos_long version us fits.1)

item_long : (version : Version) (item : Item) → IsMeasuredItem item → 32 ≤ length (item_text version item)
unfolding item_text
item_long version item widths =
    let value : List ℕ = to_le_bytes w16 (length item.value) ++ item.value in
    let behind : List ℕ = registered_text version item.registered ++ (point_text item.at ++ value) in
    omega (
      arith,
      point_long item.at widths.at,
      length-append (to_le_bytes w32 item.height) behind,
      length-append (registered_text version item.registered) (point_text item.at ++ value),
      length-append (point_text item.at) value,
    )

items_long : (version : Version) (items : List Item) → AllByRecursion IsMeasuredItem items → AllByRecursion (λ item. 32 ≤ length (item_text version item)) items
items_long version [] widths = tt
items_long version (item ∷ items) widths = (item_long version item widths.0, items_long version items widths.1)

-- ---- names

items_writable : (name : List ℕ) (items : List Item) → AllByRecursion (FitsItem name) items → AllByRecursion IsMeasuredItem items → AllByRecursion IsWritableItem items
items_writable name [] fits widths = tt
items_writable name (item ∷ items) fits widths =
    (record { height = widths.0.height; registered = widths.0.registered; at = widths.0.at; value = fits.0.value_length }, items_writable name items fits.1 widths.1)

pub name_short : (name : List ℕ) (items : List Item) → items ≢ [] → AllByRecursion (FitsItem name) items → IsWritableName name
name_short name [] some fits = absurd (some refl)
name_short name (item ∷ items) some fits = fits.0.name_length

some_long : (version : Version) (items : List Item) → items ≢ [] → AllByRecursion (λ item. 32 ≤ length (item_text version item)) items → 32 ≤ length (flat_map (item_text version) items)
some_long version [] some long = absurd (some refl)
some_long version (item ∷ items) some long = omega (arith, long.0, length-append (item_text version item) (flat_map (item_text version) items))

-- what a state says of a name and of its items
record HasPlace (h : History) : Type 0 where
  some : h.items ≢ []
  fits : AllByRecursion (FitsItem h.name) h.items
  widths : AllByRecursion IsMeasuredItem h.items

history_long : (version : Version) (h : History) → HasPlace h → 32 ≤ length (history_text version h)
history_long version h has =
    let items : List ℕ = flat_map (item_text version) h.items in
    omega (
      arith,
      some_long version h.items has.some (items_long version h.items has.widths),
      length-append (name_text h.name) (counted_text (item_text version) h.items),
      length-append (to_le_bytes w32 (length h.items)) items,
    )

histories_long : (version : Version) (hs : List History) → AllByRecursion HasPlace hs → AllByRecursion (λ h. 32 ≤ length (history_text version h)) hs
histories_long version [] has = tt
histories_long version (h ∷ hs) has = (history_long version h has.0, histories_long version hs has.1)

history_writable : (version : Version) (h : History) → HasPlace h → length (history_text version h) ≤ 2 ^ 37 → IsWritableHistory h
history_writable version h has short = record {
  name = name_short h.name h.items has.some has.fits;
  some = has.some;
  count =
      few (item_text version) h.items (items_long version h.items has.widths)
      (omega (arith, short, length-append (name_text h.name) (counted_text (item_text version) h.items)));
  items = items_writable h.name h.items has.fits has.widths;
}

histories_writable : (version : Version) (hs : List History) → AllByRecursion HasPlace hs → length (flat_map (history_text version) hs) ≤ 2 ^ 37 → AllByRecursion IsWritableHistory hs
histories_writable version [] has short = tt
histories_writable version (h ∷ hs) has short = (
  history_writable version h has.0 (omega (arith, short, length-append (history_text version h) (flat_map (history_text version) hs))),
  histories_writable version hs has.1 (omega (arith, short, length-append (history_text version h) (flat_map (history_text version) hs))),
)

module _ (profile : Profile) (tip : ℕ) (maps : Maps) (state : IsState profile tip maps) (measured : AreMeasured maps) where
  have_places : (hs : List History) → AllByRecursion HasItems hs → StandIn names_keyed maps.names hs → AllByRecursion HasPlace hs
  have_places [] some stand = tt
  have_places (h ∷ hs) some stand = (
    record {
      some = some.0;
      fits = subst (AllByRecursion (FitsItem h.name)) stand.0 (state.lengths h.name);
      widths = subst (AllByRecursion IsMeasuredItem) stand.0 (measured.items h.name);
    },
    have_places hs some.1 stand.1,
  )

-- ---- the whole

low : (profile : Profile) (base tip : ℕ) (maps : Maps) (us : List UndoRecord) → IsSound profile base tip maps us → base < 2 ^ 32
low profile base tip maps us sound =
    let high : tip ≤ highest = (sound_state profile base tip maps us sound).tip_height in
    omega (arith, high, sound_height profile base tip maps us sound)

pub has_text-sound : (version : Version) (base : Base) (tip : ℕ) (us : List UndoRecord) (maps : Maps) (image : Image) → IsImageOf base (reverse us) maps image → HaveWidths base us maps
    → IsSound base.profile base.height tip maps us → length (image_text version image) ≤ 2 ^ 37 → HasText image
has_text-sound version base tip us maps image is widths sound short =
    let state = sound_state base.profile base.height tip maps us sound in
    let undos : AllByRecursion IsWritable image.undos =
    subst (AllByRecursion IsWritable) (sym is.undos_are)
    (all_reversed IsWritable us (all_writable us (sound_limits base.profile base.height tip maps us sound) widths.undos_are)) in
    let coins : AllByRecursion IsWritableEntry image.coins =
    coins_writable base.profile tip maps state widths.maps_are image.coins
    (subst (λ f. StandIn coins_keyed f image.coins) (coins_lists image.coins ∙ ap (λ (m : Maps). m.coins) is.maps_are) (each_listed coins_keyed image.coins (points_apart image.coins is.coins_sorted))) in
    let places : AllByRecursion HasPlace image.names =
    have_places base.profile tip maps state widths.maps_are image.names is.some
    (subst (λ f. StandIn names_keyed f image.names) (names_lists image.names ∙ ap (λ (m : Maps). m.names) is.maps_are) (each_listed names_keyed image.names (names_apart image.names is.names_sorted))) in
    let names_text : List ℕ = counted_text (history_text version) image.names in
    let coins_text : List ℕ = counted_text held_text image.coins in
    let undos_text : List ℕ = counted_text (undo_text version) image.undos in
    let whole = length-append (head_text version image.base) (undos_text ++ (coins_text ++ names_text)) in
    let behind = length-append undos_text (coins_text ++ names_text) in
    let last = length-append coins_text names_text in
    let names_short : length names_text ≤ 2 ^ 37 = omega (arith, short, whole, behind, last) in
    record {
      height = subst (λ (b : Base). b.height < 2 ^ 32) (sym is.base_is) (low base.profile base.height tip maps us sound);
      hash = ap (λ (b : Base). length b.hash.0) is.base_is ∙ widths.hash;
      undo_count = few (undo_text version) image.undos (undos_long version image.undos undos) (omega (arith, short, whole, behind));
      undos = undos;
      coin_count = few held_text image.coins (coins_long image.coins coins) (omega (arith, short, whole, behind, last));
      coins = coins;
      coins_sorted = is.coins_sorted;
      name_count = few (history_text version) image.names (histories_long version image.names places) names_short;
      names =
          histories_writable version image.names places
          (omega (arith, names_short, length-append (to_le_bytes w32 (length image.names)) (flat_map (history_text version) image.names)));
      names_sorted = is.names_sorted;
    }

pub written-sound : (version : Version) (base : Base) (tip : ℕ) (us : List UndoRecord) (maps : Maps) (text : List ℕ) (is : IsStateText version base us maps text) → HaveWidths base us maps
    → IsSound base.profile base.height tip maps us → length text ≤ 2 ^ 37 → HasText is.image
written-sound version base tip us maps text is widths sound short =
    has_text-sound version base tip us maps is.image is.image_is widths sound (subst (λ (t : List ℕ). length t ≤ 2 ^ 37) is.text_is short)
