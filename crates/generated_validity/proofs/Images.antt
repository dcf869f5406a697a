-- No image of a run's chain is too long, or two txids are one.
use Rattle.std.proofs.Common.{◌≡◌, ℕ, suc, ◌^◌, ◌≤◌, ◌⊎◌, Bool, true, false, ◌||◌, List, [], ◌∷◌, ◌++◌, length, reverse, refl, sym, ap, subst, ◌∙◌, arith, inl, inr, length-append}
use Rattle.std.specs.Cmp.Lexicographic.{slice_cmp, nat_list_cmp_total}
use Rattle.std.specs.Int.{w32, to_le_bytes}
use Rattle.std.specs.List.{flat_map, AllByRecursion, list_any}
use Rattle.std.specs.List.Sorted.{IsStrictlySortedBy}
use Rattle.std.specs.Ordering.{nat_cmp}
use Rattle.std.specs.Set.{is_member}
use Rattle.std.proofs.lemmas.Cmp.{eq_by_cmp_equiv}
use Rattle.std.proofs.lemmas.List.{length-reverse}
use Rattle.std.proofs.lemmas.Map.Keys.{IsDistinct-from_sorted}
use Rattle.std.proofs.lemmas.Map.Made.{length-le_from_is_member}
use Rattle.std.proofs.lemmas.Map.Text.{is_eq-slice_cmp}
use Rattle.nmc_base.specs.declared.chain_ends.Base.{Base}
use Rattle.nmc_base.proofs.ListLemmas.{all-weaker}
use Rattle.chain_names.specs.declared.coin.Item.{Item}
use Rattle.chain_names.specs.Coins.{Maps, history_of}
use Rattle.chain_names.specs.Index.{next_height}
use Rattle.chain_names.specs.Log.{Log}
use Rattle.chain_names.specs.Undo.{UndoRecord}
use Rattle.chain_names.proofs.Changed.{bytes_eq-true}
use Rattle.undo_records.specs.declared.version.Version.TheVariants.{Two}
use Rattle.undo_records.specs.Text.{held_text, item_text, undo_text}
use Rattle.image_grammar.specs.Image.{HasItems, History, Image, IsImageOf, names_of}
use Rattle.image_grammar.specs.Text.{counted_text, head_text, history_text, image_text}
use Rattle.image_grammar.proofs.KeyedLaws.{StandIn, each_listed}
use Rattle.image_grammar.proofs.ListedLaws.{names_apart, points_apart}
use Rattle.image_grammar.proofs.StateLaws.{coins_keyed, coins_lists, names_keyed, names_lists}
use Rattle.image_grammar.proofs.WrittenLaws.{all_reversed}
use Rattle.chain_commands.specs.Saving.{HasLongText, IsTextOf, longest_image}
use Rattle.generated_chain.specs.Blocks.{run_base}
use Rattle.generated_validity.specs.Carried.{HaveOneTxid}
use Rattle.generated_validity.specs.Blocks.{blocks_behind, maps_behind}
use Rattle.generated_validity.specs.Causes.{chain_behind}
use Rattle.generated_validity.proofs.Logs.{IsShortHistory, IsSmall, history_short, names_given, same_name}
use Rattle.generated_validity.proofs.Parts.{history_length, item_length, texts_length}
use Rattle.generated_validity.proofs.Records.{IsShortChain, IsShortRecord, helds_length, log_behind, short_chain}

-- ---- names in order

one_name : (a b : List ℕ) → same_name a b ≡ true → a ≡ b
one_name a b e = bytes_eq-true a b (sym (is_eq-slice_cmp a b) ∙ e)

listed_member : (names keys : List (List ℕ)) (name : List ℕ) → AllByRecursion (λ key. list_any (same_name key) names ≡ true) keys → is_member same_name keys name ≡ true → list_any (same_name name) names ≡ true
listed_member names [] name all e = let bad : false ≡ true = e in absurd cc
listed_member names (key ∷ keys) name all e = by (same_name name key) refl e (listed_member names keys name all.1)
  where
    by : (b : Bool) → same_name name key ≡ b → (b || is_member same_name keys name) ≡ true
        → (is_member same_name keys name ≡ true → list_any (same_name name) names ≡ true) → list_any (same_name name) names ≡ true
    by true is e' later = subst (λ (n : List ℕ). list_any (same_name n) names ≡ true) (sym (one_name name key is)) all.0
    by false is e' later = later e'

names_few : (names keys : List (List ℕ)) → IsStrictlySortedBy (slice_cmp nat_cmp) keys → AllByRecursion (λ key. list_any (same_name key) names ≡ true) keys → length keys ≤ length names
names_few names keys sorted all =
    length-le_from_is_member (eq_by_cmp_equiv nat_list_cmp_total) keys names (IsDistinct-from_sorted (slice_cmp nat_cmp) keys sorted)
    (λ name member. listed_member names keys name all member)

-- ---- histories

module _ (n : ℕ) (low : n ≤ 10000) (log : Log) (small : IsSmall n log) where
  abbrev Stands : History → Type 0
  Stands h = history_of log h.name ≡ h.items

  own : (h : History) → Stands h → IsShortHistory (names_given log) h.name h.items
  own h stands = subst (IsShortHistory (names_given log) h.name) stands (history_short log small.short h.name)

  -- each is short, and its name is one of those that were given a value
  record IsFit (h : History) : Type 0 where
    text : length (history_text Two h) ≤ 10690260
    listed : list_any (same_name h.name) (names_given log) ≡ true

  fit : (h : History) → HasItems h → Stands h → IsFit h
  fit h some stands =
      let is = own h stands in
      record {
        text = history_length h (is.name_is some) (omega (arith, is.few, small.names, low)) (all-weaker _ (λ (item : Item). length (item_text Two item) ≤ 1069) h.items item_length is.items_are);
        listed = is.listed some;
      }

  all_fit : (hs : List History) → AllByRecursion HasItems hs → AllByRecursion Stands hs → AllByRecursion IsFit hs
  all_fit [] some stand = tt
  all_fit (h ∷ hs) some stand = (fit h some.0 stand.0, all_fit hs some.1 stand.1)

  names_listed : (hs : List History) → AllByRecursion IsFit hs → AllByRecursion (λ (name : List ℕ). list_any (same_name name) (names_given log) ≡ true) (names_of hs)
  names_listed [] are = tt
  names_listed (h ∷ hs) are = (are.0.listed, names_listed hs are.1)

  length-names_of : (hs : List History) → length (names_of hs) ≡ length hs
  length-names_of [] = refl
  length-names_of (h ∷ hs) = ap suc (length-names_of hs)

  histories_length : (hs : List History) → AllByRecursion HasItems hs → AllByRecursion Stands hs → IsStrictlySortedBy (slice_cmp nat_cmp) (names_of hs)
      → length (flat_map (history_text Two) hs) ≤ 106902600000
  histories_length hs some stand sorted =
      let are = all_fit hs some stand in
      omega (
        arith,
        low,
        small.names,
        names_few (names_given log) (names_of hs) sorted (names_listed hs are),
        length-names_of hs,
        texts_length (history_text Two) 10690260 hs (all-weaker IsFit (λ (h : History). length (history_text Two h) ≤ 10690260) hs (λ h is. is.text) are),
      )

-- ---- the image

module _ (seed n : ℕ) (low : n ≤ 10000) (chain : IsShortChain seed n) where
  abbrev log : Log
  log = log_behind seed n

  abbrev height : ℕ
  height = next_height 0 (blocks_behind seed n)

  coins_length : (image : Image) (undos : List UndoRecord) → IsImageOf run_base undos (maps_behind seed n) image → length (flat_map held_text image.coins) ≤ 2970000
  coins_length image undos is =
      let stand : StandIn coins_keyed (maps_behind seed n).coins image.coins =
      subst (λ f. StandIn coins_keyed f image.coins) (coins_lists image.coins ∙ ap (λ (m : Maps). m.coins) is.maps_are) (each_listed coins_keyed image.coins (points_apart image.coins is.coins_sorted)) in
      let helds = helds_length n height log image.coins chain.small stand is.coins_sorted in
      omega (arith, helds.0, helds.1, low)

  names_length : (image : Image) (undos : List UndoRecord) → IsImageOf run_base undos (maps_behind seed n) image → length (flat_map (history_text Two) image.names) ≤ 106902600000
  names_length image undos is =
      let stand : StandIn names_keyed (maps_behind seed n).names image.names =
      subst (λ f. StandIn names_keyed f image.names) (names_lists image.names ∙ ap (λ (m : Maps). m.names) is.maps_are) (each_listed names_keyed image.names (names_apart image.names is.names_sorted)) in
      histories_length n low log chain.small image.names is.some stand is.names_sorted

  undos_length : (us : List UndoRecord) → (length us ≤ n) × AllByRecursion IsShortRecord us → length (flat_map (undo_text Two) (reverse us)) ≤ 29717000000
  undos_length us are = omega (arith, low, are.0, length-reverse us, texts_length (undo_text Two) 2971700 (reverse us) (all_reversed IsShortRecord us are.1))

  -- the image of these records, coins and names
  parts_length : (image : Image) → length image.base.hash.0 ≡ 32 → length (flat_map (undo_text Two) image.undos) ≤ 29717000000 → length (flat_map held_text image.coins) ≤ 2970000
      → length (flat_map (history_text Two) image.names) ≤ 106902600000 → length (image_text Two image) ≤ 2 ^ 37
  parts_length image base undos coins names =
      let third : List ℕ = counted_text (history_text Two) image.names in
      let second : List ℕ = counted_text held_text image.coins ++ third in
      let first : List ℕ = counted_text (undo_text Two) image.undos ++ second in
      omega (
        arith,
        base,
        undos,
        coins,
        names,
        length-append (to_le_bytes w32 image.base.height) image.base.hash.0,
        length-append (head_text Two image.base) first,
        length-append (counted_text (undo_text Two) image.undos) second,
        length-append (counted_text held_text image.coins) third,
        length-append (to_le_bytes w32 (length image.undos)) (flat_map (undo_text Two) image.undos),
        length-append (to_le_bytes w32 (length image.coins)) (flat_map held_text image.coins),
        length-append (to_le_bytes w32 (length image.names)) (flat_map (history_text Two) image.names),
      )

  text_short : (text : List ℕ) → IsTextOf Two (chain_behind seed n) text → length text ≤ longest_image
  text_short text is =
      let image = is.is_text.image in
      let image_is = is.is_text.image_is in
      let undos = subst (λ (us : List UndoRecord). length (flat_map (undo_text Two) us) ≤ 29717000000) (sym image_is.undos_are) (undos_length is.undos (chain.undos is.undos is.are_undos)) in
      let base : length image.base.hash.0 ≡ 32 = ap (λ (b : Base). length b.hash.0) image_is.base_is in
      subst (λ (bytes : List ℕ). length bytes ≤ 2 ^ 37) (sym is.is_text.text_is)
      (parts_length image base undos (coins_length image (reverse is.undos) image_is) (names_length image (reverse is.undos) image_is))

-- no text of the index behind so many blocks is too long
pub no_long_text : (seed n : ℕ) → n ≤ 10000 → HaveOneTxid seed n ⊎ ¬ (HasLongText longest_image (chain_behind seed n))
no_long_text seed n low =
    elim (short_chain seed n low) [
      | inl same ↦ inl same
      | inr chain ↦ inr (λ is. omega (arith, is.long, text_short seed n low chain is.text is.is_text))
    ]
