-- Images that are told alike, and images whose registration heights are others.
use Rattle.std.proofs.Common.{◌≡◌, ◌≢◌, ◌⊎◌, ℕ, ◌<◌, ◌^◌, Bool, true, false, cond, List, [], ◌∷◌, length, map, reverse, inl, inr, ⊎_elim, refl, sym, ap, subst, ◌∙◌}
use Rattle.std.proofs.Math.Path.{fun_ext}
use Rattle.std.proofs.lemmas.List.{length-map, length-reverse, reverse-reverse}
use Rattle.std.specs.List.{AllByRecursion}
use Rattle.std.specs.List.Sorted.{IsStrictlySortedBy}
use Rattle.std.specs.Cmp.Lexicographic.{slice_cmp}
use Rattle.std.specs.Ordering.{nat_cmp}
use Rattle.std.specs.Str.{bytes_eq}
use Rattle.std.proofs.lemmas.Slice.Eq.{bytes_eq-Decides}
use Rattle.indexmap.proofs.ReorderLemmas.{map-reverse}
use Rattle.chain_names.specs.declared.coin.Item.{Item}
use Rattle.chain_names.specs.Points.{changed}
use Rattle.chain_names.specs.Undo.{UndoRecord}
use Rattle.chain_names.specs.Writable.{IsWritableItem, IsWritable}
use Rattle.chain_names.proofs.Changed.{bytes_eq-true, bytes_eq-self, changed_mapped}
use Rattle.undo_records.specs.declared.version.Version.TheVariants.{One}
use Rattle.undo_records.specs.Versions.{item_without, without_heights}
use Rattle.image_grammar.specs.Image.{Image, History, IsWritableHistory, HasText, names_of, history_told, image_told, coins_listed, names_listed, maps_listed}
use Rattle.image_grammar.specs.Text.{image_text}
use Rattle.image_grammar.proofs.ListedLaws.{AreApart, names_apart}
use Rattle.image_grammar.proofs.VersionLaws.{image_told_text}
use Rattle.registrations.specs.Told.{Histories, names_without, TellSame}
use Rattle.registrations.specs.Images.{AreWritable, AreToldAlike, refilled, IsRefilled}
use Rattle.registrations.proofs.KeptLemmas.{all_reverse}
use Rattle.registrations.proofs.PlaceLemmas.{none_told}

-- ---- told alike

listed_told : (hs : List History) → names_listed (map (history_told One) hs) ≡ names_without (names_listed hs)
listed_told [] = refl
listed_told (h ∷ hs) =
    ap (λ names. changed bytes_eq names h.name (map item_without h.items)) (listed_told hs) ∙ sym (changed_mapped bytes_eq (map item_without) (names_listed hs) h.name h.items)

pub told_alike : (image other : Image) → image_told One image ≡ image_told One other → AreToldAlike image other
told_alike image other e = record {
  base_told = ap (λ (i : Image). i.base) e;
  coins_told = ap (λ (i : Image). coins_listed i.coins) e;
  state_told = record {
    names_told = sym (listed_told image.names) ∙ ap (λ (i : Image). names_listed i.names) e ∙ listed_told other.names;
    undos_told = map-reverse without_heights image.undos ∙ ap (λ (i : Image). reverse i.undos) e ∙ sym (map-reverse without_heights other.undos);
  };
}

-- ---- histories in place of those of the image

module _ (names : Histories) where
  abbrev refill : History → History
  refill h = record { name = h.name; items = names h.name }

  names_same : (hs : List History) → names_of (map refill hs) ≡ names_of hs
  names_same [] = refl
  names_same (h ∷ hs) = ap (λ ns. h.name ∷ ns) (names_same hs)

  listed_or_not : (hs : List History) (name : List ℕ)
      → (names_listed (map refill hs) name ≡ names name) ⊎ ((names_listed (map refill hs) name ≡ []) × (names_listed hs name ≡ []))
  listed_or_not [] name = inr (refl, refl)
  listed_or_not (h ∷ hs) name = by (bytes_eq h.name name) refl (listed_or_not hs name)
    where
      by : (b : Bool) → bytes_eq h.name name ≡ b
          → (names_listed (map refill hs) name ≡ names name) ⊎ ((names_listed (map refill hs) name ≡ []) × (names_listed hs name ≡ []))
          → (cond b (names h.name) (names_listed (map refill hs) name) ≡ names name)
          ⊎ ((cond b (names h.name) (names_listed (map refill hs) name) ≡ []) × (cond b h.items (names_listed hs name) ≡ []))
      by true is rest = inl (ap names (bytes_eq-true h.name name is))
      by false is rest = rest

  listed_whole : (hs : List History) → names_without names ≡ names_without (names_listed hs) → names_listed (map refill hs) ≡ names
  listed_whole hs told =
      fun_ext (λ name.
      ⊎_elim (λ here. here)
      (λ none. none.0 ∙ sym (none_told (names name) (names_listed hs name) (ap (λ (ns : Histories). ns name) told) none.1)) (listed_or_not hs name))

-- what each history is told as
abbrev IsToldIn : Histories → History → Type 0
IsToldIn names h = map item_without (names h.name) ≡ map item_without h.items

-- a name more, which none of the others is
told_behind : (names : Histories) (h : History) (hs : List History) → AllByRecursion (λ (other : History). h.name ≢ other.name) hs → AllByRecursion (IsToldIn names) hs
    → AllByRecursion (IsToldIn (changed bytes_eq names h.name h.items)) hs
told_behind names h [] apart all = tt
told_behind names h (other ∷ hs) apart all = (by (bytes_eq h.name other.name) refl, told_behind names h hs apart.1 all.1)
  where
    by : (b : Bool) → bytes_eq h.name other.name ≡ b → map item_without (cond b h.items (names other.name)) ≡ map item_without other.items
    by true is = absurd (apart.0 (bytes_eq-true h.name other.name is))
    by false is = all.0

each_listed : (hs : List History) → AreApart bytes_eq-Decides (λ (h : History). h.name) (λ (h : History). h.items) hs → AllByRecursion (IsToldIn (names_listed hs)) hs
each_listed [] apart = tt
each_listed (h ∷ hs) apart =
    (ap (λ b. map item_without (cond b h.items (names_listed hs h.name))) (bytes_eq-self h.name), told_behind (names_listed hs) h hs apart.0 (each_listed hs apart.1))

each_told : (names other : Histories) (hs : List History) → names_without names ≡ names_without other → AllByRecursion (IsToldIn other) hs → AllByRecursion (IsToldIn names) hs
each_told names other [] told all = tt
each_told names other (h ∷ hs) told all = (ap (λ (ns : Histories). ns h.name) told ∙ all.0, each_told names other hs told all.1)

histories_told : (names : Histories) (hs : List History) → AllByRecursion (IsToldIn names) hs → map (history_told One) (map (refill names) hs) ≡ map (history_told One) hs
histories_told names [] all = refl
histories_told names (h ∷ hs) all = λ i. record { name = h.name; items = all.0 i } ∷ histories_told names hs all.1 i

history_fits : (names : Histories) (h : History) → ((name : List ℕ) → AllByRecursion IsWritableItem (names name)) → IsToldIn names h → IsWritableHistory h → IsWritableHistory (refill names h)
history_fits names h items told fits = record {
  name = fits.name;
  some = λ none. fits.some (none_told h.items (names h.name) (sym told) none);
  count =
      subst (λ n. n < 2 ^ 32) (sym (length-map h.items item_without) ∙ ap length (sym told) ∙ length-map (names h.name) item_without) fits.count;
  items = items h.name;
}

histories_fit : (names : Histories) (hs : List History) → ((name : List ℕ) → AllByRecursion IsWritableItem (names name)) → AllByRecursion (IsToldIn names) hs
    → AllByRecursion IsWritableHistory hs → AllByRecursion IsWritableHistory (map (refill names) hs)
histories_fit names [] items told fits = tt
histories_fit names (h ∷ hs) items told fits = (history_fits names h items told.0 fits.0, histories_fit names hs items told.1 fits.1)

-- ---- the whole image

listed_fits : (hs : List History) → AllByRecursion IsWritableHistory hs → (name : List ℕ) → AllByRecursion IsWritableItem (names_listed hs name)
listed_fits [] fits name = tt
listed_fits (h ∷ hs) fits name = by (bytes_eq h.name name) (listed_fits hs fits.1 name)
  where
    by : (b : Bool) → AllByRecursion IsWritableItem (names_listed hs name) → AllByRecursion IsWritableItem (cond b h.items (names_listed hs name))
    by true rest = fits.0.items
    by false rest = rest

pub image_writable : (image : Image) → HasText image → AreWritable (names_listed image.names) (reverse image.undos)
image_writable image fits = record { items = listed_fits image.names fits.names; undos = all_reverse IsWritable image.undos fits.undos }

pub refilled_so : (image : Image) (names : Histories) (us : List UndoRecord) → HasText image → TellSame names (names_listed image.names) us (reverse image.undos)
    → (AreWritable (names_listed image.names) (reverse image.undos) → AreWritable names us) → IsRefilled image names us
refilled_so image names us fits told writable =
    let each = each_told names (names_listed image.names) image.names told.names_told (each_listed image.names (names_apart image.names fits.names_sorted)) in
    let texts = writable (image_writable image fits) in
    let undos : map without_heights (reverse us) ≡ map without_heights image.undos =
    map-reverse without_heights us ∙ ap reverse (told.undos_told ∙ map-reverse without_heights image.undos) ∙ reverse-reverse (map without_heights image.undos) in
    let same : image_told One (refilled image names us) ≡ image_told One image =
    λ i. record { base = image.base; undos = undos i; coins = image.coins; names = histories_told names image.names each i } in
    record {
      has_text = record {
        height = fits.height;
        hash = fits.hash;
        undo_count =
            subst (λ n. n < 2 ^ 32) (sym (length-map image.undos without_heights) ∙ ap length (sym undos) ∙ length-map (reverse us) without_heights) fits.undo_count;
        undos = all_reverse IsWritable us texts.undos;
        coin_count = fits.coin_count;
        coins = fits.coins;
        coins_sorted = fits.coins_sorted;
        name_count = subst (λ n. n < 2 ^ 32) (sym (length-map image.names (refill names))) fits.name_count;
        names = histories_fit names image.names texts.items each fits.names;
        names_sorted = subst (IsStrictlySortedBy (slice_cmp nat_cmp)) (sym (names_same names image.names)) fits.names_sorted;
      };
      text_is = sym (image_told_text One (refilled image names us)) ∙ ap (image_text One) same ∙ image_told_text One image;
      maps_are = λ i. record { coins = coins_listed image.coins; names = listed_whole names image.names told.names_told i };
      undos_are = reverse-reverse us;
    }
