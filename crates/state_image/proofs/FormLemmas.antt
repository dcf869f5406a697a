-- What parts of an image are, and when they are sound.
use Rattle.std.proofs.Common.{◌≡◌, ℕ, ◌+◌, ◌≤◌, Bool, true, false, cond, List, [], ◌∷◌, length, map, refl, sym, ap, subst, ◌∙◌, arith}
use Rattle.std.proofs.lemmas.List.{length-map, reverse-reverse}
use Rattle.std.specs.Prelude.{reverse}
use Rattle.std.specs.List.{AllByRecursion}
use Rattle.std.specs.Str.{bytes_eq}
use Rattle.nmc_base.specs.Heights.{highest}
use Rattle.nmc_base.specs.declared.chain_ends.Base.{Base}
use Rattle.nmc_base.specs.declared.chain_ends.Profile.{Profile}
use Rattle.chain_names.specs.declared.coin.Item.{Item}
use Rattle.chain_names.specs.declared.undo.Undo.{Undo}
use Rattle.chain_names.specs.Coins.{Maps}
use Rattle.chain_names.specs.Limits.{IsWithinLimits}
use Rattle.chain_names.specs.Seen.{seen_undo}
use Rattle.chain_names.specs.Sound.{IsSound}
use Rattle.chain_names.specs.State.{FitsItem}
use Rattle.chain_names.specs.Undo.{UndoRecord}
use Rattle.chain_names.specs.Writable.{IsWritable, IsWritableName, IsWritableItem}
use Rattle.chain_names.proofs.Changed.{bytes_eq-true}
use Rattle.name_tables.specs.Parts.{newest_first, tables_of}
use Rattle.name_tables.specs.Tables.{maps_by, AreFilled}
use Rattle.name_tables.specs.declared.parts.Parts.{Parts}
use Rattle.sound_states.specs.Walk.{HasFewCoins}
use Rattle.states_below.specs.Walking.{IsWithin}
use Rattle.undo_records.proofs.WidthLaws.{writable_within}
use Rattle.image_grammar.specs.Image.{Image, History, HasText, IsWritableHistory, names_listed, maps_listed}
use Rattle.state_image.specs.Answers.{IsSoundImage, IsImageOfParts, IsSoundOn}
use Rattle.state_image.specs.Forming.{AreFormed}

-- ---- lengths

items_fit : (name : List ℕ) (items : List Item) → IsWritableName name → AllByRecursion IsWritableItem items → AllByRecursion (FitsItem name) items
items_fit name [] short fits = tt
items_fit name (item ∷ items) short fits = (record { name_length = short; value_length = fits.0.value }, items_fit name items short fits.1)

names_fit : (hs : List History) → AllByRecursion IsWritableHistory hs → (name : List ℕ) → AllByRecursion (FitsItem name) (names_listed hs name)
names_fit [] fits name = tt
names_fit (h ∷ hs) fits name = by (names_fit hs fits.1 name) (bytes_eq h.name name) refl
  where
    by : AllByRecursion (FitsItem name) (names_listed hs name) → (b : Bool) → bytes_eq h.name name ≡ b → AllByRecursion (FitsItem name) (cond b h.items (names_listed hs name))
    by others true same = subst (λ (n : List ℕ). AllByRecursion (FitsItem n) h.items) (bytes_eq-true h.name name same) (items_fit h.name h.items fits.0.name fits.0.items)
    by others false same = others

-- ---- records

all_within : (us : List UndoRecord) → AllByRecursion IsWritable us → AllByRecursion IsWithinLimits us
all_within [] fits = tt
all_within (u ∷ us) fits = (writable_within u fits.0, all_within us fits.1)

seen_within : (undos : List Undo) → AllByRecursion IsWithinLimits (map seen_undo undos) → AllByRecursion IsWithin undos
seen_within [] fits = tt
seen_within (u ∷ us) fits = (fits.0, seen_within us fits.1)

seen_are : (undos : List Undo) (us : List UndoRecord) → newest_first undos ≡ reverse us → map seen_undo undos ≡ us
seen_are undos us e = sym (reverse-reverse (map seen_undo undos)) ∙ ap (λ (l : List UndoRecord). reverse l) e ∙ reverse-reverse us

pub counted : (undos : List Undo) (us : List UndoRecord) → newest_first undos ≡ reverse us → length undos ≡ length us
counted undos us e = sym (length-map undos seen_undo) ∙ ap (λ (l : List UndoRecord). length l) (seen_are undos us e)

-- ---- parts of an image

module _ (image : Image) (base : Base) (parts : Parts) (is : IsImageOfParts image base parts) where
  abbrev maps : Maps
  maps = maps_by (tables_of parts)

  abbrev records : List UndoRecord
  records = newest_first parts.undos.items

  pub formed : HasText image → HasFewCoins (maps_listed image) (reverse image.undos) → AreFilled (tables_of parts) → AreFormed parts
  formed has few filled = record {
    lengths = λ name. subst (λ (m : Maps). AllByRecursion (FitsItem name) (m.names name)) (sym is.maps_are) (names_fit image.names has.names name);
    few = subst (λ (m : Maps). HasFewCoins m records) (sym is.maps_are) (subst (HasFewCoins (maps_listed image)) (sym is.undos_are) few);
    within = seen_within parts.undos.items (subst (AllByRecursion IsWithinLimits) (sym (seen_are parts.undos.items image.undos is.undos_are)) (all_within image.undos has.undos));
    filled = filled.coins;
    undo_count = omega (arith, has.undo_count, counted parts.undos.items image.undos is.undos_are);
  }

  abbrev State : Type 0
  State = Base × (ℕ × (Maps × List UndoRecord))

  abbrev SoundAs : State → Type 0
  SoundAs x = IsSound x.0.profile x.0.height (x.0.height + x.1.0) x.1.1.0 x.1.1.1

  abbrev state : State
  state = (base, (length parts.undos.items, (maps, records)))

  abbrev state_listed : State
  state_listed = (image.base, (length image.undos, (maps_listed image, reverse image.undos)))

  same_state : state ≡ state_listed
  same_state = λ i. (is.base_is i, (counted parts.undos.items image.undos is.undos_are i, (is.maps_are i, is.undos_are i)))

  pub sound_image : IsSoundOn base parts → IsSoundImage image
  sound_image sound = subst SoundAs same_state sound

  pub sound_parts : IsSoundImage image → IsSoundOn base parts
  sound_parts sound = subst SoundAs (sym same_state) sound

-- ---- heights

pub sound_low : (profile : Profile) (base tip : ℕ) (m : Maps) (us : List UndoRecord) → IsSound profile base tip m us → tip ≤ highest
sound_low profile base tip m [] sound = sound.state.tip_height
sound_low profile base tip m (u ∷ us) sound = sound.1.state.tip_height
