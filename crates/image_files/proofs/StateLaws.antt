-- A text tells one state.
use Rattle.std.proofs.Common.{◌≡◌, ℕ, ◌+◌, List, [], ◌∷◌, length, map, reverse, refl, sym, ◌∙◌, ap, subst, arith}
use Rattle.std.proofs.lemmas.List.{reverse-reverse, length-reverse}
use Rattle.nmc_base.specs.declared.chain_ends.Profile.{Profile}
use Rattle.nmc_base.specs.declared.chain_ends.Base.{Base}
use Rattle.chain_names.specs.Coins.{Maps}
use Rattle.chain_names.specs.Changes.{undone}
use Rattle.chain_names.specs.Sound.{IsSound}
use Rattle.chain_names.specs.Undo.{UndoRecord}
use Rattle.undo_records.specs.declared.version.Version.{Version}
use Rattle.undo_records.specs.declared.version.Version.TheVariants.{One, Two}
use Rattle.undo_records.specs.Versions.{told}
use Rattle.image_grammar.specs.Image.{Image, item_told, history_told, image_told, maps_listed, IsImageOf}
use Rattle.image_grammar.specs.Text.{image_text}
use Rattle.image_grammar.proofs.OneLaws.{version_one, image_one}
use Rattle.registrations.specs.Images.{AreToldAlike}
use Rattle.registrations.proofs.ImageLemmas.{told_alike}
use Rattle.registrations.proofs.OnlyLemmas.{same_sound}
use Rattle.registrations.proofs.SoundLemmas.{sound_following}
use Rattle.chain_state.specs.Chain.{Indexed, newest_hash}
use Rattle.state_image.specs.Answers.{IsSoundImage, IsSoundText}
use Rattle.image_files.specs.Indexes.{IsIndexBy}
use Rattle.image_files.specs.SavedTexts.{IsSavedText, IsIndexOfState}

-- the same base, records and state
pub record SameState (image other : Image) : Type 0 where
  pub base_same : image.base ≡ other.base
  pub undos_same : image.undos ≡ other.undos
  pub maps_same : maps_listed image ≡ maps_listed other

-- ---- version 2 tells all

all_told : {A : Type 0} (f : A → A) → ((x : A) → f x ≡ x) → (xs : List A) → map f xs ≡ xs
all_told f same [] = refl
all_told f same (x ∷ xs) = λ i. same x i ∷ all_told f same xs i

two_told : (image : Image) → image_told Two image ≡ image
two_told image =
    let undos : map (told Two) image.undos ≡ image.undos = all_told (told Two) (λ u. refl) image.undos in
    let names : map (history_told Two) image.names ≡ image.names = all_told (history_told Two) (λ h i. record { name = h.name; items = all_told (item_told Two) (λ item. refl) h.items i }) image.names in
    λ i. record { base = image.base; undos = undos i; coins = image.coins; names = names i }

same_image : (image other : Image) → image ≡ other → SameState image other
same_image image other same = record {
  base_same = ap (λ (m : Image). m.base) same;
  undos_same = ap (λ (m : Image). m.undos) same;
  maps_same = ap (λ (m : Image). maps_listed m) same;
}

-- ---- and so does version 1, of sound states

told_state : (image other : Image) → IsSoundImage image → IsSoundImage other → AreToldAlike image other → SameState image other
told_state image other sound other_sound alike =
    let follows = sound_following image.base.profile image.base.height (image.base.height + length image.undos) (maps_listed image) (reverse image.undos) sound in
    let other_follows = sound_following other.base.profile other.base.height (other.base.height + length other.undos) (maps_listed other) (reverse other.undos) other_sound in
    let same = same_sound (maps_listed image) (maps_listed other) (reverse image.undos) (reverse other.undos) follows other_follows alike.coins_told alike.state_told in
    record {
      base_same = alike.base_told;
      undos_same = sym (reverse-reverse image.undos) ∙ ap (λ (l : List UndoRecord). reverse l) same.1 ∙ reverse-reverse other.undos;
      maps_same = same.0;
    }

by_version : (version : Version) (image other : Image) → IsSoundImage image → IsSoundImage other → image_told version image ≡ image_told version other → SameState image other
by_version One image other sound other_sound same = told_state image other sound other_sound (told_alike image other same)
by_version Two image other sound other_sound same = same_image image other (sym (two_told image) ∙ same ∙ two_told other)

pub one_state : (text : List ℕ) (version other_version : Version) (image other : Image) → IsSoundText text version image → IsSoundText text other_version other → SameState image other
one_state text version other_version image other is also =
    let same : image_text version image ≡ image_text other_version other = sym is.text_is ∙ also.text_is in
    let versions = version_one version other_version image other same in
    let at_one : image_text version image ≡ image_text version other = same ∙ ap (λ (v : Version). image_text v other) (sym versions) in
    by_version version image other is.sound also.sound (image_one version image other is.has_text also.has_text at_one)

-- ---- a saved state

-- as many blocks stand on the base as there are records
sound_height : (profile : Profile) (base tip : ℕ) (maps : Maps) (us : List UndoRecord) → IsSound profile base tip maps us → tip ≡ base + length us
sound_height profile base tip maps [] sound = omega (arith, sound.at_base)
sound_height profile base tip maps (u ∷ us) sound = omega (arith, sound.1.above, sound_height profile base sound.0 (undone u.ops u.expired maps) us sound.2)

module _ (version : Version) (base : Base) (undos : List UndoRecord) (maps : Maps) (text : List ℕ) (saved : IsSavedText version base undos maps text) where
  abbrev image : Image
  image = saved.is_text.image

  undos_are : reverse image.undos ≡ undos
  undos_are = ap (λ (l : List UndoRecord). reverse l) saved.is_text.image_is.undos_are ∙ reverse-reverse undos

  height_is : image.base.height + length image.undos ≡ saved.tip
  height_is =
      omega (
        arith,
        sound_height base.profile base.height saved.tip maps undos saved.sound,
        ap (λ (b : Base). b.height) saved.is_text.image_is.base_is,
        ap (λ (l : List UndoRecord). length l) undos_are,
        length-reverse image.undos,
      )

  sound_image : IsSoundImage image
  sound_image =
      subst (λ (b : Base). IsSound b.profile b.height (image.base.height + length image.undos) (maps_listed image) (reverse image.undos)) (sym saved.is_text.image_is.base_is)
      (subst (λ (n : ℕ). IsSound base.profile base.height n (maps_listed image) (reverse image.undos)) (sym height_is)
      (subst (λ (m : Maps). IsSound base.profile base.height saved.tip m (reverse image.undos)) (sym saved.is_text.image_is.maps_are)
      (subst (λ (l : List UndoRecord). IsSound base.profile base.height saved.tip maps l) (sym undos_are) saved.sound)))

  pub saved_sound : IsSoundText text version image
  saved_sound = record {
    has_text = saved.has_text;
    text_is = saved.is_text.text_is;
    sound = sound_image;
  }

-- the index of an image's state
pub state_index : (base : Base) (undos : List UndoRecord) (maps : Maps) (image : Image) (index : Indexed) → IsImageOf base (reverse undos) maps image → IsIndexBy base image index
    → IsIndexOfState base undos maps index
state_index base undos maps image index is by =
    let same : reverse image.undos ≡ undos = ap (λ (l : List UndoRecord). reverse l) is.undos_are ∙ reverse-reverse undos in
    record {
      base_is = by.base_is;
      height = omega (arith, by.height, ap (λ (l : List UndoRecord). length l) same, length-reverse image.undos);
      hash = by.hash ∙ ap (λ (l : List UndoRecord). newest_hash base l) same;
      maps_are = by.maps ∙ is.maps_are;
      queue = by.queue;
      undos_are = by.undos ∙ same;
      filled = by.filled;
    }
