-- What parts are once they have the registration heights that their text leaves out.
use Rattle.std.proofs.Common.{◌≡◌, ℕ, List, [], ◌∷◌, map, refl, sym, ap, subst, ◌∙◌, arith}
use Rattle.std.specs.Prelude.{reverse}
use Rattle.nmc_base.specs.declared.chain_ends.Base.{Base}
use Rattle.chain_names.specs.Coins.{Maps}
use Rattle.chain_names.specs.Tables.{coins_in, names_in, queued_in, queue_of, AreCoinsFilled, IsQueueFilled}
use Rattle.chain_names.specs.Undo.{UndoRecord}
use Rattle.name_tables.specs.Parts.{newest_first, tables_of}
use Rattle.name_tables.specs.Tables.{AreFilled}
use Rattle.name_tables.specs.declared.parts.Parts.{Parts}
use Rattle.sound_states.specs.Walk.{HasFewCoins}
use Rattle.undo_records.specs.declared.version.Version.{Version}
use Rattle.undo_records.specs.declared.version.Version.TheVariants.{One, Two}
use Rattle.undo_records.specs.Versions.{told, without_heights}
use Rattle.image_grammar.specs.Image.{Image, HasText, coins_listed, names_listed, maps_listed, item_told, history_told, image_told}
use Rattle.image_grammar.specs.Text.{image_text}
use Rattle.image_grammar.proofs.OneLaws.{image_one, version_one}
use Rattle.registrations.specs.Images.{AreWritable, IsRefilled, refilled}
use Rattle.registrations.specs.Told.{Histories, names_without, TellSame}
use Rattle.registrations.proofs.ImageLemmas.{told_alike, refilled_so}
use Rattle.state_image.specs.Answers.{IsSoundImage, IsSoundText, IsImageOfParts}
use Rattle.state_image.specs.Forming.{AreFormed}
use Rattle.state_image.specs.Registering.{HaveHeights, AreRegistered}

-- the parts are those of an image that has this text
pub record AreRead (version : Version) (text : List ℕ) (base : Base) (parts : Parts) : Type 0 where
  pub image : Image
  pub has_text : HasText image
  pub text_is : text ≡ image_text version image
  pub is : IsImageOfParts image base parts

-- ---- version 1

module _ (image : Image) (base : Base) (old new : Parts) (is : IsImageOfParts image base old) (heights : HaveHeights old new) where
  abbrev now : Histories
  now = names_in new.names

  abbrev records : List UndoRecord
  records = newest_first new.undos.items

  histories : names_in old.names ≡ names_listed image.names
  histories = ap (λ (m : Maps). m.names) is.maps_are

  coins_are : coins_in new.coins ≡ coins_listed image.coins
  coins_are = ap coins_in heights.coins ∙ ap (λ (m : Maps). m.coins) is.maps_are

  tell : TellSame now (names_listed image.names) records (reverse image.undos)
  tell = record {
    names_told = heights.told.names_told ∙ ap names_without histories;
    undos_told = heights.told.undos_told ∙ ap (map without_heights) is.undos_are;
  }

  writable : AreWritable (names_listed image.names) (reverse image.undos) → AreWritable now records
  writable fits = heights.kept.writable (subst (λ (s : Histories × List UndoRecord). AreWritable s.0 s.1) (λ i. (sym histories i, sym is.undos_are i)) fits)

  refilled_read : (text : List ℕ) → HasText image → text ≡ image_text One image → AreRead One text base new
  refilled_read text has text_is =
      let so : IsRefilled image now records = refilled_so image now records has tell writable in
      record {
        image = refilled image now records;
        has_text = so.has_text;
        text_is = text_is ∙ sym so.text_is;
        is = record {
          base_is = is.base_is;
          undos_are = sym so.undos_are;
          maps_are = (λ i. record { coins = coins_are i; names = now }) ∙ sym so.maps_are;
        };
      }

  -- a sound image of which version 1 tells the same is that of the parts
  told_once : (other : Image) → IsSoundImage other → image_told One other ≡ image_told One image → IsImageOfParts other base new
  told_once other sound same =
      let alike = told_alike other image same in
      let told : TellSame (names_listed other.names) (names_in old.names) (reverse other.undos) (newest_first old.undos.items) = record {
        names_told = alike.state_told.names_told ∙ ap names_without (sym histories);
        undos_told = alike.state_told.undos_told ∙ ap (map without_heights) (sym is.undos_are);
      } in
      let once = heights.only _ _ _ (maps_listed other) (reverse other.undos) sound told in
      let coins = coins_are ∙ sym alike.coins_told in
      record {
        base_is = is.base_is ∙ sym alike.base_told;
        undos_are = sym once.1;
        maps_are = λ i. record { coins = coins i; names = sym once.0 i };
      }

-- ---- version 2

map_itself : {A : Type 0} (f : A → A) → ((x : A) → f x ≡ x) → (xs : List A) → map f xs ≡ xs
map_itself f same [] = refl
map_itself f same (x ∷ xs) = λ i. same x i ∷ map_itself f same xs i

told_whole : (image : Image) → image_told Two image ≡ image
told_whole image =
    let undos : map (told Two) image.undos ≡ image.undos = map_itself (told Two) (λ u. refl) image.undos in
    let names : map (history_told Two) image.names ≡ image.names = map_itself (history_told Two) (λ h i. record { name = h.name; items = map_itself (item_told Two) (λ item. refl) h.items i }) image.names in
    λ i. record { base = image.base; undos = undos i; coins = image.coins; names = names i }

-- ---- both

pub registered_read : (version : Version) (text : List ℕ) (base : Base) (old new : Parts) → AreRegistered version old new → AreRead version text base old → AreRead version text base new
registered_read One text base old new heights read = refilled_read read.image base old new read.is heights text read.has_text read.text_is
registered_read Two text base old new same read = subst (AreRead Two text base) (sym same) read

registered_once : (version : Version) (image other : Image) (base : Base) (old new : Parts) → AreRegistered version old new → IsImageOfParts image base old → IsSoundImage other
    → image_told version other ≡ image_told version image → IsImageOfParts other base new
registered_once One image other base old new heights is sound same = told_once image base old new is heights other sound same
registered_once Two image other base old new registered is sound same =
    subst (λ (parts : Parts). IsImageOfParts other base parts) (sym registered)
    (subst (λ (i : Image). IsImageOfParts i base old) (sym (told_whole image) ∙ sym same ∙ told_whole other) is)

module _ (version : Version) (text : List ℕ) (base : Base) (old new : Parts) (read : AreRead version text base old) (registered : AreRegistered version old new) where
  -- a sound state with the text is that of the parts
  pub sound_once : (other_version : Version) (other : Image) → IsSoundText text other_version other → IsImageOfParts other base new
  sound_once other_version other is =
      let same : other_version ≡ version = version_one other_version version other read.image (sym is.text_is ∙ read.text_is) in
      let texts : image_text version other ≡ image_text version read.image = ap (λ (v : Version). image_text v other) (sym same) ∙ sym is.text_is ∙ read.text_is in
      registered_once version read.image other base old new registered read.is is.sound (image_one version other read.image is.has_text read.has_text texts)

heights_formed : (old new : Parts) → HaveHeights old new → AreFormed old → AreFormed new
heights_formed old new heights formed =
    let few = heights.kept.few (coins_in old.coins) formed.few in
    record {
      lengths = heights.kept.short formed.lengths;
      few = subst (λ c. HasFewCoins (record { coins = coins_in c; names = names_in new.names }) (newest_first new.undos.items)) (sym heights.coins) few;
      within = heights.kept.within formed.within;
      filled = subst AreCoinsFilled (sym heights.coins) formed.filled;
      undo_count = omega (arith, heights.kept.count, formed.undo_count);
    }

pub registered_formed : (version : Version) (old new : Parts) → AreRegistered version old new → AreFormed old → AreFormed new
registered_formed One old new heights formed = heights_formed old new heights formed
registered_formed Two old new same formed = subst AreFormed (sym same) formed

-- the queue is that of the coins, and each place is filled
pub record AreQueued (parts : Parts) : Type 0 where
  pub queue : queued_in parts.queue ≡ queue_of (coins_in parts.coins)
  pub filled : AreFilled (tables_of parts)

pub registered_queued : (version : Version) (old new : Parts) → AreRegistered version old new → AreQueued old → AreQueued new
registered_queued One old new heights queued = record {
  queue = ap queued_in heights.queue ∙ queued.queue ∙ ap (λ c. queue_of (coins_in c)) (sym heights.coins);
  filled = record {
    coins = subst AreCoinsFilled (sym heights.coins) queued.filled.coins;
    names = heights.kept.filled queued.filled.names;
    queue = subst IsQueueFilled (sym heights.queue) queued.filled.queue;
  };
}
registered_queued Two old new same queued = subst AreQueued (sym same) queued
