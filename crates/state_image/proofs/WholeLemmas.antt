-- What a text that was read whole tells of its parts.
use Rattle.std.proofs.Common.{◌≡◌, ℕ, ◌≤◌, ◌^◌, List, [], length, sym, ap, subst, ◌∙◌}
use Rattle.std.specs.Prelude.{Result, Ok, Err}
use Rattle.nmc_base.specs.declared.chain_ends.Base.{Base}
use Rattle.chain_names.specs.Tables.{coins_in, queued_in, queue_of}
use Rattle.name_tables.specs.Parts.{newest_first}
use Rattle.name_tables.specs.Tables.{maps_by, AreFilled}
use Rattle.name_tables.specs.declared.tables.Tables.{Tables}
use Rattle.name_tables.specs.declared.parts.Parts.{Parts}
use Rattle.undo_records.specs.declared.version.Version.{Version}
use Rattle.image_grammar.specs.Answers.{IsTextOf}
use Rattle.image_grammar.specs.Stages.{image_from}
use Rattle.image_grammar.specs.Text.{image_text}
use Rattle.image_grammar.proofs.FewLaws.{few_coins}
use Rattle.image_grammar.proofs.ReadLaws.{image_takes}
use Rattle.state_image.specs.Answers.{IsImageOfParts, IsSoundOn, IsLoaded, place_by, IsImageAnswer}
use Rattle.state_image.specs.Forming.{AreFormed, IsReadWhole, AreOf, Judges, TellsFault}
use Rattle.state_image.specs.Registering.{AreRegistered}
use Rattle.state_image.specs.Standing.{standing}
use Rattle.state_image.specs.Versioned.{read_from}
use Rattle.state_image.specs.declared.fault.ImageFault.{ImageFault}
use Rattle.state_image.specs.declared.fault.ImageFault.TheVariants.{Damaged, NoMemory}
use Rattle.state_image.specs.declared.reading.Reading.{Reading}
use Rattle.state_image.proofs.FormLemmas.{formed, sound_image, sound_parts}
use Rattle.state_image.proofs.RegisteredLemmas.{AreRead, AreQueued, registered_read, registered_queued, sound_once}
use Rattle.state_image.proofs.VersionedLemmas.{image_read, version_read}

-- once the registration heights are set
pub judged : (version : Version) (base : Base) (old new : Parts) (result : Result (Unit {0}) ImageFault) → AreRegistered version old new → TellsFault (IsSoundOn base new) result
    → Judges version base old new result
judged version base old new (Ok done) registered sound = (registered, sound)
judged version base old new (Err (Damaged at)) registered fault = (registered, fault.0, fault.1)
judged version base old new (Err NoMemory) registered fault = tt

module _ (text : List ℕ) (r : Reading) (whole : IsReadWhole text r) (base : Base) (parts : Parts) (are : AreOf r base parts) where
  form : image_from text ≡ Ok ((standing r).gathered, [])
  form = image_read text r.version (standing r).gathered [] whole.read

  text_of : IsTextOf text (standing r).gathered
  text_of = image_takes text (standing r).gathered whole.bytes form

  version_is : text_of.version ≡ r.version
  version_is =
      sym (version_read text_of.version text_of.image text_of.has_text ((r.version, (standing r).gathered), [])
      (subst (λ (t : List ℕ). read_from t ≡ Ok ((r.version, (standing r).gathered), [])) text_of.text_is whole.read))

  image_of : IsImageOfParts text_of.image base parts
  image_of = record {
    base_is = are.base_is ∙ text_of.holds.base_is;
    undos_are = ap (λ l. newest_first l.items) are.undos_are ∙ text_of.holds.undos_are;
    maps_are = ap maps_by are.tables_are ∙ text_of.holds.maps_are;
  }

  text_is : text ≡ image_text r.version text_of.image
  text_is = text_of.text_is ∙ ap (λ (v : Version). image_text v text_of.image) version_is

  read : AreRead r.version text base parts
  read = record { image = text_of.image; has_text = text_of.has_text; text_is = text_is; is = image_of }

  queued : AreQueued parts
  queued = record {
    queue = subst (λ (t : Tables). queued_in t.queue ≡ queue_of (coins_in t.coins)) (sym are.tables_are) whole.kept.tables.queue;
    filled = subst AreFilled (sym are.tables_are) whole.kept.tables.filled;
  }

  pub whole_formed : AreFormed parts
  whole_formed =
      let few : length (image_text text_of.version text_of.image) ≤ 2 ^ 37 = subst (λ (t : List ℕ). length t ≤ 2 ^ 37) text_of.text_is whole.few in
      formed text_of.image base parts image_of text_of.has_text (few_coins text_of.version text_of.image text_of.has_text few) queued.filled

  module _ (new : Parts) where
    pub whole_loaded : Judges r.version base parts new (Ok tt) → IsLoaded text base new
    whole_loaded is =
        let now = registered_read r.version text base parts new is.0 read in
        let tables = registered_queued r.version parts new is.0 queued in
        record {
          version = r.version;
          image = now.image;
          is_text = record { has_text = now.has_text; text_is = now.text_is; sound = sound_image now.image base new now.is is.1 };
          is_image = now.is;
          parts_are = record { sound = is.1; queue = tables.queue; filled = tables.filled };
        }

    pub whole_fault : (fault : ImageFault) → Judges r.version base parts new (Err fault) → IsImageAnswer text (Err fault)
    whole_fault (Damaged at) is = record {
      none = λ version image sound. is.1 (sound_parts image base new (sound_once r.version text base parts new read is.0 version image sound) sound.sound);
      at_is = is.2 ∙ ap (place_by text) (sym form);
    }
    whole_fault NoMemory is = tt
