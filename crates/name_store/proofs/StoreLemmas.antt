-- A store on a disk, and what its files stand for while a command is kept.
use Rattle.std.proofs.Common.{◌≡◌, ◌≢◌, ◌⊎◌, inl, inr, ℕ, ◌<◌, Bool, List, [], ◌∷◌, ◌++◌, length, Ok, sym, ◌∙◌, ap, subst, arith, length-append}
use Rattle.std.specs.Prelude.{IsTrue, Result}
use Rattle.nmc_base.specs.declared.chain_ends.Base.{Base}
use Rattle.nmc_base.specs.declared.chain_ends.Tip.{Tip}
use Rattle.disk_model.specs.declared.disk.Failed.{Failed}
use Rattle.disk_model.specs.FileState.{FileState, IsFileImage, IsSettled}
use Rattle.disk_model.specs.Moments.{Files, EachMoment, start, IsImage}
use Rattle.disk_model.specs.DiskSeen.{DiskSeen, file_in, bytes_in}
use Rattle.disk_model.proofs.MomentLemmas.{weaken, last_moment}
use Rattle.disk_model.proofs.ImageLemmas.{IsSettled-image}
use Rattle.gate_journal.specs.Gate.{record_text}
use Rattle.gate_journal.specs.Records.{IsArea, records_text, image_front}
use Rattle.gate_journal.proofs.RecordLemmas.{front-push}
use Rattle.chain_commands.specs.Event.{Command}
use Rattle.chain_commands.specs.RunState.{RunState, chain_of, accepted}
use Rattle.image_slots.specs.Selections.{HasSelections, selected_by}
use Rattle.image_slots.specs.Slotted.{Slotted, AreOn}
use Rattle.index_commands.specs.Records.{record_of, records_of}
use Rattle.index_commands.proofs.ChainTips.{index_tip}
use Rattle.index_commands.specs.Keeping.{HoldsRecords, KeepsOrAdds, Keeps}
use Rattle.name_store.specs.Header.{header_text}
use Rattle.name_store.specs.Host.{IsHostOf}
use Rattle.name_store.specs.Stands.{Bytes, IsRunState, Stands, EachStandsForEither}
use Rattle.name_store.specs.Stored.{Stored, StandsFor, IsOn, IsTipOf, area_file}
use Rattle.name_store.specs.Outcomes.{IsDone}
use Rattle.name_store.proofs.StateLemmas.{holds_commands}

-- an area is one of the three files, and not that of the header
pub area_low : (store : Stored) → area_file store < 3
area_low store = omega arith

pub not_header : (store : Stored) → 0 ≢ area_file store
not_header store = grind arith

-- the new store has the base, the host, the selections and the area of the old one
pub record IsAlike (old new : Stored) : Type 0 where
  pub base : new.index.base ≡ old.index.base
  pub host : new.host ≡ old.host
  pub slots : new.slots ≡ old.slots
  pub area : new.area ≡ old.area

-- it is on the disk too
pub on_again : (old new : Stored) (files : Files) → IsAlike old new → IsOn old files → IsOn new files
on_again old new files alike on = record {
  text = on.text;
  host = subst (λ (name : List ℕ). IsHostOf on.text name) (sym alike.host) on.host;
  slots = subst (λ (slots : Slotted). AreOn (header_text new.index.base on.text) slots (files 0)) (sym alike.slots)
      (subst (λ (b : Base). AreOn (header_text b on.text) old.slots (files 0)) (sym alike.base) on.slots);
  image = on.image;
  records = on.records;
  holds = subst (λ (slots : Slotted). HoldsRecords new.area on.image on.records (files (selected_by slots.count)).bytes) (sym alike.slots)
      (record { is_area = on.holds.is_area; length_is = alike.area ∙ on.holds.length_is });
  settled_area = subst (λ (slots : Slotted). IsSettled (files (selected_by slots.count))) (sym alike.slots) on.settled_area;
}

-- the tip of a store that stands for a run state
pub done_is : (run : RunState) (command : Command) (store : Stored) (tip : Tip) → StandsFor store (accepted run command) → tip ≡ store.index.tip → IsDone run command store tip
done_is run command store tip stands same = record {
  stands = stands;
  tip_is = subst (λ (t : Tip). IsTipOf t (chain_of (accepted run command))) (sym same)
      (record { height = stands.index.height; hash = index_tip store.index (chain_of (accepted run command)) stands.index });
}

module _ (tells : Bool) (told : IsTrue tells) (old : Stored) (before after : DiskSeen) (on : IsOn old before.moments.now) where
  -- ---- of a run state that store and files stand for

  module _ (run : RunState) (s : StandsFor old run) (stands : Stands (bytes_in before) run) where
    -- the selected area of the run state is the store's
    at_store : (files : Bytes) (P : List ℕ → Type 0) → P (files (selected_by run.selections)) → P (files (area_file old))
    at_store files P p = subst (λ (n : ℕ). P (files (selected_by n))) (sym s.selections) p

    at_run : (files : Bytes) (P : List ℕ → Type 0) → P (files (area_file old)) → P (files (selected_by run.selections))
    at_run files P p = subst (λ (n : ℕ). P (files (selected_by n))) s.selections p

    holds_run : HoldsRecords old.area run.text (records_of run.since) (bytes_in before (area_file old))
    holds_run =
        let holds = holds_commands run (bytes_in before (area_file old)) stands.is_state (at_store (bytes_in before) (IsArea run.text (records_of run.since)) stands.area) in
        record { is_area = holds.is_area; length_is = s.area ∙ holds.length_is }

    -- an image of its two files is enough
    pub stands_left : (image : Bytes) → IsFileImage (file_in before 0) (image 0) → IsFileImage (file_in before (area_file old)) (image (area_file old)) → Stands image run
    stands_left image header area = record {
      selections = subst (HasSelections (header_text run.base run.host) run.selections) (sym (IsSettled-image (file_in before 0) (image 0) on.slots.settled header)) stands.selections;
      area = at_run image (IsArea run.text (records_of run.since))
          (subst (IsArea run.text (records_of run.since)) (sym (IsSettled-image (file_in before (area_file old)) (image (area_file old)) on.settled_area area)) holds_run.is_area);
      is_state = stands.is_state;
    }

    pub stands_again : (image : Bytes) → IsImage before.moments.now image → Stands image run
    stands_again image is = stands_left image (is 0 (omega arith)) (is (area_file old) (area_low old))

    -- nothing was done
    pub stands_still : (next : RunState) → EachMoment (EachStandsForEither run next) before.moments before.moments
    stands_still next = start (λ image is. inl (stands_again image is))

    -- a command was kept, or may have been
    module _ (command : Command) (next : IsRunState (accepted run command)) where
      in_moment : (files : Files) → KeepsOrAdds (area_file old) run.text (records_of run.since) (record_of command) before.moments.now files
          → (image : Bytes) → IsImage files image → Stands image run ⊎ Stands image (accepted run command)
      in_moment files so image is =
          let header : image 0 ≡ bytes_in before 0 =
          IsSettled-image (file_in before 0) (image 0) on.slots.settled (subst (λ (f : FileState). IsFileImage f (image 0)) (so.others 0 (not_header old)) (is 0 (omega arith))) in
          let selections = subst (HasSelections (header_text run.base run.host) run.selections) (sym header) stands.selections in
          elim (so.image_is (image (area_file old)) (is (area_file old) (area_low old))) [
            | inl as_before ↦ inl (record { selections = selections; area = at_run image (IsArea run.text (records_of run.since)) as_before; is_state = stands.is_state })
            | inr with_more ↦ inr (record { selections = selections; area = at_run image (IsArea run.text (records_of run.since ++ record_of command ∷ [])) with_more; is_state = next })
          ]

      pub each_stands : (result : Result ℕ Failed) → Keeps tells (area_file old) old.area (record_of command) before after result
          → EachMoment (EachStandsForEither run (accepted run command)) before.moments after.moments
      each_stands result kept =
          weaken (EachStandsForEither run (accepted run command)) (λ files so. λ image is. in_moment files so image is) (kept.any_moment told run.text (records_of run.since) holds_run)

      pub stands_next : (length_is : ℕ) → Keeps tells (area_file old) old.area (record_of command) before after (Ok length_is) → Stands (bytes_in after) (accepted run command)
      stands_next length_is kept =
          let header = (last_moment (kept.any_moment told on.image on.records on.holds)).others 0 (not_header old) in
          record {
            selections = subst (λ (f : FileState). HasSelections (header_text run.base run.host) run.selections f.bytes) (sym header) stands.selections;
            area = at_run (bytes_in after) (IsArea run.text (records_of run.since ++ record_of command ∷ [])) (kept.added told run.text (records_of run.since) holds_run);
            is_state = next;
          }

  -- ---- the store behind a command that was kept

  module _ (record_is : List ℕ) (length_is : ℕ) (kept : Keeps tells (area_file old) old.area record_is before after (Ok length_is)) where
    longer_on : IsOn (record { index = old.index; host = old.host; slots = old.slots; area = length_is }) after.moments.now
    longer_on =
        let header = (last_moment (kept.any_moment told on.image on.records on.holds)).others 0 (not_header old) in
        let front = image_front on.image ++ records_text on.records in
        record {
          text = on.text;
          host = on.host;
          slots = subst (AreOn (header_text old.index.base on.text) old.slots) (sym header) on.slots;
          image = on.image;
          records = on.records ++ record_is ∷ [];
          holds = record {
            is_area = kept.added told on.image on.records on.holds;
            length_is = omega (arith, kept.longer, on.holds.length_is, ap length (front-push (image_front on.image) on.records record_is), length-append front (record_text record_is));
          };
          settled_area = kept.settled told;
        }

    pub on_next : (new : Stored) → IsAlike (record { index = old.index; host = old.host; slots = old.slots; area = length_is }) new → IsOn new after.moments.now
    on_next new alike = on_again (record { index = old.index; host = old.host; slots = old.slots; area = length_is }) new after.moments.now alike longer_on
