-- A selection of what was drafted: the store is on the disk, and what a crash leaves.
use Rattle.std.proofs.Common.{◌≡◌, ◌⊎◌, inl, inr, ℕ, ◌+◌, ◌≤◌, Bool, List, length, Ok, sym, ◌∙◌, subst, arith, length-append}
use Rattle.std.specs.Prelude.{IsTrue, Result}
use Rattle.nmc_base.specs.Heights.{highest}
use Rattle.nmc_base.specs.declared.chain_ends.Base.{Base}
use Rattle.disk_model.specs.Moments.{Files, EachMoment, IsImage}
use Rattle.disk_model.specs.DiskSeen.{DiskSeen, file_in, bytes_in}
use Rattle.disk_model.specs.declared.disk.Failed.{Failed}
use Rattle.disk_model.proofs.ImageLemmas.{IsSettled-image}
use Rattle.disk_model.proofs.MomentLemmas.{weaken}
use Rattle.gate_journal.specs.Records.{IsArea, image_front, records_text}
use Rattle.chain_commands.specs.Event.{Command}
use Rattle.chain_commands.specs.RunState.{RunState}
use Rattle.chain_commands.specs.Saving.{saved_before}
use Rattle.image_slots.specs.Selections.{HasSelections, selected_by, drafted_by}
use Rattle.image_slots.specs.Slotted.{Slotted, AreOn, with_one_more}
use Rattle.image_files.specs.Saving.{HasArea, SavesAt, SelectsArea}
use Rattle.image_files.proofs.SaveLemmas.{crash_of}
use Rattle.index_commands.specs.Records.{records_of}
use Rattle.name_store.specs.Header.{IsBegun, header_text}
use Rattle.name_store.specs.Stands.{Bytes, IsRunState, Stands, EachStandsForEither}
use Rattle.name_store.specs.Stored.{Stored, StandsFor, IsOn, area_file}
use Rattle.name_store.proofs.RunLemmas.{host_told, begins_front}
use Rattle.name_store.proofs.SavedLemmas.{chain_base}
use Rattle.name_store.proofs.StateLemmas.{front_size}

-- the area that is drafted is the one that the next selection names
pub turns : (count : ℕ) → selected_by (count + 1) ≡ drafted_by count
turns count = grind arith

module _ (tells : Bool) (told : IsTrue tells) (old : Stored) (before after : DiskSeen) (on : IsOn old before.moments.now) (Has : List ℕ → List (List ℕ) → Type 0) (image : List ℕ) where
  abbrev header : List ℕ
  header = header_text old.index.base on.text

  -- the store is on the disk
  pub selected_on : (records : List (List ℕ)) → Has image records → (number area : ℕ) (new : Slotted) → SelectsArea tells old.slots new Has before after (Ok number)
      → area ≡ 9 + (length image + length (records_text records)) → IsOn (record { index = old.index; host = old.host; slots = with_one_more old.slots; area = area }) after.moments.now
  selected_on records has number area new did size =
      let held = subst (λ (n : ℕ). HasArea image records (file_in after n)) (sym (turns old.slots.count)) (did.area told image records has) in
      record {
        text = on.text;
        host = on.host;
        slots = subst (λ (slots : Slotted). AreOn header slots (file_in after 0)) did.ok.1 (did.on_disk told header on.slots);
        image = image;
        records = records;
        holds = record { is_area = held.area; length_is = omega (arith, size, front_size image, length-append (image_front image) (records_text records)) };
        settled_area = held.settled;
      }

  -- of a run state that store and files stand for
  module _ (run : RunState) (s : StandsFor old run) (stands : Stands (bytes_in before) run) (newer older : List Command) (has : Has image (records_of newer))
      (next : IsRunState (saved_before run newer older image)) where
    base_same : old.index.base ≡ run.base
    base_same = s.index.base_is ∙ chain_base run

    host_same : on.text ≡ run.host
    host_same =
        let begun : IsBegun old.index.base on.text = record {
          low = subst (λ (b : Base). b.height ≤ highest) (sym base_same) s.is_state.begun.low;
          hash = subst (λ (b : Base). length b.hash.0 ≡ 32) (sym base_same) s.is_state.begun.hash;
          is_host = record { name = old.host; host = on.host };
        } in
        sym (host_told old.index.base on.text (bytes_in before 0) (begins_front old.index.base on.text (bytes_in before 0) old.slots.count on.slots.has) begun)
        ∙ host_told run.base run.host (bytes_in before 0) (begins_front run.base run.host (bytes_in before 0) run.selections stands.selections) s.is_state.begun

    header_same : header ≡ header_text run.base run.host
    header_same = λ i. header_text (base_same i) (host_same i)

    -- what a crash leaves at a moment of it
    crashed : (files : Files) → SavesAt header old.slots.count image (records_of newer) before.moments.now files → (left : Bytes) → IsImage files left
        → Stands left run ⊎ Stands left (saved_before run newer older image)
    crashed files at left is = elim (crash_of header old.slots image (records_of newer) before.moments.now files on.slots at left is) [
      | inl kept ↦ inl (record {
        selections = subst (λ (l : List ℕ). HasSelections l run.selections (left 0)) header_same (subst (λ (n : ℕ). HasSelections header n (left 0)) s.selections kept.selections);
        area = subst (λ (n : ℕ). IsArea run.text (records_of run.since) (left (selected_by n))) s.selections
            (subst (IsArea run.text (records_of run.since)) (sym (IsSettled-image (file_in before (area_file old)) (left (area_file old)) on.settled_area kept.selected))
            (subst (λ (n : ℕ). IsArea run.text (records_of run.since) (bytes_in before (selected_by n))) (sym s.selections) stands.area));
        is_state = stands.is_state;
      })
      | inr more ↦ inr (record {
        selections = subst (λ (l : List ℕ). HasSelections l (run.selections + 1) (left 0)) header_same (subst (λ (n : ℕ). HasSelections header (n + 1) (left 0)) s.selections more.selections);
        area = subst (λ (n : ℕ). IsArea image (records_of newer) (left n)) (sym (turns run.selections)) (subst (λ (n : ℕ). IsArea image (records_of newer) (left (drafted_by n))) s.selections more.drafted);
        is_state = next;
      })
    ]

    pub selected_moments : (result : Result ℕ Failed) (new : Slotted) → SelectsArea tells old.slots new Has before after result
        → EachMoment (EachStandsForEither run (saved_before run newer older image)) before.moments after.moments
    selected_moments result new did =
        weaken (EachStandsForEither run (saved_before run newer older image)) (λ files at. λ left is. crashed files at left is) (did.any_moment told header image (records_of newer) on.slots has)

    pub selected_done : (number : ℕ) (new : Slotted) → SelectsArea tells old.slots new Has before after (Ok number) → Stands (bytes_in after) (saved_before run newer older image)
    selected_done number new did =
        let slots = subst (λ (slots : Slotted). AreOn header slots (file_in after 0)) did.ok.1 (did.on_disk told header on.slots) in
        record {
          selections = subst (λ (l : List ℕ). HasSelections l (run.selections + 1) (bytes_in after 0)) header_same (subst (λ (n : ℕ). HasSelections header (n + 1) (bytes_in after 0)) s.selections slots.has);
          area = subst (λ (n : ℕ). IsArea image (records_of newer) (bytes_in after n)) (sym (turns run.selections))
              (subst (λ (n : ℕ). IsArea image (records_of newer) (bytes_in after (drafted_by n))) s.selections (did.area told image (records_of newer) has).area);
          is_state = next;
        }
