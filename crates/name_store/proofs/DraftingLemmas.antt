-- The draft of a save in slices: its bytes, and what leaves it as it is.
use Rattle.std.proofs.Common.{◌≡◌, ◌⊎◌, inl, inr, ℕ, ◌+◌, ◌-◌, ◌≤◌, List, [], ◌∷◌, ◌++◌, length, take, drop, refl, sym, ◌∙◌, ap, subst, arith, append_assoc, length-take}
use Rattle.std.specs.Prelude.{min, All}
use Rattle.std.proofs.lemmas.List.{append-nil, take_all, take_at, drop-drop, drop-take, drop-append-le, take-take}
use Rattle.std.proofs.lemmas.Bool.{cases_lt}
use Rattle.disk_model.specs.FileState.{FileState}
use Rattle.disk_model.specs.Moments.{Files}
use Rattle.disk_model.specs.Changes.{LeavesOthers}
use Rattle.gate_journal.specs.Gate.{record_text}
use Rattle.gate_journal.specs.Records.{Fits, records_text}
use Rattle.gate_journal.proofs.ReadLemmas.{take_more_of}
use Rattle.gate_journal.proofs.RecordLemmas.{records_text-push, pushed_fit}
use Rattle.chain_commands.specs.Event.{Command}
use Rattle.image_slots.specs.Selections.{selected_by, drafted_by}
use Rattle.image_slots.specs.Slotted.{Slotted}
use Rattle.image_slots.specs.Drafted.{DraftHolds}
use Rattle.image_files.proofs.SaveLemmas.{apart}
use Rattle.index_commands.specs.Records.{record_of}
use Rattle.name_store.specs.Stored.{Stored, IsOn, area_file}
use Rattle.name_store.specs.Drafting.{Drafting, with_written, grown_since, IsDraftOf, IsDraftOn, IsNextOf, drafted_text, since_text}
use Rattle.name_store.specs.Growing.{IsAsLong, IsLonger}

-- ---- the bytes of a draft

-- the next piece of an image, behind those that are written
piece_more : (image piece : List ℕ) (written count : ℕ) → piece ≡ take (length piece) (drop written image) → length piece ≡ min count (length image - written)
    → take written image ++ piece ≡ take (written + count) image
piece_more image piece written count is size =
    let n = length piece in
    let same : take (written + n) image ≡ take (written + count) image = elim (cases_lt (length image - written) count) [
      | inl less ↦ take_all (written + n) image (omega (arith, size, less)) ∙ sym (take_all (written + count) image (omega (arith, less)))
      | inr more ↦ (let all : n ≡ count = omega (arith, size, more) in ap (λ (k : ℕ). take (written + k) image) all)
    ] in
    sym (take_more_of written n image ∙ ap (λ (l : List ℕ). take written image ++ l) (sym is)) ∙ same

-- two texts change places where one of them is empty
shuffled : (a k p r : List ℕ) → (k ≡ []) ⊎ (p ≡ []) → (a ++ k) ++ (p ++ r) ≡ (a ++ p) ++ (k ++ r)
shuffled a k p r (inl none) =
    ap (λ (l : List ℕ). (a ++ l) ++ (p ++ r)) none ∙ ap (λ (l : List ℕ). l ++ (p ++ r)) (append-nil a) ∙ sym (append_assoc a p r) ∙ ap (λ (l : List ℕ). (a ++ p) ++ (l ++ r)) (sym none)
shuffled a k p r (inr none) =
    ap (λ (l : List ℕ). (a ++ k) ++ (l ++ r)) none ∙ append_assoc a k r ∙ ap (λ (l : List ℕ). l ++ (k ++ r)) (sym (append-nil a)) ∙ ap (λ (l : List ℕ). (a ++ l) ++ (k ++ r)) (sym none)

pub none_of : (l : List ℕ) → length l ≡ 0 → l ≡ []
none_of [] size = refl
none_of (x ∷ l) size = absurd (omega (arith, size))

-- so many bytes more: a piece of the image, and what comes behind the image from the selected area
pub drafted_more : (drafting : Drafting) (image selected piece : List ℕ) (count : ℕ) → IsNextOf drafting image piece → length piece ≡ min count (length image - drafting.draft.written)
    → drafted_text drafting image selected ++ (piece ++ take (count - length piece) (drop (drafting.from - 1 + (drafting.draft.written - length image)) selected))
    ≡ drafted_text (with_written drafting count) image selected
drafted_more drafting image selected piece count is size =
    let written = drafting.draft.written in
    let first = drafting.from - 1 in
    let copied = written - length image in
    let more = count - length piece in
    let one_none : (take copied (drop first selected) ≡ []) ⊎ (piece ≡ []) = elim (cases_lt written (length image)) [
      | inl less ↦ inl (let none : copied ≡ 0 = omega (arith, less) in ap (λ (n : ℕ). take n (drop first selected)) none)
      | inr all ↦ inr (none_of piece (omega (arith, size, all)))
    ] in
    let behind : take copied (drop first selected) ++ take more (drop (first + copied) selected) ≡ take (copied + more) (drop first selected) =
    ap (λ (l : List ℕ). take copied (drop first selected) ++ take more l) (sym (drop-drop copied first selected)) ∙ sym (take_more_of copied more (drop first selected)) in
    let total : copied + more ≡ written + count - length image = elim (cases_lt written (length image)) [
      | inl less ↦ omega (arith, size, less)
      | inr all ↦ omega (arith, size, all)
    ] in
    shuffled (take written image) (take copied (drop first selected)) piece (take more (drop (first + copied) selected)) one_none
    ∙ (λ i. piece_more image piece written count is size i ++ behind i) ∙ ap (λ (n : ℕ). take (written + count) image ++ take n (drop first selected)) total

-- ---- what leaves it

-- the records since, as far as they are copied, are the same where the area's front is
since_same : (drafting : Drafting) (count size : ℕ) (old new : List ℕ) → drafting.from - 1 + count ≤ size → take size new ≡ take size old → since_text drafting count new ≡ since_text drafting count old
since_same drafting count size old new within same =
    let at = drafting.from - 1 in
    let of = λ (l : List ℕ). sym (drop-take at count l) ∙ ap (drop at) (sym (take-take (at + count) size l within)) in
    of new ∙ ap (λ (l : List ℕ). drop at (take (at + count) l)) same ∙ sym (of old)

module _ (old new : Stored) (drafting : Drafting) (image : List ℕ) (before after : Files) (is : IsDraftOf old drafting) (on : IsDraftOn old drafting image before)
    (others : LeavesOthers (area_file old) before after) (slots : new.slots ≡ old.slots) where
  drafted_same : after drafting.draft.file ≡ before drafting.draft.file
  drafted_same = others drafting.draft.file (λ same. apart old.slots.count (sym (sym is.file ∙ same)))

  selected_same : (files : Files) → files (area_file new) ≡ files (area_file old)
  selected_same files = ap (λ (s : Slotted). files (selected_by s.count)) slots

  -- the front of the selected area is the same, and what the area has since it was begun are these records
  stays_with : (records : List (List ℕ)) → take (old.area - 1) (after (area_file old)).bytes ≡ take (old.area - 1) (before (area_file old)).bytes → All Fits records
      → since_text drafting (grown_since new drafting) (after (area_file old)).bytes ≡ records_text records → IsDraftOn new drafting image after
  stays_with records same fit since =
      let copied = drafting.draft.written - length image in
      let within : drafting.from - 1 + copied ≤ old.area - 1 = omega (arith, is.within, is.begun, is.some, on.size) in
      let text : drafted_text drafting image (after (area_file old)).bytes ≡ drafted_text drafting image (before (area_file old)).bytes =
      ap (λ (l : List ℕ). take drafting.draft.written image ++ l) (since_same drafting copied (old.area - 1) (before (area_file old)).bytes (after (area_file old)).bytes within same) in
      record {
        size = on.size;
        holds = subst (λ (f : FileState). DraftHolds drafting.draft (drafted_text drafting image f.bytes) (after drafting.draft.file).bytes) (sym (selected_same after))
            (subst (λ (l : List ℕ). DraftHolds drafting.draft l (after drafting.draft.file).bytes) (sym text)
            (subst (λ (f : FileState). DraftHolds drafting.draft (drafted_text drafting image (before (area_file old)).bytes) f.bytes) (sym drafted_same) on.holds));
        records = records;
        fit = fit;
        since = ap (λ (f : FileState). since_text drafting (grown_since new drafting) f.bytes) (selected_same after) ∙ since;
      }

-- a store as long as the old one has the same drafts
pub draft_of_still : (old new : Stored) (drafting : Drafting) → IsAsLong old new → IsDraftOf old drafting → IsDraftOf new drafting
draft_of_still old new drafting same is = record {
  file = subst (λ (s : Slotted). drafting.draft.file ≡ drafted_by s.count) (sym same.slots) is.file;
  few = omega (arith, is.few, ap (λ (s : Slotted). s.count) same.slots);
  short = is.short;
  some = is.some;
  begun = omega (arith, is.begun, same.area);
  within = omega (arith, is.within, same.area);
}

pub draft_still : (old new : Stored) (drafting : Drafting) (image : List ℕ) (files : Files) → IsAsLong old new → IsDraftOn old drafting image files → IsDraftOn new drafting image files
draft_still old new drafting image files same on =
    record {
      size = on.size;
      holds = subst (λ (s : Slotted). DraftHolds drafting.draft (drafted_text drafting image (files (selected_by s.count)).bytes) (files drafting.draft.file).bytes) (sym same.slots) on.holds;
      records = on.records;
      fit = on.fit;
      since = subst (λ (s : Slotted). since_text drafting (grown_since new drafting) (files (selected_by s.count)).bytes ≡ records_text on.records) (sym same.slots)
          (ap (λ (n : ℕ). since_text drafting (n - drafting.from) (files (area_file old)).bytes) same.area ∙ on.since);
    }

-- behind a command the store is longer, and has the same drafts
pub draft_of_stays : (command : Command) (old new : Stored) (drafting : Drafting) → IsLonger command old new → IsDraftOf old drafting → IsDraftOf new drafting
draft_of_stays command old new drafting longer is = record {
  file = subst (λ (s : Slotted). drafting.draft.file ≡ drafted_by s.count) (sym longer.slots) is.file;
  few = omega (arith, is.few, ap (λ (s : Slotted). s.count) longer.slots);
  short = is.short;
  some = is.some;
  begun = omega (arith, is.begun, longer.area);
  within = omega (arith, is.within, is.begun, longer.area);
}

module _ (command : Command) (old new : Stored) (drafting : Drafting) (image : List ℕ) (before after : Files) (longer : IsLonger command old new) (held : IsOn old before)
    (others : LeavesOthers (area_file old) before after)
    (adds : take (new.area - 1) (after (area_file old)).bytes ≡ take (old.area - 1) (before (area_file old)).bytes ++ record_text (record_of command)) (is : IsDraftOf old drafting) where
  abbrev was : List ℕ
  was = (before (area_file old)).bytes

  abbrev now : List ℕ
  now = (after (area_file old)).bytes

  front_size : length (take (old.area - 1) was) ≡ old.area - 1
  front_size = omega (arith, length-take (old.area - 1) was, held.holds.length_is, held.holds.is_area.closed.inside)

  front_same : take (old.area - 1) now ≡ take (old.area - 1) was
  front_same =
      sym (take-take (old.area - 1) (new.area - 1) now (omega (arith, longer.area))) ∙ ap (take (old.area - 1)) adds
      ∙ take_at (take (old.area - 1) was) (record_text (record_of command)) (old.area - 1) front_size

  since_more : since_text drafting (grown_since new drafting) now ≡ since_text drafting (grown_since old drafting) was ++ record_text (record_of command)
  since_more =
      let at = drafting.from - 1 in
      let to_new : at + grown_since new drafting ≡ new.area - 1 = omega (arith, is.some, is.begun, longer.area) in
      let to_old : at + grown_since old drafting ≡ old.area - 1 = omega (arith, is.some, is.begun) in
      sym (drop-take at (grown_since new drafting) now) ∙ ap (λ (n : ℕ). drop at (take n now)) to_new ∙ ap (drop at) adds
      ∙ drop-append-le at (take (old.area - 1) was) (record_text (record_of command)) (omega (arith, front_size, is.begun))
      ∙ ap (λ (n : ℕ). drop at (take n was) ++ record_text (record_of command)) (sym to_old)
      ∙ ap (λ (l : List ℕ). l ++ record_text (record_of command)) (drop-take at (grown_since old drafting) was)

  -- a draft that is on the disk is on it behind a command
  pub draft_stays : IsDraftOn old drafting image before → IsDraftOn new drafting image after
  draft_stays on =
      stays_with old new drafting image before after is on others longer.slots (on.records ++ record_of command ∷ []) front_same (pushed_fit on.records (record_of command) on.fit longer.fits)
      (since_more ∙ ap (λ (l : List ℕ). l ++ record_text (record_of command)) on.since ∙ sym (records_text-push on.records (record_of command)))
