-- The steps of a slice, one after the other.
use Rattle.std.proofs.Common.{◌≡◌, inl, inr, ℕ, ◌+◌, ◌-◌, ◌<◌, ◌≤◌, Bool, List, ◌++◌, length, take, drop, Ok, Err, refl, sym, ◌∙◌, ap, subst, arith, append_assoc}
use Rattle.std.specs.Prelude.{IsTrue, Result, OnOk, OnErr, min}
use Rattle.std.proofs.lemmas.List.{append-nil, take_all}
use Rattle.fault_counts.specs.Faults.{Faults, NeverFell}
use Rattle.disk_model.specs.Moments.{Files, Moments, EachMoment, start}
use Rattle.disk_model.specs.Changes.{LeavesOthers, Unchanged}
use Rattle.disk_model.specs.DiskSeen.{DiskSeen, HasFailed, NoneFailed, file_in, bytes_in}
use Rattle.disk_model.specs.Reads.{IsRead}
use Rattle.disk_model.proofs.MomentLemmas.{weaken, last_moment}
use Rattle.disk_model.specs.declared.disk.Failed.{Failed}
use Rattle.gate_journal.specs.Records.{records_text}
use Rattle.image_slots.specs.Selections.{selected_by, drafted_by, selections_file}
use Rattle.image_slots.specs.Slotted.{Slotted, AreOn}
use Rattle.image_slots.specs.Drafted.{Drafted, DraftHolds, DraftHoldsArea}
use Rattle.image_slots.specs.Calls.{AddsPiece}
use Rattle.image_slots.specs.declared.faults.DraftFault.{DraftFault}
use Rattle.image_files.specs.Saving.{SelectsArea}
use Rattle.image_files.proofs.SaveLemmas.{on_still, saves_since, selected_since, saves_drafting, keeps_drafting}
use Rattle.name_store.specs.Drafting.{Drafting, drafted_text}
use Rattle.name_store.specs.SliceSteps.{WritesMore, WritesNext, IsWholeWith}
use Rattle.name_store.proofs.DraftingLemmas.{drafted_more, none_of}
use Rattle.name_store.proofs.StepLemmas.{others_then}

-- what follows at Ok
pub ok_so : {T E P Q : Type 0} (result : Result T E) → (P → Q) → OnOk result P → OnOk result Q
ok_so (Ok value) so holds = so holds
ok_so (Err fault) so holds = tt

never_fell : (disk : DiskSeen) → NeverFell disk.faults disk.faults
never_fell disk = record { count = omega arith; at_limit = λ is. is }

-- a draft with so many bytes more
pub longer : (a b : Drafted) (m n : ℕ) → a ≡ record b { written = b.written + m } → m ≡ n → a ≡ record b { written = b.written + n }
longer a b m n is same = is ∙ (λ i. record b { written = b.written + same i })

-- two facts at Ok
pub both_ok : {T E P Q R : Type 0} (result : Result T E) → (P → Q → R) → OnOk result P → OnOk result Q → OnOk result R
both_ok (Ok value) so p q = so p q
both_ok (Err fault) so p q = tt

pub err_so : {T E P Q : Type 0} (result : Result T E) → (P → Q) → OnErr result P → OnErr result Q
err_so (Ok value) so holds = tt
err_so (Err fault) so holds = so holds

pub fell_never : {a b c : Faults} → NeverFell a b → NeverFell b c → NeverFell a c
fell_never first second = record { count = omega (arith, first.count, second.count); at_limit = λ is. second.at_limit (first.at_limit is) }

pub failed_later : {a b c : DiskSeen} → NeverFell a.faults b.faults → HasFailed b c → HasFailed a c
failed_later later failed = record {
  last = failed.last;
  rose = elim failed.rose [ inl more ↦ inl (omega (arith, later.count, more)) | inr limit ↦ inr limit ];
}

-- nothing was written
pub wrote_none : (tells : Bool) (draft : Drafted) (piece : List ℕ) (disk : DiskSeen) → length piece ≡ 0
    → WritesMore {T = Unit {0}} {E = DraftFault} tells draft draft (length piece) piece disk disk (Ok tt)
wrote_none tells draft piece disk none = record {
  ok = let same : draft.written ≡ draft.written + length piece = omega (arith, none) in λ i. record { file = draft.file; image = draft.image; written = same i };
  holds = λ told pieces holds. subst (λ (l : List ℕ). DraftHolds draft l (bytes_in disk draft.file)) (sym (ap (λ (l : List ℕ). pieces ++ l) (none_of piece none) ∙ append-nil pieces)) holds;
  others = λ told. start (λ other differ. refl);
  ends = record { later = never_fell disk; worked = λ some. absurd (omega (arith, some, none)); none = refl; failed = tt };
}

pub wrote_piece : {T : Type 0} (tells : Bool) (old new : Drafted) (piece : List ℕ) (before after : DiskSeen) (result : Result T DraftFault) → AddsPiece tells old new piece before after result
    → WritesMore tells old new (length piece) piece before after result
wrote_piece tells old new piece before after result added = record {
  ok = added.ok;
  holds = added.holds;
  others = added.others;
  ends = record { later = added.ends.later; worked = λ some. added.ends.worked; none = added.ends.none; failed = added.ends.failed };
}

-- ---- a copy

-- all that was asked for was read
pub read_all : (bytes : List ℕ) (at room n : ℕ) (into : List ℕ) → IsRead bytes at room n into → at + room ≤ length bytes → length into ≡ room → into ≡ take room (drop at bytes)
read_all bytes at room n into read inside size =
    let is : n ≡ room = omega (arith, read.count, inside) in
    sym (take_all room into (omega (arith, size))) ∙ subst (λ (k : ℕ). take k into ≡ take k (drop at bytes)) is read.same

pub quiet_others : (file : ℕ) {old new : Moments} → EachMoment (Unchanged old.now) old new → EachMoment (LeavesOthers file old.now) old new
quiet_others file {old} did = weaken (LeavesOthers file old.now) (λ files same. λ other differ. ap (λ (f : Files). f other) same) did

module _ {T : Type 0} (tells : Bool) (old new : Drafted) (before mid : DiskSeen) (quiet : IsTrue tells → EachMoment (Unchanged before.moments.now) before.moments mid.moments)
    (later : NeverFell before.faults mid.faults) (quiet_none : NoneFailed before mid) where
  -- what was read went to the draft
  pub copied : (count : ℕ) (piece into : List ℕ) (after : DiskSeen) (result : Result T DraftFault) → length into ≡ count → (IsTrue tells → into ≡ piece) → AddsPiece tells old new into mid after result
      → WritesMore tells old new count piece before after result
  copied count piece into after result size same added = record {
    ok = ok_so result (λ is. longer new old (length into) count is size) added.ok;
    holds = λ told pieces holds.
        let still = subst (λ (f : Files). DraftHolds old pieces (f old.file).bytes) (sym (last_moment (quiet told))) holds in
        ok_so result (subst (λ (l : List ℕ). DraftHolds new (pieces ++ l) (bytes_in after new.file)) (same told)) (added.holds told pieces still);
    others = λ told. others_then old.file (λ files so. so) (quiet_others old.file (quiet told)) (added.others told);
    ends = record {
      later = fell_never later added.ends.later;
      worked = λ some. added.ends.worked;
      none = ok_so result (λ (none : NoneFailed mid after). none ∙ quiet_none) added.ends.none;
      failed = err_so result (failed_later later) added.ends.failed;
    };
  }

-- by another name for the number of bytes
pub resized : {T : Type 0} (tells : Bool) (old new : Drafted) (text : List ℕ) (before after : DiskSeen) (result : Result T DraftFault) (n m : ℕ) → n ≡ m
    → WritesMore tells old new n (take n text) before after result → WritesMore tells old new m (take m text) before after result
resized tells old new text before after result n m same wrote = subst (λ (k : ℕ). WritesMore tells old new k (take k text) before after result) same wrote

-- ---- two steps

-- a piece alone
pub wrote_first : {T : Type 0} (tells : Bool) (old new : Drafted) (piece text : List ℕ) (count : ℕ) (before after : DiskSeen) (result : Result T DraftFault) → count ≡ 0
    → WritesMore tells old new (length piece) piece before after result → WritesMore tells old new (length piece + count) (piece ++ take count text) before after result
wrote_first tells old new piece text count before after result none wrote =
    let all : length piece ≡ length piece + count = omega (arith, none) in
    let same : piece ≡ piece ++ take count text = sym (ap (λ (n : ℕ). piece ++ take n text) none ∙ append-nil piece) in
    subst (λ (l : List ℕ). WritesMore tells old new (length piece + count) l before after result) same (subst (λ (n : ℕ). WritesMore tells old new n piece before after result) all wrote)

-- a draft with so many bytes more, and so many more
twice : (a b c : Drafted) (m n : ℕ) → b ≡ record a { written = a.written + m } → c ≡ record b { written = b.written + n } → c ≡ record a { written = a.written + (m + n) }
twice a b c m n first second =
    let all : b.written + n ≡ a.written + (m + n) = omega (arith, ap (λ (d : Drafted). d.written) first) in
    second ∙ (λ i. record { file = (first i).file; image = (first i).image; written = all i })

module _ {T : Type 0} (tells : Bool) (old mid new : Drafted) (a b : ℕ) (p q : List ℕ) (d0 d1 d2 : DiskSeen) (result : Result T DraftFault)
    (first : WritesMore {T = Unit {0}} {E = DraftFault} tells old mid a p d0 d1 (Ok tt)) (second : WritesMore tells mid new b q d1 d2 result) (some : 0 < b) where
  -- where the disk tells its files, the second piece has another name
  pub wrote_both : (r : List ℕ) → (IsTrue tells → q ≡ r) → WritesMore tells old new (a + b) (p ++ r) d0 d2 result
  wrote_both r same = record {
    ok = ok_so result (twice old mid new a b first.ok) second.ok;
    holds = λ told pieces holds.
        ok_so result (subst (λ (l : List ℕ). DraftHolds new l (bytes_in d2 new.file)) (append_assoc pieces p q ∙ ap (λ (l : List ℕ). pieces ++ (p ++ l)) (same told))) (second.holds told (pieces ++ p) (first.holds told pieces holds));
    others = λ told.
        others_then old.file (λ files so. so) (first.others told)
        (subst (λ (d : Drafted). EachMoment (LeavesOthers d.file d1.moments.now) d1.moments d2.moments) first.ok (second.others told));
    ends = record {
      later = fell_never first.ends.later second.ends.later;
      worked = λ any. second.ends.worked some;
      none = ok_so result (λ (none : NoneFailed d1 d2). none ∙ first.ends.none) second.ends.none;
      failed = err_so result (failed_later first.ends.later) second.ends.failed;
    };
  }

-- ---- the image, and then the selected area

-- what both wrote is what is next
pub wrote_next : {T : Type 0} (tells : Bool) (selected : ℕ) (drafting : Drafting) (new : Drafted) (count : ℕ) (piece : List ℕ) (before after : DiskSeen) (result : Result T DraftFault)
    → length piece ≡ min count (drafting.draft.image - drafting.draft.written)
    → WritesMore tells drafting.draft new (length piece + (count - length piece))
    (piece ++ take (count - length piece) (drop (drafting.from - 1 + (drafting.draft.written - drafting.draft.image)) (bytes_in before selected))) before after result
    → WritesNext tells selected drafting (record { draft = new; from = drafting.from }) count piece before after result
wrote_next tells selected drafting new count piece before after result size wrote =
    let old = drafting.draft in
    let all : length piece + (count - length piece) ≡ count = omega (arith, size) in
    let file = bytes_in before selected in
    let is = ok_so result (λ is. longer new old (length piece + (count - length piece)) count is all) wrote.ok in
    record {
      ok = ok_so result (λ (same : new ≡ record old { written = old.written + count }) i. record { draft = same i; from = drafting.from }) is;
      holds = λ told image image_size next holds.
          let text : drafted_text drafting image file ++ (piece ++ take (count - length piece) (drop (drafting.from - 1 + (old.written - old.image)) file)) ≡ drafted_text (record { draft = record old { written = old.written + count }; from = drafting.from }) image file =
          ap (λ (n : ℕ). drafted_text drafting image file ++ (piece ++ take (count - length piece) (drop (drafting.from - 1 + (old.written - n)) file))) image_size
          ∙ drafted_more drafting image file piece count next (subst (λ (n : ℕ). length piece ≡ min count (n - old.written)) image_size size) in
          both_ok result (λ (same : new ≡ record old { written = old.written + count }) (has : DraftHolds new (drafted_text drafting image file ++ (piece ++ take (count - length piece) (drop (drafting.from - 1 + (old.written - old.image)) file))) (bytes_in after new.file)).
          subst (λ (d : Drafted). DraftHolds new (drafted_text (record { draft = d; from = drafting.from }) image file) (bytes_in after new.file)) (sym same)
          (subst (λ (l : List ℕ). DraftHolds new l (bytes_in after new.file)) text has))
          is (wrote.holds told (drafted_text drafting image file) holds);
      others = wrote.others;
      ends = record {
        later = wrote.ends.later;
        worked = λ some. wrote.ends.worked (omega (arith, some, all));
        none = wrote.ends.none;
        failed = wrote.ends.failed;
      };
    }

-- ---- the last bytes, and the selection

module _ (tells : Bool) (old new : Slotted) (drafting : Drafting) (wrote : Drafted) (count : ℕ) (piece : List ℕ) (before mid after : DiskSeen) (file : drafting.draft.file ≡ drafted_by old.count) where
  drafts : (IsTrue tells → EachMoment (LeavesOthers drafting.draft.file before.moments.now) before.moments mid.moments) → IsTrue tells
      → EachMoment (LeavesOthers (drafted_by old.count) before.moments.now) before.moments mid.moments
  drafts others told = subst (λ (n : ℕ). EachMoment (LeavesOthers n before.moments.now) before.moments mid.moments) file (others told)

  pub still_on : (IsTrue tells → EachMoment (LeavesOthers drafting.draft.file before.moments.now) before.moments mid.moments) → IsTrue tells → (front : List ℕ) → AreOn front old (file_in before selections_file)
      → AreOn front old (file_in mid selections_file)
  still_on others told front on = on_still old.count before.moments mid.moments (drafts others told) front old on

  -- what is whole with the last bytes is an area behind them
  module _ (first : WritesNext {T = Unit {0}} {E = DraftFault} tells (selected_by old.count) drafting (record { draft = wrote; from = drafting.from }) count piece before mid (Ok tt))
      (all : drafting.draft.image ≤ drafting.draft.written + count) where
    whole : IsTrue tells → (image : List ℕ) (records : List (List ℕ)) → IsWholeWith (selected_by old.count) drafting count piece before image records
        → DraftHoldsArea wrote image records (bytes_in mid wrote.file)
    whole told image records w =
        let file_is = bytes_in before (selected_by old.count) in
        let written : wrote.written ≡ drafting.draft.written + count = ap (λ (d : Drafting). d.draft.written) first.ok in
        let size : wrote.image ≡ length image = ap (λ (d : Drafting). d.draft.image) first.ok ∙ w.size in
        let front : take wrote.written image ≡ image = take_all wrote.written image (omega (arith, written, all, w.size)) in
        let rest : wrote.written - length image ≡ drafting.draft.written + count - drafting.draft.image = omega (arith, written, w.size) in
        let behind : take (wrote.written - length image) (drop (drafting.from - 1) file_is) ≡ records_text records = ap (λ (n : ℕ). take n (drop (drafting.from - 1) file_is)) rest ∙ w.since in
        record {
          holds = subst (λ (l : List ℕ). DraftHolds wrote l (bytes_in mid wrote.file)) (λ i. front i ++ behind i) (first.holds told image w.size w.next w.holds);
          size = size;
          fit = w.fit;
        }

    pub selects_last : (result : Result ℕ Failed) → SelectsArea tells old new (λ image records. DraftHoldsArea wrote image records (bytes_in mid wrote.file)) mid after result
        → SelectsArea tells old new (IsWholeWith (selected_by old.count) drafting count piece before) before after result
    selects_last result did = record {
      ok = did.ok;
      err = did.err;
      on_disk = λ told front on. did.on_disk told front (still_on first.others told front on);
      area = λ told image records w. did.area told image records (whole told image records w);
      any_moment = λ told front image records on w.
          saves_since old.count before.moments mid.moments (drafts first.others told) front image records after.moments
          (did.any_moment told front image records (still_on first.others told front on) (whole told image records w));
      selected = λ told. selected_since old.count before.moments mid.moments (drafts first.others told) after.moments (did.selected told);
      ends = record {
        later = fell_never first.ends.later did.ends.later;
        worked = did.ends.worked;
        none = ok_so result (λ (none : NoneFailed mid after). none ∙ first.ends.none) did.ends.none;
        failed = err_so result (failed_later first.ends.later) did.ends.failed;
      };
    }

  -- the disk failed before
  pub selects_none : (Has : List ℕ → List (List ℕ) → Type 0) (error : Failed) (fault : DraftFault)
      → WritesNext {T = Unit {0}} {E = DraftFault} tells (selected_by old.count) drafting (record { draft = wrote; from = drafting.from }) count piece before mid (Err fault)
      → SelectsArea tells old old Has before mid (Err error)
  selects_none Has error fault first = record {
    ok = tt;
    err = refl;
    on_disk = λ told front on. tt;
    area = λ told image records has. tt;
    any_moment = λ told front image records on has. saves_drafting old.count before.moments mid.moments (drafts first.others told) front image records;
    selected = λ told. keeps_drafting old.count before.moments mid.moments (drafts first.others told);
    ends = record { later = first.ends.later; worked = tt; none = tt; failed = first.ends.failed };
  }
