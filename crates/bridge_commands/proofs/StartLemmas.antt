-- What was read, the files that are made of it, and what both come to.
use Rattle.std.proofs.Common.{◌≡◌, ℕ, ◌≤◌, ◌<◌, ◌^◌, Bool, List, [], ◌∷◌, length, Result, Ok, Err, OnOk, refl, sym, ap, subst, ◌∙◌, arith, true≢false}
use Rattle.std.specs.Prelude.{IsTrue, IsErr, IsErrAnd, IsErrOf}
use Rattle.fault_counts.specs.Faults.{NeverFell}
use Rattle.fault_counts.proofs.FaultLemmas.{NeverFell_refl, NeverFell_trans, stayed_then_Rose}
use Rattle.byte_io.specs.Source.{SourceSeen}
use Rattle.nmc_base.specs.declared.chain_ends.Base.{Base}
use Rattle.nmc_base.specs.declared.chain_ends.Profile.{Profile}
use Rattle.chain_names.specs.Coins.{Maps}
use Rattle.chain_names.specs.Index.{index_maps}
use Rattle.chain_names.specs.Log.{Log}
use Rattle.chain_names.specs.Undo.{UndoRecord}
use Rattle.chain_names.specs.UndoOf.{AreUndos}
use Rattle.name_tables.specs.declared.parts.Parts.{Parts}
use Rattle.undo_records.specs.declared.version.Version.TheVariants.{Two}
use Rattle.image_grammar.specs.Text.{IsStateText}
use Rattle.chain_commands.specs.RunState.{on_base}
use Rattle.chain_commands.specs.Saving.{IsTextOf, longest_image}
use Rattle.name_snapshot.specs.Answers.{HasStart}
use Rattle.name_snapshot.specs.Text.{start_of}
use Rattle.name_snapshot.proofs.LengthLemmas.{image_short}
use Rattle.name_snapshot.specs.SourceAnswers.{ReadsSnapshot}
use Rattle.name_snapshot.specs.declared.feed_fault.FeedFault.{FeedFault}
use Rattle.disk_model.specs.Moments.{Files, EachMoment, start as at_once}
use Rattle.disk_model.specs.Changes.{Unchanged, LeavesFrom}
use Rattle.disk_model.specs.DiskSeen.{DiskSeen, HasFailed, bytes_in}
use Rattle.disk_model.proofs.MomentLemmas.{weaken, join, last_moment}
use Rattle.gate_journal.proofs.ReadLemmas.{unchanged_then}
use Rattle.name_store.specs.Header.{IsInitialised, IsUninitialised}
use Rattle.name_store.specs.Making.{IsEmpty, OnlyReads}
use Rattle.name_store.specs.Stands.{EachStands, begun_from}
use Rattle.name_store.proofs.MakingLemmas.{looked_begun}
use Rattle.name_store.specs.Starting.{IsStartIndex, IsStartText}
use Rattle.name_store.specs.declared.faults.CreateFromFault.{CreateFromFault}
use Rattle.name_store.specs.declared.faults.CreateFromFault.TheVariants as makings
use Rattle.bridge_commands.specs.Starting.{ReadsStart, StartsFrom, StartEnds, made, broken, unread, stays, no_snapshot, no_memory, CreatesFrom, CrashesBegin, StandsForStart, fault_of_feed, fault_of_making, by_making}
use Rattle.bridge_commands.specs.declared.start_fault.StartFault.{StartFault}
use Rattle.bridge_commands.specs.declared.start_fault.StartFault.TheVariants.{Initialised}

pub the_error : (result : Result (Unit {0}) StartFault) (fault : StartFault) → IsErr result × IsErrAnd result (λ e. e ≡ fault) → result ≡ Err fault
the_error (Ok done) fault is = absurd (true≢false (sym is.0))
the_error (Err e) fault is = ap Err is.1

-- ---- the index of what was read

no_records : (profile : Profile) (list : Log) (base : ℕ) (undos : List UndoRecord) → AreUndos profile list base [] undos → undos ≡ []
no_records profile list base [] are = refl
no_records profile list base (u ∷ us) are = absurd are

module _ (base : Base) (text : List ℕ) (parts : Parts) (has : HasStart base text parts) where
  pub index_of : IsStartIndex base (start_of has.makes) parts
  index_of = record { is_start = has.is_start; maps_are = has.maps_are; queue = has.queue; filled = has.filled; no_undos = has.no_undos }

  -- its image isn't longer than an image may be
  pub short_image : length base.hash.0 ≡ 32 → length text < 2 ^ 32 → (list : Log) → IsStartIndex base list parts → (image : List ℕ) → IsTextOf Two (on_base base list) image → length image ≤ longest_image
  short_image hash short list index image is =
      let none : is.undos ≡ [] = no_records base.profile list base.height is.undos is.are_undos in
      let same : index_maps base.profile list base.height [] ≡ index_maps base.profile (start_of has.makes) base.height [] = sym index.maps_are ∙ has.maps_are in
      let recordless : IsStateText Two base [] (index_maps base.profile list base.height []) image =
      subst (λ (us : List UndoRecord). IsStateText Two base us (index_maps base.profile list base.height []) image) none is.is_text in
      let bound = image_short base text has.makes image has.is_snapshot (subst (λ (m : Maps). IsStateText Two base [] m image) same recordless) in
      omega (arith, bound, hash, short)

pub stands_by : (base : Base) (host : List ℕ) (list : Log) (new : DiskSeen) (result : Result (Unit {0}) CreateFromFault)
    → OnOk result ((text : List ℕ) × IsStartText base list text × EachStands new.moments.now (begun_from base host list text)) → OnOk result (StandsForStart base host list new)
stands_by base host list new (Ok done) so = record { text = so.0; is_text = so.1; each = so.2 }
stands_by base host list new (Err fault) so = tt

-- ---- the source gave no snapshot, or the files were made of it

module _ (tells : Bool) (base : Base) (host : List ℕ) (limit : ℕ) (old : DiskSeen) (before after : SourceSeen) (shut : IsTrue tells → IsUninitialised (bytes_in old 0)) where
  -- no call of the disk was made
  none_asked : OnlyReads tells old old
  none_asked = record { reads = refl; unchanged = λ told. at_once refl }

  pub unfed : (fault : FeedFault) → ReadsSnapshot base limit before after (Err fault) → StartsFrom tells base host limit old old before after (Err (fault_of_feed fault))
  unfed fault reads = record {
    ending = no_snapshot fault reads shut none_asked;
    others = λ told. at_once (λ file low. refl);
    disk_later = NeverFell_refl old.faults;
    source_later = reads.later;
  }

  module _ (parts : Parts) (reads : ReadsSnapshot base limit before after (Ok parts)) where
    abbrev pub has : HasStart base reads.taken parts
    has = reads.holds.1

    read_start : ReadsStart base limit before after has.makes
    read_start = record { taken = reads.taken; took = reads.consumed; read_out = reads.holds.0; is_snapshot = has.is_snapshot }

    module _ (new : DiskSeen) where
      ends_by : (result : Result (Unit {0}) CreateFromFault) → CreatesFrom tells base host (start_of has.makes) old new result → StartEnds tells base host limit old new before after (by_making result)
      ends_by (Ok done) c = made has.makes read_start c.answer c.made c.crashes
      ends_by (Err makings.Initialised) c = stays c.answer (c.spared refl)
      ends_by (Err makings.DiskFault) c = broken has.makes read_start (c.ends.failed refl) c.crashes
      ends_by (Err makings.NoMemory) c = no_memory c.answer (c.no_memory refl)

      pub fed : (result : Result (Unit {0}) CreateFromFault) → CreatesFrom tells base host (start_of has.makes) old new result
          → StartsFrom tells base host limit old new before after (by_making result)
      fed result c = record { ending = ends_by result c; others = c.others; disk_later = c.ends.later; source_later = reads.later }

      -- the files aren't initialised now either
      pub still_shut : (fault : CreateFromFault) → CreatesFrom tells base host (start_of has.makes) old new (Err fault) → IsTrue tells → IsErrOf {T = Unit {0}} (Err (fault_of_making fault)) Initialised → ⊥
      still_shut makings.Initialised c told is = shut told (c.answer told)
      still_shut makings.DiskFault c told is = cc
      still_shut makings.NoMemory c told is = cc

-- ---- behind a look at file 0

module _ (tells : Bool) (old mid : DiskSeen) (looked : IsTrue tells → EachMoment (Unchanged old.moments.now) old.moments mid.moments) (reads : mid.changes ≡ old.changes) (later : NeverFell old.faults mid.faults) where
  same : IsTrue tells → mid.moments.now ≡ old.moments.now
  same told = last_moment (looked told)

  pub only_looked : OnlyReads tells old mid
  only_looked = record { reads = reads; unchanged = looked }

  pub looked_from : IsTrue tells → EachMoment (LeavesFrom 2 old.moments.now) old.moments mid.moments
  looked_from told = weaken (LeavesFrom 2 old.moments.now) (λ files so. λ file low. ap (λ (f : Files). f file) so) (looked told)

  pub shut_still : (IsTrue tells → IsUninitialised (bytes_in old 0)) → IsTrue tells → IsUninitialised (bytes_in mid 0)
  shut_still shut told = subst (λ (f : Files). IsUninitialised (f 0).bytes) (sym (same told)) (shut told)

  module _ (new : DiskSeen) where
    only_behind : OnlyReads tells mid new → OnlyReads tells old new
    only_behind only = record { reads = only.reads ∙ reads; unchanged = λ told. unchanged_then (looked told) (only.unchanged told) }

    shut_before : (IsTrue tells → IsUninitialised (bytes_in mid 0)) → IsTrue tells → IsUninitialised (bytes_in old 0)
    shut_before shut told = subst (λ (f : Files). IsUninitialised (f 0).bytes) (same told) (shut told)

    failed_behind : HasFailed mid new → HasFailed old new
    failed_behind has = record { last = has.last; rose = stayed_then_Rose old.faults mid.faults new.faults later has.rose }

    module _ (base : Base) (host : List ℕ) where
      crashes_behind : (list : Log) → CrashesBegin tells base host list mid new → CrashesBegin tells base host list old new
      crashes_behind list begins = λ told empty text is.
          join (looked_begun (begun_from base host list text) old.moments mid.moments empty (looked told))
          (begins told (subst (λ (f : Files). IsEmpty (f 0)) (sym (same told)) empty) text is)

      module _ (limit : ℕ) (before after : SourceSeen) where
        ends_behind : (result : Result (Unit {0}) StartFault) → StartEnds tells base host limit mid new before after result → StartEnds tells base host limit old new before after result
        ends_behind _ (made makes read shut stands crashes) = made makes read (shut_before shut) stands (crashes_behind (start_of makes) crashes)
        ends_behind _ (broken makes read has crashes) = broken makes read (failed_behind has) (crashes_behind (start_of makes) crashes)
        ends_behind _ (unread has only same) = unread (failed_behind has) (only_behind only) same
        ends_behind _ (stays is only) = stays (λ told. subst (λ (f : Files). IsInitialised (f 0).bytes) (same told) (is told)) (only_behind only)
        ends_behind _ (no_snapshot fault read shut only) = no_snapshot fault read (shut_before shut) (only_behind only)
        ends_behind _ (no_memory shut only) = no_memory (shut_before shut) (only_behind only)

        pub behind : (result : Result (Unit {0}) StartFault) → StartsFrom tells base host limit mid new before after result → StartsFrom tells base host limit old new before after result
        behind result s = record {
          ending = ends_behind result s.ending;
          others = λ told. join (looked_from told) (weaken (LeavesFrom 2 old.moments.now) (λ files so. λ file low. so file low ∙ ap (λ (f : Files). f file) (same told)) (s.others told));
          disk_later = NeverFell_trans old.faults mid.faults new.faults later s.disk_later;
          source_later = s.source_later;
        }
