-- Calls that only read the disk, one after the other.
use Rattle.std.proofs.Common.{◌≡◌, ◌≢◌, inl, inr, ℕ, Bool, refl, sym, ◌∙◌, ap, subst, arith}
use Rattle.std.specs.Prelude.{Result, Ok, Err, IsTrue, IsFalse, IsErrAnd}
use Rattle.fault_counts.specs.Faults.{Faults, NeverFell, Rose}
use Rattle.disk_model.specs.Moments.{Files, EachMoment, start}
use Rattle.disk_model.specs.Changes.{Unchanged}
use Rattle.disk_model.specs.DiskSeen.{DiskSeen, IsCall, HasFailed, NoneFailed, bytes_in}
use Rattle.disk_model.specs.declared.disk.Failed.{Failed}
use Rattle.disk_model.proofs.MomentLemmas.{last_moment}
use Rattle.gate_journal.proofs.ReadLemmas.{unchanged_then}
use Rattle.image_files.specs.declared.fault.ReadFault.{ReadFault}
use Rattle.image_files.specs.declared.fault.ReadFault.TheVariants.{DiskFault}
use Rattle.image_files.specs.Reading.{OnlyReads}
use Rattle.image_files.proofs.SaveLemmas.{on_ok}

-- no write and no cut was asked for, and no file has changed
pub record Quiet (tells : Bool) (old new : DiskSeen) : Type 0 where
  pub unchanged : IsTrue tells → EachMoment (Unchanged old.moments.now) old.moments new.moments
  pub later : NeverFell old.faults new.faults
  pub reads : new.changes ≡ old.changes

-- ---- one call

pub quiet_start : (tells : Bool) (disk : DiskSeen) → Quiet tells disk disk
quiet_start tells disk = record { unchanged = λ told. start refl; later = record { count = omega arith; at_limit = λ h. h }; reads = refl }

pub quiet_call : {T : Type 0} (tells : Bool) (old new : DiskSeen) (result : Result T Failed) → (IsTrue tells → EachMoment (Unchanged old.moments.now) old.moments new.moments)
    → IsCall old.changes old new result → Quiet tells old new
quiet_call tells old new result time call = record { unchanged = time; later = call.ends.later; reads = call.changes_are }

pub quiet_of : {T : Type 0} (tells : Bool) (old new : DiskSeen) (result : Result T ReadFault) → OnlyReads tells old new result → Quiet tells old new
quiet_of tells old new result only = record { unchanged = only.unchanged; later = only.ends.later; reads = only.reads }

-- ---- two

fell_then : {old mid new : Faults} → NeverFell old mid → NeverFell mid new → NeverFell old new
fell_then first second = record { count = omega (arith, first.count, second.count); at_limit = λ h. second.at_limit (first.at_limit h) }

rose_since : {old mid new : Faults} → NeverFell old mid → Rose mid new → Rose old new
rose_since first (inl more) = inl (omega (arith, first.count, more))
rose_since first (inr last) = inr last

failed_since : {old mid new : DiskSeen} → NeverFell old.faults mid.faults → HasFailed mid new → HasFailed old new
failed_since first failed = record { last = failed.last; rose = rose_since first failed.rose }

module _ (tells : Bool) (old mid new : DiskSeen) (first : Quiet tells old mid) where
  pub quiet_then : Quiet tells mid new → Quiet tells old new
  quiet_then second = record {
    unchanged = λ told. unchanged_then (first.unchanged told) (second.unchanged told);
    later = fell_then first.later second.later;
    reads = second.reads ∙ first.reads;
  }

  -- a fault that came behind it
  pub fault_then : {T : Type 0} (fault : ReadFault) → OnlyReads {T = T} tells mid new (Err fault) → OnlyReads {T = T} tells old new (Err fault)
  fault_then fault only = record {
    unchanged = λ told. unchanged_then (first.unchanged told) (only.unchanged told);
    ends = record {
      later = fell_then first.later only.ends.later;
      worked = tt;
      none = tt;
      failed = λ is. failed_since first.later (only.ends.failed is);
    };
    reads = only.reads ∙ first.reads;
  }

  -- a file is as it was
  pub bytes_same : (file : ℕ) → IsTrue tells → bytes_in old file ≡ bytes_in mid file
  bytes_same file told = ap (λ (files : Files). (files file).bytes) (sym (last_moment (first.unchanged told)))

-- ---- what came of it

module _ {T : Type 0} (tells : Bool) (old new : DiskSeen) (quiet : Quiet tells old new) where
  pub only_ok : (value : T) → IsFalse new.failed → NoneFailed old new → OnlyReads tells old new (Ok value)
  only_ok value worked none = record { unchanged = quiet.unchanged; ends = record { later = quiet.later; worked = worked; none = none; failed = λ is. absurd cc }; reads = quiet.reads }

  pub only_other : (fault : ReadFault) → fault ≢ DiskFault → OnlyReads {T = T} tells old new (Err fault)
  only_other fault other =
      record { unchanged = quiet.unchanged; ends = record { later = quiet.later; worked = tt; none = tt; failed = λ is. absurd (other cc) }; reads = quiet.reads }

  -- the last call worked and none failed before it, and whatever fault came is none of the disk
  pub only_since : (result : Result T ReadFault) → IsFalse new.failed → NoneFailed old new → (result ≡ Err DiskFault → ⊥) → OnlyReads tells old new result
  only_since result worked none not =
      record { unchanged = quiet.unchanged; ends = record { later = quiet.later; worked = on_ok result worked; none = on_ok result none; failed = λ is. absurd (not is) }; reads = quiet.reads }

-- the same fault, in the place of another value
pub only_fault : {T U : Type 0} (tells : Bool) (old new : DiskSeen) (fault : ReadFault) → OnlyReads {T = T} tells old new (Err fault) → OnlyReads {T = U} tells old new (Err fault)
only_fault tells old new fault only =
    record { unchanged = only.unchanged; ends = record { later = only.ends.later; worked = tt; none = tt; failed = λ is. only.ends.failed (ap (λ (f : ReadFault). Err f) cc) }; reads = only.reads }

-- a fault that was passed on
pub as_fault : {T : Type 0} (P : Result T ReadFault → Type 0) (result : Result T ReadFault) (fault : ReadFault) → IsErrAnd result (λ e. e ≡ fault) → P (Err fault) → P result
as_fault P (Ok value) fault passed holds = absurd passed
as_fault P (Err e) fault passed holds = subst (λ (f : ReadFault). P (Err f)) (sym passed) holds
