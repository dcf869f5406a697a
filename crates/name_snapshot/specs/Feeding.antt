-- What a snapshot's reader was fed.
use Rattle.std.specs.Prelude.{◌≡◌, ℕ, ◌-◌, ◌<◌, ◌≤◌, ◌^◌, zero, List, ◌++◌, length, Option, Some, None, Result, Ok, Err}
use Rattle.nmc_base.specs.declared.chain_ends.Base.{Base}
use Rattle.nmc_base.specs.Heights.{highest}
use Rattle.undo_records.specs.declared.fault.FaultKind.{FaultKind}
use Rattle.name_snapshot.specs.Faults.{HasFault}
use Rattle.name_snapshot.specs.Reading.{snapshot_from}
use Rattle.name_snapshot.specs.Standing.{IsBehind, left_from}
use Rattle.name_snapshot.specs.Text.{StartMake}
use Rattle.name_snapshot.specs.Turning.{AreBytes, StopsAt, Waits, ReadsOn}
use Rattle.name_snapshot.specs.declared.fault.SnapshotFault.{SnapshotFault}
use Rattle.name_snapshot.specs.declared.fault.SnapshotFault.TheVariants.{Bad, NoMemory}
use Rattle.name_snapshot.specs.declared.next.Next.{Next}
use Rattle.name_snapshot.specs.declared.next.Next.TheVariants.{Makes}
use Rattle.name_snapshot.specs.declared.reading.Reading.{Reading}

pub record Feeding : Type 0 where
  pub base : Base
  pub reading : Reading
  -- the bytes that were held back
  pub pending : List ℕ
  -- how many bytes were fed
  pub fed : ℕ
  pub stop : Option SnapshotFault

abbrev pub feeding_of : Reading → List ℕ → ℕ → Option SnapshotFault → Feeding
feeding_of reading pending fed stop = record { base = reading.base; reading = reading; pending = pending; fed = fed; stop = stop }

-- This text was fed, which has no fault but perhaps its end: whatever follows, the text is read as what is held back, from where
-- the reading stands.
pub record HasRead (text : List ℕ) (s : Feeding) : Type 0 where
  pub bytes : AreBytes text
  pub fed : s.fed ≡ length text
  pub no_stop : s.stop ≡ None
  pub below : List StartMake
  pub behind : IsBehind below s.reading
  pub goes_on : (more : List ℕ) → snapshot_from s.base (text ++ more) ≡ left_from s.base s.reading.next below (s.pending ++ more)
  pub waits : Waits below s.reading s.pending
  pub held_bytes : AreBytes s.pending
  pub open_end : (at : ℕ) → HasFault s.base text at → at ≡ length text

-- This text was fed, and the fault is kept that it shows: each text that begins so has its first fault at this place.
pub record HasStopped (text : List ℕ) (s : Feeding) (at : ℕ) : Type 0 where
  pub stop : s.stop ≡ Some (Bad at)
  pub bad : (more : List ℕ) → HasFault s.base (text ++ more) at

-- after one piece more; where memory ran out there is none any more
abbrev pub Takes : List ℕ → Feeding → Result (Unit {0}) SnapshotFault → Type 0
Takes text s (Ok done) = HasRead text s
Takes text s (Err (Bad at)) = HasStopped text s at
Takes text s (Err NoMemory) = s.stop ≡ Some NoMemory

-- the base is no higher than a chain may be; and unless the reading stopped, some text was fed
pub record IsFeeding (s : Feeding) : Type 0 where
  pub low : s.base.height ≤ highest
  pub within : s.fed < 2 ^ 64
  pub reads : s.stop ≡ None → (text : List ℕ) × HasRead text s

-- reading on stops at a fault, so many bytes before the end of what was fed
pub record StopsShort (below : List StartMake) (old : Reading) (bytes : List ℕ) (fed at : ℕ) : Type 0 where
  pub kind : FaultKind
  pub rest : List ℕ
  pub stops : StopsAt below old bytes kind rest
  pub at_is : at ≡ fed - length rest

-- what is held back and a piece behind it are read on, or there is a fault
abbrev pub TakesOn : List StartMake → Reading → List ℕ → ℕ → Reading → List ℕ → Result (Unit {0}) SnapshotFault → Type 0
TakesOn below old bytes fed new pending (Ok done) = ReadsOn below old bytes new pending
TakesOn below old bytes fed new pending (Err (Bad at)) = StopsShort below old bytes fed at
TakesOn below old bytes fed new pending (Err NoMemory) = Unit {0}

abbrev pub stop_of : Result (Unit {0}) SnapshotFault → Option SnapshotFault
stop_of (Ok done) = None
stop_of (Err fault) = Some fault

-- the end of what was fed is a fault, unless all was read
abbrev pub fault_unless : Next → ℕ → Option SnapshotFault
fault_unless (Makes zero) fed = None
fault_unless next fed = Some (Bad fed)

abbrev pub fault_or : Option SnapshotFault → Option SnapshotFault → Option SnapshotFault
fault_or None other = other
fault_or (Some fault) other = Some fault

abbrev pub fault_at : Feeding → Option SnapshotFault
fault_at s = fault_or s.stop (fault_unless s.reading.next s.fed)
