-- What a loader was fed.
use Rattle.std.specs.Prelude.{◌≡◌, ◌≢◌, ℕ, zero, ◌-◌, ◌<◌, ◌≤◌, ◌^◌, List, ◌++◌, length, slice_index, Option, Some, None, Result, Ok, Err}
use Rattle.undo_records.specs.declared.fault.FaultKind.{FaultKind}
use Rattle.undo_records.specs.declared.fault.FaultKind.TheVariants.{Cut}
use Rattle.image_grammar.specs.Stages.{image_from}
use Rattle.state_image.specs.Answers.{IsDamaged}
use Rattle.state_image.specs.Standing.{standing, IsKept}
use Rattle.state_image.specs.Turning.{GoesOn, StopsAt, Waits}
use Rattle.state_image.specs.Versioned.{left_from, read_from}
use Rattle.state_image.specs.declared.fault.ImageFault.{ImageFault}
use Rattle.state_image.specs.declared.fault.ImageFault.TheVariants.{Damaged, NoMemory}
use Rattle.state_image.specs.declared.next.Next.{Next}
use Rattle.state_image.specs.declared.next.Next.TheVariants.{Names}
use Rattle.state_image.specs.declared.reading.Reading.{Reading}

pub record Loading : Type 0 where
  pub reading : Reading
  -- the bytes that were held back
  pub pending : List ℕ
  -- how many bytes were fed, and how many are to come in all
  pub fed : ℕ
  pub total : ℕ
  pub stop : Option ImageFault

abbrev pub loading_of : Reading → List ℕ → ℕ → ℕ → Option ImageFault → Loading
loading_of reading pending fed total stop = record { reading = reading; pending = pending; fed = fed; total = total; stop = stop }

-- The loader was fed this text, which has no fault but perhaps its end: whatever follows, the text is read as what is held
-- back, from where the reading stands.
pub record HasRead (text : List ℕ) (l : Loading) : Type 0 where
  pub bytes : (i : ℕ) → slice_index text i < 256
  pub fed : l.fed ≡ length text
  pub no_fault : l.stop ≡ None
  pub goes_on : (more : List ℕ) → read_from (text ++ more) ≡ left_from (standing l.reading) (l.pending ++ more)
  pub waits : Waits l.reading l.pending
  pub kept : IsKept l.reading
  pub open_end : (kind : FaultKind) (rest : List ℕ) → read_from text ≡ Err (kind, rest) → kind ≡ Cut

-- reading the text stops at this place, which is that of a fault of its own whatever follows
pub record ShowsFault (text : List ℕ) (at : ℕ) : Type 0 where
  pub kind : FaultKind
  pub rest : List ℕ
  pub stops : (more : List ℕ) → image_from (text ++ more) ≡ Err (kind, rest ++ more)
  pub other : kind ≢ Cut
  pub at_is : at ≡ length text - length rest

-- The loader was fed this text, and keeps the fault that it shows: no text that begins so is that of a sound state, and this is
-- the place.
pub record HasStopped (text : List ℕ) (l : Loading) (at : ℕ) : Type 0 where
  pub stop : l.stop ≡ Some (Damaged at)
  pub shows : ShowsFault text at
  pub damaged : (more : List ℕ) → IsDamaged (text ++ more) at

-- after one piece more; a loader without memory has none any more
abbrev pub Takes : List ℕ → Loading → Result (Unit {0}) ImageFault → Type 0
Takes text l (Ok done) = HasRead text l
Takes text l (Err (Damaged at)) = HasStopped text l at
Takes text l (Err NoMemory) = l.stop ≡ Some NoMemory

-- what each loader keeps: unless it stopped, some text was fed
pub record IsLoading (l : Loading) : Type 0 where
  pub few : l.total ≤ 2 ^ 37
  pub within : l.fed ≤ l.total
  pub reads : l.stop ≡ None → (text : List ℕ) × HasRead text l

-- reading on stops at a fault, so many bytes before the end of what was fed
pub record StopsShort (old : Reading) (bytes : List ℕ) (fed at : ℕ) : Type 0 where
  pub kind : FaultKind
  pub rest : List ℕ
  pub stops : StopsAt old bytes kind rest
  pub other : kind ≢ Cut
  pub at_is : at ≡ fed - length rest

-- what is held back and a piece behind it are read on, or there is a fault
abbrev pub TakesOn : Reading → List ℕ → ℕ → Reading → List ℕ → Result (Unit {0}) ImageFault → Type 0
TakesOn old bytes fed new pending (Ok done) = GoesOn old bytes new pending × Waits new pending × IsKept new
TakesOn old bytes fed new pending (Err (Damaged at)) = StopsShort old bytes fed at
TakesOn old bytes fed new pending (Err NoMemory) = Unit {0}

abbrev pub stop_of : Result (Unit {0}) ImageFault → Option ImageFault
stop_of (Ok done) = None
stop_of (Err fault) = Some fault

-- the end of what was fed is a fault, unless all was read
abbrev pub fault_unless : Next → ℕ → Option ImageFault
fault_unless (Names zero) fed = None
fault_unless next fed = Some (Damaged fed)

abbrev pub fault_or : Option ImageFault → Option ImageFault → Option ImageFault
fault_or None other = other
fault_or (Some fault) other = Some fault

abbrev pub fault_at : Loading → Option ImageFault
fault_at l = fault_or l.stop (fault_unless l.reading.next l.fed)
