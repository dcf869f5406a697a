-- What the code answers where a reading stands behind these makes.
use Rattle.std.specs.Prelude.{◌≡◌, ◌≢◌, ℕ, zero, suc, ◌<◌, List, [], ◌++◌, slice_index, Option, Some, None, Result, Ok, Err}
use Rattle.std.specs.Borrow.{Bor}
use Rattle.nmc_base.specs.declared.chain_ends.Base.{Base}
use Rattle.undo_records.specs.declared.fault.FaultKind.{FaultKind}
use Rattle.undo_records.specs.declared.fault.FaultKind.TheVariants.{Cut}
use Rattle.undo_records.specs.declared.fault.Stop.{Stop}
use Rattle.undo_records.specs.declared.fault.Stop.TheVariants.{At, NoMemory}
use Rattle.undo_records.specs.Reading.{Reads}
use Rattle.name_snapshot.specs.Reading.{head_from, next_from}
use Rattle.name_snapshot.specs.Standing.{IsBehind, left_from}
use Rattle.name_snapshot.specs.Text.{StartMake}
use Rattle.name_snapshot.specs.declared.next.Next.{Next}
use Rattle.name_snapshot.specs.declared.next.Next.TheVariants.{Head, Makes}
use Rattle.name_snapshot.specs.declared.reading.Reading.{Reading}

-- the fault, unless the bytes end too early
abbrev pub IsFaultOf : FaultKind → List ℕ → Result (Option (Bor (List ℕ))) Stop → Type 0
IsFaultOf kind rest (Ok (Some after)) = ⊥
IsFaultOf kind rest (Ok None) = kind ≡ Cut
IsFaultOf kind rest (Err (At fault)) = (fault.kind ≡ kind) × (fault.rest.now ≡ rest) × (kind ≢ Cut)
IsFaultOf kind rest (Err NoMemory) = ⊥

abbrev pub AreBytes : List ℕ → Type 0
AreBytes bytes = (i : ℕ) → slice_index bytes i < 256

-- the reading stands behind these makes now, and whatever follows is read from here on as it would have been from there on
pub record GoesOn (below : List StartMake) (old : Reading) (bytes : List ℕ) (new : Reading) (rest : List ℕ) : Type 0 where
  pub base : new.base ≡ old.base
  pub now : List StartMake
  pub behind : IsBehind now new
  pub bytes_are : AreBytes bytes → AreBytes rest
  pub goes : (more : List ℕ) → left_from old.base old.next below (bytes ++ more) ≡ left_from new.base new.next now (rest ++ more)

-- this is the first fault, and it isn't the end of the bytes
abbrev pub StopsAt : List StartMake → Reading → List ℕ → FaultKind → List ℕ → Type 0
StopsAt below old bytes kind rest = (left_from old.base old.next below bytes ≡ Err (kind, rest)) × (kind ≢ Cut)

-- the bytes end too early for this
abbrev pub EndsEarly : {A : Type 0} → Reads A → List ℕ → Type 0
EndsEarly read bytes = (rest : List ℕ) × (read bytes ≡ Err (Cut, rest))

-- the bytes end too early for what comes next, or all was read
abbrev pub WaitsAt : Base → Next → List StartMake → List ℕ → Type 0
WaitsAt base Head below bytes = EndsEarly head_from bytes
WaitsAt base (Makes zero) below bytes = bytes ≡ []
WaitsAt base (Makes (suc left)) below bytes = EndsEarly (next_from base below) bytes

abbrev pub Waits : List StartMake → Reading → List ℕ → Type 0
Waits below r bytes = WaitsAt r.base r.next below bytes

-- a step was taken, or more bytes are needed, or there is a fault
abbrev pub Steps : List StartMake → Reading → List ℕ → Reading → Result (Option (Bor (List ℕ))) Stop → Type 0
Steps below old bytes new (Ok (Some rest)) = GoesOn below old bytes new rest.now
Steps below old bytes new (Ok None) = (new ≡ old) × Waits below old bytes
Steps below old bytes new (Err (At fault)) = StopsAt below old bytes fault.kind fault.rest.now
Steps below old bytes new (Err NoMemory) = Unit {0}

-- where all that is whole was read
pub record ReadsOn (below : List StartMake) (old : Reading) (bytes : List ℕ) (new : Reading) (rest : List ℕ) : Type 0 where
  pub on : GoesOn below old bytes new rest
  pub waits : Waits on.now new rest

-- all that is whole was read, or there is a fault
abbrev pub ReadsWhole : List StartMake → Reading → List ℕ → Reading → Result (Bor (List ℕ)) Stop → Type 0
ReadsWhole below old bytes new (Ok rest) = ReadsOn below old bytes new rest.now
ReadsWhole below old bytes new (Err (At fault)) = StopsAt below old bytes fault.kind fault.rest.now
ReadsWhole below old bytes new (Err NoMemory) = Unit {0}
