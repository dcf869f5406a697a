-- What the code answers, by the steps of the grammar.
use Rattle.std.specs.Prelude.{◌≡◌, ◌≢◌, ◌⊎◌, ◌<◌, List, [], ℕ, ◌++◌, Option, Some, None, Result, Ok, Err}
use Rattle.std.specs.Borrow.{Bor}
use Rattle.undo_records.specs.declared.fault.FaultKind.{FaultKind}
use Rattle.undo_records.specs.declared.fault.FaultKind.TheVariants.{Cut}
use Rattle.undo_records.specs.declared.fault.Stop.{Stop}
use Rattle.undo_records.specs.declared.fault.Stop.TheVariants.{At, NoMemory}
use Rattle.image_grammar.specs.Resuming.{EndsEarly}
use Rattle.image_grammar.specs.Stages.{step_from}
use Rattle.image_grammar.specs.Work.{work_left}
use Rattle.state_image.specs.Standing.{stage_of, standing}
use Rattle.state_image.specs.Versioned.{left_from}
use Rattle.state_image.specs.declared.next.Next.TheVariants.{Names}
use Rattle.state_image.specs.declared.reading.Reading.{Reading}

-- the fault, unless the bytes end too early
abbrev pub IsFaultOf : FaultKind → List ℕ → Result (Option (Bor (List ℕ))) Stop → Type 0
IsFaultOf kind rest (Ok (Some after)) = ⊥
IsFaultOf kind rest (Ok None) = kind ≡ Cut
IsFaultOf kind rest (Err (At fault)) = (fault.kind ≡ kind) × (fault.rest.now ≡ rest) × (kind ≢ Cut)
IsFaultOf kind rest (Err NoMemory) = ⊥

-- one step was taken, or more bytes are needed for it, or there is a fault
abbrev pub Turns : Reading → List ℕ → Reading → Result (Option (Bor (List ℕ))) Stop → Type 0
Turns old bytes new (Ok (Some rest)) = step_from (standing old) bytes ≡ Ok (standing new, rest.now)
Turns old bytes new (Ok None) = (new ≡ old) × EndsEarly (step_from (standing old) bytes)
Turns old bytes new (Err (At fault)) = (step_from (standing old) bytes ≡ Err (fault.kind, fault.rest.now)) × (fault.kind ≢ Cut)
Turns old bytes new (Err NoMemory) = Unit {0}

-- ---- whatever follows

-- the rest is read from here on as it would have been read from there on
abbrev pub GoesOn : Reading → List ℕ → Reading → List ℕ → Type 0
GoesOn old bytes new rest = (more : List ℕ) → left_from (standing old) (bytes ++ more) ≡ left_from (standing new) (rest ++ more)

-- this is the first fault
abbrev pub StopsAt : Reading → List ℕ → FaultKind → List ℕ → Type 0
StopsAt old bytes kind rest = (more : List ℕ) → left_from (standing old) (bytes ++ more) ≡ Err (kind, rest ++ more)

-- the bytes end too early for the next value, or all was read
abbrev pub Waits : Reading → List ℕ → Type 0
Waits r bytes = ((r.next ≡ Names 0) × (bytes ≡ [])) ⊎ EndsEarly (left_from (standing r) bytes)

-- a step was taken, or more bytes are needed, or there is a fault
abbrev pub Steps : Reading → List ℕ → Reading → Result (Option (Bor (List ℕ))) Stop → Type 0
Steps old bytes new (Ok (Some rest)) = GoesOn old bytes new rest.now × (work_left (stage_of new.next) rest.now < work_left (stage_of old.next) bytes)
Steps old bytes new (Ok None) = (new ≡ old) × Waits old bytes
Steps old bytes new (Err (At fault)) = StopsAt old bytes fault.kind fault.rest.now × (fault.kind ≢ Cut)
Steps old bytes new (Err NoMemory) = Unit {0}

-- all whole values were read, or there is a fault
abbrev pub ReadsOn : Reading → List ℕ → Reading → Result (Bor (List ℕ)) Stop → Type 0
ReadsOn old bytes new (Ok rest) = GoesOn old bytes new rest.now × Waits new rest.now
ReadsOn old bytes new (Err (At fault)) = StopsAt old bytes fault.kind fault.rest.now × (fault.kind ≢ Cut)
ReadsOn old bytes new (Err NoMemory) = Unit {0}
