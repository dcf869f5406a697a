-- What an answer tells.
use Rattle.std.proofs.Common.{◌≡◌, Bool, true, false, sym, true≢false}
use Rattle.std.specs.Prelude.{Result, Ok, Err}
use Rattle.nmc_base.specs.declared.no_memory.NoMemory.{NoMemory}
use Rattle.states_below.specs.Scan.{TellsWhether}

-- the same question in other words
pub tells_as : (P Q : Type 0) (result : Result Bool NoMemory) → (P → Q) → (Q → P) → TellsWhether P result → TellsWhether Q result
tells_as P Q (Ok true) to from told = to told
tells_as P Q (Ok false) to from told = λ q. told (from q)
tells_as P Q (Err e) to from told = tt

pub told_yes : (P : Type 0) (b : Bool) → TellsWhether P (Ok b) → b ≡ true → P
told_yes P true told e = told
told_yes P false told e = absurd (true≢false (sym e))

pub told_no : (P : Type 0) (b : Bool) → TellsWhether P (Ok b) → b ≡ false → P → ⊥
told_no P true told e p = true≢false e
told_no P false told e p = told p
