-- What contracts see of the port in memory.
use Rattle.std.specs.Prelude.{◌≡◌, ℕ, Bool, true, false, if◌then◌else◌, List, [], ◌∷◌, ◌++◌, drop, Option, Some, None}
use Rattle.fault_counts.specs.Counts.{Counts, after_refusal, faults_of, fresh_counts, is_next_listed}
use Rattle.byte_io.specs.Port.{Got, nothing, fault, Note, PortSeen}

-- the notes of its calls, and whether each call found memory for its note
pub record Log : Type 0 where
  pub notes : List Note
  pub is_whole : Bool

-- the polls that were added and not polled yet; the notes; the numbers that it is bound to; what its calls came to
pub record PortView : Type 0 where
  pub coming : List Got
  pub log : Log
  pub bound : Option (ℕ × ℕ)
  pub counts : Counts

-- before any call
abbrev pub fresh_port : List ℕ → PortView
fresh_port fail = record { coming = []; log = record { notes = []; is_whole = true }; bound = None; counts = fresh_counts fail }

-- it tells its notes as long as each call found memory for its note
abbrev pub told : Log → Option (List Note)
told log = if log.is_whole then Some log.notes else None

abbrev pub memory_seen : PortView → PortSeen
memory_seen s = record { bound = s.bound; notes = told s.log; faults = faults_of s.counts }

-- one more note; once a call found no memory for its note, none is noted any more
abbrev pub noted : Log → Note → Log
noted log note = if log.is_whole then record { notes = log.notes ++ note ∷ []; is_whole = true } else log

-- the notes, where the last of them was lost: none is noted any more
abbrev pub cut_short : Log → Log
cut_short log = record { notes = log.notes; is_whole = false }

abbrev pub Logs : (old new : Log) → Note → (is_noted : Bool) → Type 0
Logs old new note true = new ≡ noted old note
Logs old new note false = new ≡ cut_short old

-- the call is noted, and the calls came to this; or there was no memory for its note, which counts as a refusal
pub data NotedOrRefused (old new : PortView) (note : Note) (calls : Counts) : Type 0 where
  is_noted : new.log ≡ noted old.log note → new.counts ≡ calls → NotedOrRefused old new note calls
  is_refused : new.log ≡ cut_short old.log → new.counts ≡ after_refusal calls → NotedOrRefused old new note calls

-- what the next poll brings: a fault where its number is listed, or else the first that comes; past the last, nothing
abbrev pub first_coming : List Got → Got
first_coming [] = nothing
first_coming (got ∷ coming) = got

abbrev pub next_got : PortView → Got
next_got s = if is_next_listed s.counts then fault else first_coming s.coming

-- what comes after the next poll. One that fails takes none
abbrev pub left_coming : PortView → List Got
left_coming s = if is_next_listed s.counts then s.coming else drop 1 s.coming

-- a call was noted. From then on these polls come, and the calls came to this
pub record IsNoted (old new : PortView) (note : Note) (left : List Got) (calls : Counts) : Type 0 where
  pub coming : new.coming ≡ left
  pub bound : new.bound ≡ old.bound
  pub noted_or_refused : NotedOrRefused old new note calls
