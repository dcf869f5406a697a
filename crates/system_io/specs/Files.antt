-- What one call of the system does to a file.
use Rattle.std.specs.Prelude.{◌≡◌, ℕ, ◌+◌, ◌-◌, ◌<◌, ◌≤◌, Bool, IsTrue, List, length, take, drop, Result, OnOk, IfOk, IfErr}
use Rattle.std.specs.declared.io.ErrorKind.TheVariants as kinds
use Rattle.std.specs.declared.io.Error.{Error}
use Rattle.std.specs.IoError.{error_kind}
use Rattle.disk_model.specs.FileState.{IsSettled, put}
use Rattle.disk_model.specs.Moments.{Moments, EachMoment}
use Rattle.disk_model.specs.Changes.{Changes, AfterWrite, AfterCut, AfterSync, Unchanged}

-- what reads of the file give
abbrev pub holds : Moments → ℕ → List ℕ
holds m file = (m.now file).bytes

-- a length was asked for
pub record Tells {E : Type 0} (tells : Bool) (file : ℕ) (old new : Moments) (result : Result ℕ E) : Type 0 where
  pub size : IsTrue tells → IfOk result (λ n. n ≡ length (holds old file))
  pub time : IsTrue tells → EachMoment (Unchanged old.now) old new

-- n bytes of those from a position on stand at the front of the buffer. None do only at the end, or where it has no room
pub record IsPart (bytes : List ℕ) (at n : ℕ) (into : List ℕ) : Type 0 where
  pub within : n ≤ length bytes - at
  pub same : take n into ≡ take n (drop at bytes)
  pub ended : n ≡ 0 → 0 < length into → length bytes ≤ at

-- a read at a position left these bytes in the buffer
pub record ReadsPart {E : Type 0} (tells : Bool) (file at : ℕ) (into : List ℕ) (old new : Moments) (result : Result ℕ E) : Type 0 where
  pub bound : IfOk result (λ n. n ≤ length into)
  pub bytes : IsTrue tells → IfOk result (λ n. IsPart (holds old file) at n into)
  pub time : IsTrue tells → EachMoment (Unchanged old.now) old new

-- Some bytes from the front of these were written at a position. What reads give after a write that failed is not said, but where
-- a signal interrupted it.
pub record WritesPart (tells : Bool) (file at : ℕ) (bytes : List ℕ) (old new : Moments) (result : Result ℕ Error) : Type 0 where
  pub bound : IfOk result (λ n. n ≤ length bytes)
  pub written : IsTrue tells → IfOk result (λ n. holds new file ≡ put (holds old file) at (take n bytes))
  pub interrupted : IsTrue tells → IfErr result (λ e. error_kind e ≡ kinds.Interrupted → holds new file ≡ holds old file)
  pub time : IsTrue tells → EachMoment (Changes file (AfterWrite at (length bytes)) old.now) old new

-- the file was cut to this length
pub record Cuts {T E : Type 0} (tells : Bool) (file size : ℕ) (old new : Moments) (result : Result T E) : Type 0 where
  pub cut : IsTrue tells → OnOk result (holds new file ≡ take size (holds old file))
  pub time : IsTrue tells → EachMoment (Changes file (AfterCut size) old.now) old new

-- the file was synced
pub record Settles {T E : Type 0} (tells : Bool) (file : ℕ) (old new : Moments) (result : Result T E) : Type 0 where
  pub settled : IsTrue tells → OnOk result (IsSettled (new.now file))
  pub same : IsTrue tells → OnOk result (holds new file ≡ holds old file)
  pub time : IsTrue tells → EachMoment (Changes file AfterSync old.now) old new

-- ---- several calls in a row

-- so many bytes were read from a position on, in one call or several, and nothing was changed
pub record HasRead (tells : Bool) (file at count : ℕ) (into : List ℕ) (old new : Moments) : Type 0 where
  pub bound : count ≤ length into
  pub within : IsTrue tells → count ≤ length (holds old file) - at
  pub same : IsTrue tells → take count into ≡ take count (drop at (holds old file))
  pub time : IsTrue tells → EachMoment (Unchanged old.now) old new

-- so many bytes of these were written at a position, in one call or several
pub record HasWritten (tells : Bool) (file at count : ℕ) (bytes : List ℕ) (old new : Moments) : Type 0 where
  pub bound : count ≤ length bytes
  pub written : IsTrue tells → holds new file ≡ put (holds old file) at (take count bytes)
  pub time : IsTrue tells → EachMoment (Changes file (AfterWrite at (length bytes)) old.now) old new

-- So many bytes of these were written at a position, in one call or several, and none at the greatest length that a write may give a file
-- or behind it. That stays as it is.
pub record WritesOn (tells : Bool) (file at count : ℕ) (bytes : List ℕ) (old new : Moments) (limit new_limit : ℕ) : Type 0 where
  pub has : HasWritten tells file at count bytes old new
  pub limit_is : new_limit ≡ limit
  pub below : 0 < count → at + count ≤ limit
