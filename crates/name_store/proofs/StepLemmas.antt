-- The steps of making the files.
use Rattle.std.proofs.Common.{◌≡◌, ℕ, ◌+◌, ◌<◌, List, [], ◌∷◌, ◌++◌, length, ◌∙◌, ap, arith}
use Rattle.std.specs.Prelude.{Result, Ok, Err, OnOk}
use Rattle.std.proofs.lemmas.List.{append-nil, drop_all}
use Rattle.disk_model.specs.FileState.{FileState, IsSettled, put}
use Rattle.disk_model.specs.Moments.{Files, Moments, EachMoment}
use Rattle.disk_model.specs.Changes.{Changes, AfterWrite, AfterCut, AfterSync, LeavesOthers, LeavesFrom, Unchanged}
use Rattle.disk_model.proofs.MomentLemmas.{weaken, join, last_moment}
use Rattle.gate_journal.specs.Writes.{KeepsBelow}
use Rattle.gate_journal.proofs.WriteLemmas.{changes_then, KeepsBelow-sync}
use Rattle.name_store.specs.MakingSteps.{HasSettled, IsShort}

-- ---- what a call leaves of the other files

pub others_then : {P : Files → Type 0} {old mid new : Moments} (file : ℕ) → ((files : Files) → P files → LeavesOthers file mid.now files)
    → EachMoment (LeavesOthers file old.now) old mid → EachMoment P mid new → EachMoment (LeavesOthers file old.now) old new
others_then {old} file others so_far did = join so_far (weaken (LeavesOthers file old.now) (λ files so. λ other differ. others files so other differ ∙ last_moment so_far other differ) did)

module _ (file : ℕ) (change : FileState → FileState → Type 0) (old m1 : Moments) where
  pub leaves : EachMoment (Changes file change old.now) old m1 → EachMoment (LeavesOthers file old.now) old m1
  leaves did = weaken (LeavesOthers file old.now) (λ files so. so.others) did

  pub leaves_more : (m2 : Moments) → EachMoment (LeavesOthers file old.now) old m1 → EachMoment (Changes file change m1.now) m1 m2 → EachMoment (LeavesOthers file old.now) old m2
  leaves_more m2 so_far did = others_then file (λ files so. so.others) so_far did

-- ---- what calls to the first two files leave of the third

pub from_unchanged : {old new : Moments} → EachMoment (Unchanged old.now) old new → EachMoment (LeavesFrom 2 old.now) old new
from_unchanged {old} did = weaken (LeavesFrom 2 old.now) (λ files same. λ k high. ap (λ (f : Files). f k) same) did

pub from_then : {P : Files → Type 0} {old mid new : Moments} (file : ℕ) → file < 2 → ((files : Files) → P files → LeavesOthers file mid.now files)
    → EachMoment (LeavesFrom 2 old.now) old mid → EachMoment P mid new → EachMoment (LeavesFrom 2 old.now) old new
from_then {old} file low others so_far did = join so_far (weaken (LeavesFrom 2 old.now) (λ files so. λ k high. others files so k (λ e. omega (arith, e, low, high)) ∙ last_moment so_far k high) did)

-- ---- a file that has a gate at most

short_cut : (old new : FileState) → AfterCut 0 old new → IsShort old new
short_cut old new cut = omega (arith, cut.no_longer)

short_sync : (old mid new : FileState) → IsShort old mid → AfterSync mid new → IsShort old new
short_sync old mid new so synced = omega (arith, so, synced.no_longer)

short_write : (old mid new : FileState) → IsShort old mid → AfterWrite 0 1 mid new → IsShort old new
short_write old mid new so wrote = omega (arith, so, wrote.no_longer)

module _ (file : ℕ) (old m1 : Moments) where
  abbrev Short : Files → Type 0
  Short = Changes file IsShort old.now

  pub short_first : EachMoment (Changes file (AfterCut 0) old.now) old m1 → EachMoment (Changes file IsShort old.now) old m1
  short_first did = weaken Short (λ files so. record { here = short_cut (old.now file) (files file) so.here; others = so.others }) did

  pub short_synced : (m2 : Moments) → EachMoment (Changes file IsShort old.now) old m1 → EachMoment (Changes file AfterSync m1.now) m1 m2 → EachMoment (Changes file IsShort old.now) old m2
  short_synced m2 so_far did = join so_far (weaken Short
      (λ files so. changes_then IsShort file old.now m1.now files (λ a b. short_sync (old.now file) (m1.now file) (files file) a b) (last_moment so_far) so) did)

  pub short_written : (m2 : Moments) → EachMoment (Changes file IsShort old.now) old m1 → EachMoment (Changes file (AfterWrite 0 1) m1.now) m1 m2 → EachMoment (Changes file IsShort old.now) old m2
  short_written m2 so_far did = join so_far (weaken Short
      (λ files so. changes_then IsShort file old.now m1.now files (λ a b. short_write (old.now file) (m1.now file) (files file) a b) (last_moment so_far) so) did)

-- ---- what a file has after its last sync

pub settled_ok : {T E : Type 0} (result : Result T E) (file : FileState) (before bytes : List ℕ) → OnOk result (IsSettled file) → OnOk result (file.bytes ≡ before) → before ≡ bytes
    → OnOk result (HasSettled bytes file)
settled_ok (Ok done) file before bytes settled same are = record { settled = settled; are = same ∙ are }
settled_ok (Err e) file before bytes settled same are = tt

-- put behind a closed gate alone
pub put_behind : (bytes : List ℕ) → put (0 ∷ []) 1 bytes ≡ 0 ∷ bytes
put_behind bytes = ap (λ (l : List ℕ). 0 ∷ (bytes ++ l)) (drop_all (1 + length bytes) (0 ∷ []) (omega arith)) ∙ ap (λ (l : List ℕ). 0 ∷ l) (append-nil bytes)

-- a sync keeps what a write kept
pub keeps_synced : (file n : ℕ) (old m1 m2 : Moments) → EachMoment (Changes file (KeepsBelow n) old.now) old m1 → EachMoment (Changes file AfterSync m1.now) m1 m2
    → EachMoment (Changes file (KeepsBelow n) old.now) old m2
keeps_synced file n old m1 m2 so_far did = join so_far (weaken (Changes file (KeepsBelow n) old.now)
    (λ files so. changes_then (KeepsBelow n) file old.now m1.now files (λ a b. KeepsBelow-sync n (old.now file) (m1.now file) (files file) a b) (last_moment so_far) so) did)
