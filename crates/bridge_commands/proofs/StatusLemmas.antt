-- What the statuses of `init` and `init-from` aren't, and which command the words ask for.
use Rattle.std.proofs.Common.{◌≡◌, ℕ, Bool, List, Result, Ok, Err, sym, ◌∙◌, arith}
use Rattle.byte_io.specs.Source.{SourceSeen}
use Rattle.bridge_commands.specs.declared.start_fault.StartFault.{StartFault}
use Rattle.bridge_commands.specs.declared.start_fault.StartFault.TheVariants as starts
use Rattle.nmc_base.specs.declared.chain_ends.Base.{Base}
use Rattle.disk_model.specs.DiskSeen.{DiskSeen}
use Rattle.bridge_core.specs.declared.status.Status.{Status}
use Rattle.bridge_core.specs.declared.status.Status.TheVariants.{Done, Words, Initialised, DiskFault}
use Rattle.bridge_commands.specs.Making.{InitEnds, made, stays, failed, InitsFrom, status_of_start}
use Rattle.bridge_commands.specs.declared.words.Command.{Command}
use Rattle.bridge_commands.specs.declared.words.Command.TheVariants.{Init, Listing, SelfTest, Serve}
use Rattle.bridge_commands.specs.declared.words.Plan.{Plan}
use Rattle.bridge_commands.specs.declared.words.Start.{Start}
use Rattle.bridge_commands.specs.declared.words.Trial.{Trial}
use Rattle.bridge_commands.specs.declared.wrong.WrongWord.{WrongWord}

pub initialised_not_done : {P : Type 0} → Initialised ≡ Done → P
initialised_not_done e = cc

pub fault_not_done : {P : Type 0} → DiskFault ≡ Done → P
fault_not_done e = cc

-- `init` never ends for its words
pub init_not_words : {tells : Bool} {old new : DiskSeen} {status : Status} → InitEnds tells old new status → status ≡ Words → ⊥
init_not_words (made was) e = cc
init_not_words (stays was only) e = cc
init_not_words (failed has) e = cc

-- what a command line is read as
abbrev Read : Type 0
Read = Result Command WrongWord

-- a first wrong word is no command
pub err_not_ok : {first : WrongWord} {asked : Command} → ◌≡◌ {A = Read} (Err first) (Ok asked) → ⊥
err_not_ok e = grind arith

same_asked : (a b : Command) → ◌≡◌ {A = Read} (Ok a) (Ok b) → a ≡ b
same_asked a b e = grind arith

module _ (start : Start) (found base : Base) (host name : List ℕ) where
  pub same_base : ◌≡◌ {A = Read} (Ok (Init start found host)) (Ok (Init start base name)) → found ≡ base
  same_base e = let same = same_asked _ _ e in cc

  pub same_host : ◌≡◌ {A = Read} (Ok (Init start found host)) (Ok (Init start base name)) → host ≡ name
  same_host e = let same = same_asked _ _ e in cc

-- nor does `init-from`
start_not_words : (ended : Result (Unit {0}) StartFault) → status_of_start ended ≡ Words → ⊥
start_not_words (Ok done) e = cc
start_not_words (Err starts.Initialised) e = cc
start_not_words (Err (starts.Bad at)) e = cc
start_not_words (Err starts.InputLimit) e = cc
start_not_words (Err starts.SourceFault) e = cc
start_not_words (Err starts.DiskFault) e = cc
start_not_words (Err starts.NoMemory) e = cc

pub from_not_words : {tells : Bool} {base : Base} {host : List ℕ} {limit : ℕ} {old new : DiskSeen} {before after : SourceSeen} {status : Status}
    → InitsFrom tells base host limit old new before after status → status ≡ Words → ⊥
from_not_words inits e = start_not_words inits.ended (sym inits.status_is ∙ e)

pub same_plan : (found plan : Plan) → ◌≡◌ {A = Read} (Ok (Serve found)) (Ok (Serve plan)) → found ≡ plan
same_plan found plan e = let same = same_asked _ _ e in cc

pub same_trial : (found trial : Trial) → ◌≡◌ {A = Read} (Ok (SelfTest found)) (Ok (SelfTest trial)) → found ≡ trial
same_trial found trial e = let same = same_asked _ _ e in cc

pub same_size : (found size : ℕ) → ◌≡◌ {A = Read} (Ok (Listing found)) (Ok (Listing size)) → found ≡ size
same_size found size e = let same = same_asked _ _ e in cc
