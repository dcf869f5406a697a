-- Following the records of an area one by one.
use Rattle.std.proofs.Common.{◌≡◌, inl, inr, ℕ, ◌+◌, ◌-◌, ◌≤◌, Bool, true, false, List, [], ◌∷◌, length, Ok, Err, sym, ap, subst, arith}
use Rattle.std.specs.Prelude.{IsTrue, not, IsErrOf}
use Rattle.std.proofs.Common.{rules}
use Rattle.disk_model.specs.Moments.{Files, EachMoment}
use Rattle.disk_model.specs.Changes.{Unchanged}
use Rattle.disk_model.specs.DiskSeen.{DiskSeen, HasFailed, bytes_in}
use Rattle.disk_model.proofs.MomentLemmas.{last_moment}
use Rattle.fault_counts.specs.Faults.{Faults, NeverFell, Rose}
use Rattle.chain_state.specs.Chain.{Indexed}
use Rattle.gate_journal.specs.Gate.{IsRecordAt, IsClosed}
use Rattle.gate_journal.specs.Stand.{Stand}
use Rattle.gate_journal.specs.Answers.{IsDamagedAt, NextAnswer}
use Rattle.gate_journal.specs.declared.faults.JournalFault.{JournalFault}
use Rattle.gate_journal.specs.declared.faults.JournalFault.TheVariants as journal
use Rattle.gate_journal.proofs.RecordLemmas.{record_unique}
use Rattle.index_commands.specs.Records.{record_of}
use Rattle.index_commands.specs.Following.{Follows, FollowsNot, FollowsRecord}
use Rattle.index_commands.specs.declared.following.Unfollowed.TheVariants as unfollowed
use Rattle.index_commands.proofs.SizeLemmas.{led_sizes, takes_size}
use Rattle.index_commands.proofs.TakenLemmas.{same_self}
use Rattle.index_commands.specs.Commands.{gate_behind, Origin, HasCommands, IsShut}
use Rattle.index_commands.specs.Damage.{HasBadRecord}
use Rattle.index_commands.specs.Reading.{StepAnswer, AllAnswer, IsBehind, IsInArea, HasFollowed, HasFollowedAll}
use Rattle.index_commands.proofs.AreaLemmas.{record_size, area_size, open_at, none_read, read_more}

-- ---- from one gate on

module _ (tells : Bool) (longest : ℕ) (first : Origin) (area : List ℕ) where
  -- where nothing was read yet
  pub followed_none : (journal : Stand) → IsBehind tells first.front journal area → journal.length ≤ longest → HasFollowed tells longest first area first.index journal.length
  followed_none journal behind within = record {
    commands = [];
    leads = same_self first.index;
    reached_is = behind.length_is;
    read = λ told. none_read first.front longest area (behind.begins told) (behind.inside told) (omega (arith, behind.length_is, within));
  }

  module _ (old : Indexed) (reached : ℕ) (some : HasFollowed tells longest first area old reached) where
    -- the gate at which the journal stands
    gate_is : reached - 1 ≡ gate_behind first.front some.commands
    gate_is = omega (arith, some.reached_is, area_size first.front some.commands (led_sizes first.index old some.commands some.leads))

    at_gate : (record_is : List ℕ) → IsRecordAt area (reached - 1) longest record_is → IsRecordAt area (gate_behind first.front some.commands) longest record_is
    at_gate record_is at = subst (λ (n : ℕ). IsRecordAt area n longest record_is) gate_is at

    -- a command more
    pub followed_more : (record_is : List ℕ) (new : Indexed) (further : ℕ) → Follows old record_is new → further ≡ reached + 5 + length record_is
        → (IsTrue tells → IsRecordAt area (reached - 1) longest record_is) → HasFollowed tells longest first area new further
    followed_more record_is new further follows further_is stands = record {
      commands = follows.command ∷ some.commands;
      leads = (old, some.leads, follows.takes);
      reached_is = omega (arith, further_is, some.reached_is, ap length follows.is, record_size follows.command (takes_size old new follows.command follows.takes));
      read = λ told. read_more first.front longest area some.commands follows.command (some.read told) (at_gate (record_of follows.command) (subst (IsRecordAt area (reached - 1) longest) follows.is (stands told)));
    }

    -- no command is left
    pub followed_all : (IsTrue tells → IsClosed area (reached - 1)) → HasFollowedAll tells longest first area old reached
    followed_all closed = record {
      some = some;
      shut = λ told. record { inside = omega (arith, gate_is, (some.read told).records.inside); closed = closed told };
    }

    -- no record that fits stands there
    pub bad_start : IsTrue tells → IsDamagedAt area (reached - 1) longest → HasBadRecord first longest area (reached - 1)
    bad_start told damaged = record {
      commands = some.commands;
      index = old;
      read = record { has = some.read told; leads = some.leads };
      at_is = gate_is;
      is_open = damaged.is_open;
      no_next = λ command next. damaged.no_record (record_of command) (subst (λ (n : ℕ). IsRecordAt area n longest (record_of command)) (sym gate_is) next.stands);
    }

    -- one stands there that is that of no command that the index takes
    pub bad_command : IsTrue tells → (record_is : List ℕ) → IsRecordAt area (reached - 1) longest record_is → FollowsNot old record_is → HasBadRecord first longest area (reached - 1)
    bad_command told record_is stands not = record {
      commands = some.commands;
      index = old;
      read = record { has = some.read told; leads = some.leads };
      at_is = gate_is;
      is_open = open_at area (reached - 1) longest record_is stands;
      no_next = λ command next. not command (record_unique area record_is (record_of command) (gate_behind first.front some.commands) longest (at_gate record_is stands) next.stands) next.taken;
    }

-- ---- a step

-- what a step was given: the journal in its file, the index, and the commands that led to it
pub record Stepping (tells : Bool) (longest : ℕ) (seen : ℕ → List ℕ) (first : Origin) (file : ℕ) : Type 0 where
  pub journal : Stand
  pub in_area : IsInArea longest file journal
  pub index : Indexed
  pub some : HasFollowed tells longest first (seen file) index journal.length

module _ (tells : Bool) (longest : ℕ) (seen : ℕ → List ℕ) (first : Origin) (file : ℕ) (s : Stepping tells longest seen first file) where
  -- what the journal says of its file, of the area's
  in_the_area : (P : List ℕ → ℕ → Type 0) → P (seen s.journal.file) s.journal.limit → P (seen file) longest
  in_the_area P holds = subst (λ (n : ℕ). P (seen file) n) s.in_area.limit_is (subst (λ (f : ℕ). P (seen f) s.journal.limit) s.in_area.file_is holds)

  module _ (new : Stand) (into : List ℕ) where
    record_there : (more : Bool) → more ≡ true → NextAnswer (seen s.journal.file) s.journal new into (Ok more) → IsRecordAt (seen file) (s.journal.length - 1) longest into
    record_there true e answer = in_the_area (λ area limit. IsRecordAt area (s.journal.length - 1) limit into) answer.0
    record_there false e answer = cc

    pub gate_there : (more : Bool) → more ≡ false → NextAnswer (seen s.journal.file) s.journal new into (Ok more) → IsClosed (seen file) (s.journal.length - 1)
    gate_there false e answer = in_the_area (λ area limit. IsClosed area (s.journal.length - 1)) answer.0
    gate_there true e answer = cc

    -- a fault of the journal
    pub fault_there : (fault : JournalFault) → (IsTrue tells → NextAnswer (seen s.journal.file) s.journal new into (Err fault)) → StepAnswer tells longest first (seen file) (Err fault)
    fault_there journal.DiskFault answer = tt
    fault_there journal.NoMemory answer = tt
    fault_there (journal.Damaged at) answer = λ told.
        let damaged : (at ≡ s.journal.length - 1) × IsDamagedAt (seen file) (s.journal.length - 1) longest =
        in_the_area (λ area limit. (at ≡ s.journal.length - 1) × IsDamagedAt area (s.journal.length - 1) limit) (answer told) in
        subst (HasBadRecord first longest (seen file)) (sym damaged.0) (bad_start tells longest first (seen file) s.index s.journal.length s.some told damaged.1)

    module _ (more : Bool) (e : more ≡ true) (answer : IsTrue tells → NextAnswer (seen s.journal.file) s.journal new into (Ok more)) where
      -- of a step that followed a command
      pub stepped_more : (index : Indexed) → (IsTrue more → (new.length ≡ s.journal.length + 5 + length into) × (new.length ≤ new.limit)) → FollowsRecord s.index into (Ok index)
          → HasFollowed tells longest first (seen file) index new.length
      stepped_more index moved follows =
          followed_more tells longest first (seen file) s.index s.journal.length s.some into index new.length follows (moved e).0 (λ told. record_there more e (answer told))

      -- of one that came to a record that isn't followed
      pub stepped_bad : FollowsRecord s.index into (Err unfollowed.Refused) → (at : ℕ) → at ≡ s.journal.length - 1 → IsTrue tells → HasBadRecord first longest (seen file) at
      stepped_bad follows at at_is told = subst (HasBadRecord first longest (seen file)) (sym at_is)
          (bad_command tells longest first (seen file) s.index s.journal.length s.some told into (record_there more e (answer told)) follows)

-- ---- of the same bytes, where the disk tells them

module _ (tells : Bool) (longest : ℕ) (first : Origin) (a b : List ℕ) (same : IsTrue tells → a ≡ b) where
  pub followed_same : (index : Indexed) (reached : ℕ) → HasFollowed tells longest first a index reached → HasFollowed tells longest first b index reached
  followed_same index reached some = record {
    commands = some.commands;
    leads = some.leads;
    reached_is = some.reached_is;
    read = λ told. subst (λ (l : List ℕ). HasCommands first.front longest l some.commands) (same told) (some.read told);
  }

  pub followed_all_same : (index : Indexed) (reached : ℕ) → HasFollowedAll tells longest first a index reached → HasFollowedAll tells longest first b index reached
  followed_all_same index reached all = record {
    some = followed_same index reached all.some;
    shut = λ told. subst (λ (l : List ℕ). IsShut l (reached - 1)) (same told) (all.shut told);
  }

  pub fault_same : (fault : JournalFault) → StepAnswer tells longest first a (Err fault) → AllAnswer tells longest first b (Err fault)
  fault_same (journal.Damaged at) is = λ told. subst (λ (l : List ℕ). HasBadRecord first longest l at) (same told) (is told)
  fault_same journal.DiskFault is = tt
  fault_same journal.NoMemory is = tt

-- a journal in the area, by its own limit
pub own_area : (longest file : ℕ) (journal : Stand) → IsInArea longest file journal → IsInArea journal.limit file journal
own_area longest file journal is = subst (λ (n : ℕ). IsInArea n file journal) (sym is.limit_is) is

-- a file of a disk whose files are as they were
pub same_bytes : (tells : Bool) (old new : DiskSeen) (file : ℕ) → (IsTrue tells → EachMoment (Unchanged old.moments.now) old.moments new.moments) → IsTrue tells → bytes_in old file ≡ bytes_in new file
same_bytes tells old new file time told = ap (λ (files : Files). (files file).bytes) (sym (last_moment (time told)))

-- ---- counts of faults over two calls

pub never_fell : {old mid new : Faults} → NeverFell old mid → NeverFell mid new → NeverFell old new
never_fell first second = record { count = omega (arith, first.count, second.count); at_limit = λ h. second.at_limit (first.at_limit h) }

pub rose_since : {old mid new : Faults} → NeverFell old mid → Rose mid new → Rose old new
rose_since first (inl more) = inl (omega (arith, first.count, more))
rose_since first (inr last) = inr last

-- so the last call failed
pub failed_since : {old mid new : DiskSeen} → NeverFell old.faults mid.faults → HasFailed mid new → HasFailed old new
failed_since first failed = record { last = failed.last; rose = rose_since first failed.rose }

-- a fault of the disk, whatever stands at Ok
pub same_fault : {T U : Type 0} (fault : JournalFault) → IsErrOf {T = T} (Err fault) journal.DiskFault → IsErrOf {T = U} (Err fault) journal.DiskFault
same_fault (journal.Damaged at) is = search rules
same_fault journal.DiskFault is = search rules
same_fault journal.NoMemory is = search rules
