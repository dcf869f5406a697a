-- The outcomes of a command, of each kind.
use Rattle.std.proofs.Common.{◌≡◌, ℕ, ◌+◌, ◌-◌, ◌<◌, ◌≤◌, Bool, List, [], ◌∷◌, ◌++◌, length, take, Ok, Err, refl, sym, ◌∙◌, ap, subst, arith, length-append}
use Rattle.std.specs.Prelude.{IsTrue, Result}
use Rattle.nmc_base.specs.declared.limits.TheConstants.{LONGEST_BLOCK}
use Rattle.disk_model.specs.Moments.{Files, start}
use Rattle.disk_model.specs.Changes.{LeavesOthers}
use Rattle.gate_journal.specs.Gate.{record_text}
use Rattle.gate_journal.specs.Records.{records_text, image_front}
use Rattle.gate_journal.proofs.RecordLemmas.{front-push}
use Rattle.image_slots.specs.Slotted.{Slotted}
use Rattle.disk_model.specs.DiskSeen.{DiskSeen, bytes_in}
use Rattle.disk_model.specs.declared.disk.Failed.{Failed}
use Rattle.chain_state.specs.Chain.{Indexed, SameIndex, StagedIndex, IsConnected, IsAbandoned}
use Rattle.chain_state.specs.StageBack.{IsDisconnected}
use Rattle.chain_state.specs.declared.stage.StageOutcome.TheVariants.{Staged}
use Rattle.chain_state.specs.declared.back.BackOutcome.TheVariants.{StagedBack}
use Rattle.chain_commands.specs.Chain.{Chain}
use Rattle.chain_commands.specs.Event.{Command, Connect, Disconnect}
use Rattle.chain_commands.specs.RunState.{RunState, chain_of, area_of, record_length, accepted, longest_area}
use Rattle.chain_commands.specs.Refusals.{Refusals, IsFirst, HasNoneBelow}
use Rattle.chain_commands.specs.Connecting as connecting
use Rattle.chain_commands.specs.Connecting.{IsValid, Holds}
use Rattle.chain_commands.specs.Disconnecting as disconnecting
use Rattle.chain_commands.specs.Disconnecting.{IsValidBack, HoldsBack}
use Rattle.index_commands.specs.Standing as chains
use Rattle.index_commands.specs.Records.{record_of}
use Rattle.index_commands.specs.Records.{HasSize}
use Rattle.index_commands.specs.Staged.{CommitsStaged}
use Rattle.index_commands.specs.Stages.{StagesBytes, StagesHash, StagesCommand, IsFullWith, IsStagedFor, IsRefusedFor, LacksMemoryFor}
use Rattle.index_commands.specs.Views.{refusal_of, back_refusal_of, command_of}
use Rattle.index_commands.specs.declared.command.ChainCommand.{ChainCommand}
use Rattle.index_commands.specs.declared.command.ChainCommand.TheVariants.{Connect as Block, Disconnect as Hash}
use Rattle.index_commands.specs.declared.staged.StagedCommand.{StagedCommand}
use Rattle.index_commands.specs.declared.staged.StagedCommand.TheVariants as stage
use Rattle.index_commands.specs.declared.staged.CommandRefusal.{CommandRefusal}
use Rattle.index_commands.specs.declared.staged.CommandRefusal.TheVariants as refused
use Rattle.index_commands.specs.declared.staged.CommandOutcome.TheVariants as staging
use Rattle.name_store.specs.Executing.{Executes}
use Rattle.name_store.specs.declared.store.Outcome.TheVariants.{Done, Refused, NoMemory, Faulted}
use Rattle.name_store.specs.Host.{IsHostOf}
use Rattle.name_store.specs.Stands.{IsRunState}
use Rattle.name_store.specs.Stored.{Stored, StandsFor, IsOn, area_file}
use Rattle.name_store.specs.Outcomes.{Adds, AnswersFor, IsDone, IsFullOf, KeepsOn, LeavesDisk}
use Rattle.index_commands.specs.Keeping.{Keeps}
use Rattle.name_store.proofs.StateLemmas.{state_with}
use Rattle.name_store.proofs.StoreLemmas.{IsAlike, on_again, done_is, stands_still, each_stands, stands_next, on_next}

-- ---- a command without a refusal is allowed, and has room

-- a refusal of a chain is one beside a full journal too
holds_beside : (full : Type 0) (chain : Chain) (bytes : List ℕ) (refusal : connecting.Refusal) → Holds ⊥ chain bytes refusal → Holds full chain bytes refusal
holds_beside full chain bytes (connecting.BadBlock place) holds = holds
holds_beside full chain bytes (connecting.NotOnTip tip) holds = holds
holds_beside full chain bytes connecting.HeightLimit holds = holds
holds_beside full chain bytes (connecting.MerkleMismatch computed) holds = holds
holds_beside full chain bytes (connecting.Rule index refusal) holds = holds
holds_beside full chain bytes connecting.JournalFull holds = absurd holds

back_beside : (full : Type 0) (chain : Chain) (hash : List ℕ) (refusal : disconnecting.BackRefusal) → HoldsBack ⊥ chain hash refusal → HoldsBack full chain hash refusal
back_beside full chain hash disconnecting.AtBase holds = holds
back_beside full chain hash (disconnecting.NotTip tip) holds = holds
back_beside full chain hash disconnecting.JournalFull holds = absurd holds

-- behind a command of this kind without a refusal stands a run state
abbrev pub Allows : {M : Type 0} → (most : ℕ) → Refusals M → (Type 0 → Chain → M → Type 0) → Command → Type 0
Allows most refusals Holds command = (run : RunState) → IsRunState run → HasNoneBelow (Holds (IsFullOf most run command) (chain_of run)) refusals.order refusals.places
    → IsRunState (accepted run command)

allows_connect : (most : ℕ) → most ≤ longest_area → (bytes : List ℕ) → length bytes ≤ LONGEST_BLOCK → Allows most connecting.connects (λ full chain. Holds full chain bytes) (Connect bytes)
allows_connect most low bytes short run is valid =
    let full = IsFullOf most run (Connect bytes) in
    let alone : IsValid ⊥ (chain_of run) bytes = record { none = λ refusal low holds. valid.none refusal low (holds_beside full (chain_of run) bytes refusal holds) } in
    let room : ¬ (most < area_of run + record_length (Connect bytes)) = valid.none connecting.JournalFull (omega arith) in
    state_with run (Connect bytes) is (alone, short) (omega (arith, room, low))

allows_disconnect : (most : ℕ) → most ≤ longest_area → (hash : List ℕ) → length hash ≡ 32 → Allows most disconnecting.disconnects (λ full chain. HoldsBack full chain hash) (Disconnect hash)
allows_disconnect most low hash long run is valid =
    let full = IsFullOf most run (Disconnect hash) in
    let alone : IsValidBack ⊥ (chain_of run) hash = record { none = λ refusal low holds. valid.none refusal low (back_beside full (chain_of run) hash refusal holds) } in
    let room : ¬ (most < area_of run + record_length (Disconnect hash)) = valid.none disconnecting.JournalFull (omega arith) in
    state_with run (Disconnect hash) is (alone, long) (omega (arith, room, low))

-- ---- what was not done

module _ (old new : Stored) (back : IsAlike old new) where
  module _ {T R : Type 0} (tells : Bool) (disk : DiskSeen) (on : IsTrue tells → IsOn old disk.moments.now) where
    pub leaves_refused : (Spares : Files → Files → Type 0) → Spares disk.moments.now disk.moments.now → (refusal : R) → LeavesDisk {T = T} {R = R} tells Spares disk disk (Refused new refusal)
    leaves_refused Spares same refusal = record {
      later = record { count = omega arith; at_limit = λ is. is };
      worked = tt;
      none = refl;
      failed = tt;
      still_on = λ told. on_again old new disk.moments.now back (on told);
      others = λ told. start same;
    }

    pub leaves_lacking : (Spares : Files → Files → Type 0) → Spares disk.moments.now disk.moments.now → LeavesDisk {T = T} {R = R} tells Spares disk disk (NoMemory new)
    leaves_lacking Spares same = record {
      later = record { count = omega arith; at_limit = λ is. is };
      worked = tt;
      none = refl;
      failed = tt;
      still_on = λ told. on_again old new disk.moments.now back (on told);
      others = λ told. start same;
    }

    pub keeps_refused : (Makes : RunState → RunState → Type 0) (refusal : R) → KeepsOn {T = T} {R = R} tells old Makes disk disk (Refused new refusal)
    keeps_refused Makes refusal = λ told run s stands. record { next = run; is_next = refl; done = tt; any_moment = stands_still tells told old disk disk (on told) run s stands run }

    pub keeps_lacking : (Makes : RunState → RunState → Type 0) → KeepsOn {T = T} {R = R} tells old Makes disk disk (NoMemory new)
    keeps_lacking Makes = λ told run s stands. record { next = run; is_next = refl; done = tt; any_moment = stands_still tells told old disk disk (on told) run s stands run }

-- ---- what was staged

-- A command is staged on the index of a store, of every chain that it stands for, and behind it stands a run state.
record Staging {M : Type 0} (most : ℕ) (refusals : Refusals M) (Holds : Type 0 → Chain → M → Type 0) (command : Command) (old : Stored) (Commits Abandons : Indexed → Type 0) : Type 0 where
  allows : Allows most refusals Holds command
  staged : (chain : Chain) → chains.StandsFor old.index chain → IsStagedFor refusals (Holds (IsFullWith old.area most command) chain) chain command Commits Abandons

-- a block is staged
a_block : (most : ℕ) → most ≤ longest_area → (bytes : List ℕ) → length bytes ≤ LONGEST_BLOCK → (old : Stored) (staged : StagedIndex) → StagesBytes old.area most old.index bytes (Staged staged)
    → Staging most connecting.connects (λ full chain. Holds full chain bytes) (Connect bytes) old (IsConnected staged) (IsAbandoned staged)
a_block most low bytes short old staged stages = record { allows = allows_connect most low bytes short; staged = stages }

-- the disconnect of a hash is staged
a_hash : (most : ℕ) → most ≤ longest_area → (hash : List ℕ) → length hash ≡ 32 → (old : Stored) (staged : Indexed) → StagesHash old.area most old.index hash (StagedBack staged)
    → Staging most disconnecting.disconnects (λ full chain. HoldsBack full chain hash) (Disconnect hash) old (IsDisconnected staged) (λ same. SameIndex same staged)
a_hash most low hash long old staged stages = record { allows = allows_disconnect most low hash long; staged = stages }

-- the new store is the old one, with an index behind the commit and an area that is longer by the command's record
pub record IsCommitted (command : Command) (old : Stored) (Commits : Indexed → Type 0) (new : Stored) : Type 0 where
  pub commits : Commits new.index
  pub host : new.host ≡ old.host
  pub slots : new.slots ≡ old.slots
  pub area : new.area ≡ old.area + record_length command

module _ {M : Type 0} {most : ℕ} {refusals : Refusals M} {Holds : Type 0 → Chain → M → Type 0} {command : Command} {old : Stored} {Commits Abandons : Indexed → Type 0}
    (g : Staging most refusals Holds command old Commits Abandons) where
  valid_of : (run : RunState) → StandsFor old run → HasNoneBelow (Holds (IsFullOf most run command) (chain_of run)) refusals.order refusals.places
  valid_of run s = subst (λ (a : ℕ). HasNoneBelow (Holds (most < a + record_length command) (chain_of run)) refusals.order refusals.places) s.area (g.staged (chain_of run) s.index).valid

  next_of : (run : RunState) → StandsFor old run → IsRunState (accepted run command)
  next_of run s = g.allows run s.is_state (valid_of run s)

  stands_with : (new : Stored) → IsCommitted command old Commits new → (run : RunState) → StandsFor old run → StandsFor new (accepted run command)
  stands_with new done run s = record {
    index = (g.staged (chain_of run) s.index).commits new.index done.commits;
    host = subst (λ (name : List ℕ). IsHostOf run.host name) (sym done.host) s.host;
    selections = ap (λ (slots : Slotted). slots.count) done.slots ∙ s.selections;
    area = omega (arith, done.area, s.area);
    is_state = next_of run s;
  }

  answers_done : {R : Type 0} (seen : R → M) (new : Stored) → IsCommitted command old Commits new → (run : RunState) → StandsFor old run
      → AnswersFor refusals (Holds (IsFullOf most run command) (chain_of run)) seen (IsDone run command) run (Done new new.index.tip)
  answers_done seen new done run s = (valid_of run s, done_is run command new new.index.tip (stands_with new done run s) refl)

-- ---- what is answered without it

-- the store with another index
abbrev pub with_index : Stored → Indexed → Stored
with_index old index = record { index = index; host = old.host; slots = old.slots; area = old.area }

module _ {M : Type 0} (most : ℕ) (refusals : Refusals M) (Holds : Type 0 → Chain → M → Type 0) (command : Command) (old : Stored) (same : Indexed) (run : RunState) (s : StandsFor old run) where
  stands_so : chains.StandsFor same (chain_of run) → StandsFor (with_index old same) run
  stands_so stands = record { index = stands; host = s.host; selections = s.selections; area = s.area; is_state = s.is_state }

  refused_so : (refusal : M) → IsRefusedFor refusals (Holds (IsFullWith old.area most command) (chain_of run)) (chain_of run) refusal same
      → IsFirst (Holds (IsFullOf most run command) (chain_of run)) refusals.order refusal × StandsFor (with_index old same) run
  refused_so refusal h = (subst (λ (a : ℕ). IsFirst (Holds (most < a + record_length command) (chain_of run)) refusals.order refusal) s.area h.refuses, stands_so h.stands)

  lacking_so : LacksMemoryFor refusals (Holds (IsFullWith old.area most command) (chain_of run)) (chain_of run) same
      → HasNoneBelow (Holds (IsFullOf most run command) (chain_of run)) refusals.order refusals.before_memory × StandsFor (with_index old same) run
  lacking_so h = (subst (λ (a : ℕ). HasNoneBelow (Holds (most < a + record_length command) (chain_of run)) refusals.order refusals.before_memory) s.area h.takes_memory, stands_so h.stands)

-- ---- of a command of either kind

abbrev holds_connect : List ℕ → Type 0 → Chain → connecting.Refusal → Type 0
holds_connect bytes full chain = Holds full chain bytes

abbrev holds_disconnect : List ℕ → Type 0 → Chain → disconnecting.BackRefusal → Type 0
holds_disconnect hash full chain = HoldsBack full chain hash

module _ (most : ℕ) (old : Stored) where
  pub executes_refused : (command : ChainCommand) (same : Indexed) (refusal : CommandRefusal) → StagesCommand old.area most old.index command (staging.Refused same refusal)
      → Executes most old command (Refused (with_index old same) refusal)
  executes_refused (Block bytes) same (refused.Connect refusal) stages = λ run s.
      refused_so most connecting.connects (holds_connect bytes.now) (Connect bytes.now) old same run s (refusal_of refusal) (stages (chain_of run) s.index)
  executes_refused (Block bytes) same (refused.Disconnect refusal) stages = stages
  executes_refused (Hash hash) same (refused.Connect refusal) stages = stages
  executes_refused (Hash hash) same (refused.Disconnect refusal) stages = λ run s.
      refused_so most disconnecting.disconnects (holds_disconnect hash.0) (Disconnect hash.0) old same run s (back_refusal_of refusal) (stages (chain_of run) s.index)

  pub executes_lacking : (command : ChainCommand) (same : Indexed) → StagesCommand old.area most old.index command (staging.NoMemory same)
      → Executes most old command (NoMemory (with_index old same))
  executes_lacking (Block bytes) same stages = λ run s. lacking_so most connecting.connects (holds_connect bytes.now) (Connect bytes.now) old same run s (stages (chain_of run) s.index)
  executes_lacking (Hash hash) same stages = λ run s. lacking_so most disconnecting.disconnects (holds_disconnect hash.0) (Disconnect hash.0) old same run s (stages (chain_of run) s.index)

-- a command that was staged, within the limits
pub record IsStaged (most : ℕ) (old : Stored) (command : ChainCommand) (s : StagedCommand) : Type 0 where
  pub low : most ≤ longest_area
  pub sized : HasSize (command_of command)
  pub stages : StagesCommand old.area most old.index command (staging.Staged s)

module _ (most : ℕ) (old : Stored) where
  pub executes_faulted : (command : ChainCommand) (s : StagedCommand) → IsStaged most old command s → Executes most old command Faulted
  executes_faulted (Block bytes) (stage.Connect s) is = valid_of (a_block most is.low bytes.now is.sized old s is.stages)
  executes_faulted (Block bytes) (stage.Disconnect s) is = absurd is.stages
  executes_faulted (Hash hash) (stage.Connect s) is = absurd is.stages
  executes_faulted (Hash hash) (stage.Disconnect s) is = valid_of (a_hash most is.low hash.0 is.sized old s is.stages)

  pub executes_done : (command : ChainCommand) (s : StagedCommand) → IsStaged most old command s → (new : Stored) → IsCommitted (command_of command) old (CommitsStaged s) new
      → Executes most old command (Done new new.index.tip)
  executes_done (Block bytes) (stage.Connect s) is new done = answers_done (a_block most is.low bytes.now is.sized old s is.stages) refusal_of new done
  executes_done (Block bytes) (stage.Disconnect s) is new done = absurd is.stages
  executes_done (Hash hash) (stage.Connect s) is new done = absurd is.stages
  executes_done (Hash hash) (stage.Disconnect s) is new done = answers_done (a_hash most is.low hash.0 is.sized old s is.stages) back_refusal_of new done

  -- behind it stands a run state
  pub next_state : (command : ChainCommand) (s : StagedCommand) → IsStaged most old command s → (run : RunState) → StandsFor old run → IsRunState (accepted run (command_of command))
  next_state (Block bytes) (stage.Connect s) is = next_of (a_block most is.low bytes.now is.sized old s is.stages)
  next_state (Block bytes) (stage.Disconnect s) is = absurd is.stages
  next_state (Hash hash) (stage.Connect s) is = absurd is.stages
  next_state (Hash hash) (stage.Disconnect s) is = next_of (a_hash most is.low hash.0 is.sized old s is.stages)

module _ {T R : Type 0} (tells : Bool) (before after : DiskSeen) (command : Command) (old : Stored) (next : (run : RunState) → StandsFor old run → IsRunState (accepted run command)) where
  -- a fault comes only behind all refusals
  pub keeps_faulted : (result : Result ℕ Failed) → (IsTrue tells → IsOn old before.moments.now) → Keeps tells (area_file old) old.area (record_of command) before after result
      → KeepsOn {T = T} {R = R} tells old (Adds command) before after Faulted
  keeps_faulted result on kept = λ told run s stands. record {
    next = accepted run command;
    is_next = refl;
    done = tt;
    any_moment = each_stands tells told old before after (on told) run s stands command (next run s) result kept;
  }

  pub keeps_done : (new : Stored) (value : T) → (IsTrue tells → IsOn old before.moments.now) → Keeps tells (area_file old) old.area (record_of command) before after (Ok new.area)
      → KeepsOn {T = T} {R = R} tells old (Adds command) before after (Done new value)
  keeps_done new value on kept = λ told run s stands. record {
    next = accepted run command;
    is_next = refl;
    done = stands_next tells told old before after (on told) run s stands command (next run s) new.area kept;
    any_moment = each_stands tells told old before after (on told) run s stands command (next run s) (Ok new.area) kept;
  }

-- ---- the disk behind a command that was kept, or may have been

module _ {T R : Type 0} (tells : Bool) (before after : DiskSeen) (old : Stored) (record_is : List ℕ) where
  pub leaves_faulted : (error : Failed) → Keeps tells (area_file old) old.area record_is before after (Err error)
      → LeavesDisk {T = T} {R = R} tells (LeavesOthers (area_file old)) before after Faulted
  leaves_faulted error kept = record { later = kept.ends.later; worked = tt; none = tt; failed = kept.ends.failed; still_on = λ told. tt; others = kept.others }

  pub leaves_done : (new : Stored) (value : T) → (IsTrue tells → IsOn old before.moments.now) → Keeps tells (area_file old) old.area record_is before after (Ok new.area)
      → IsAlike (record { index = old.index; host = old.host; slots = old.slots; area = new.area }) new → LeavesDisk {T = T} {R = R} tells (LeavesOthers (area_file old)) before after (Done new value)
  leaves_done new value on kept alike = record {
    later = kept.ends.later;
    worked = kept.ends.worked;
    none = kept.ends.none;
    failed = tt;
    still_on = λ told. on_next tells told old before after (on told) record_is new.area kept new alike;
    others = kept.others;
  }

-- ---- the bytes of the selected area behind a command that was kept

-- the area's text and the record stand before the new gate
pub adds_record : (tells : Bool) (told : IsTrue tells) (old : Stored) (before after : DiskSeen) (on : IsOn old before.moments.now) (record_is : List ℕ) (area : ℕ)
    → Keeps tells (area_file old) old.area record_is before after (Ok area)
    → take (area - 1) (bytes_in after (area_file old)) ≡ take (old.area - 1) (bytes_in before (area_file old)) ++ record_text record_is
adds_record tells told old before after on record_is area kept =
    let front = image_front on.image in
    let text = front ++ records_text on.records in
    let was = bytes_in before (area_file old) in
    let now = bytes_in after (area_file old) in
    let is = kept.added told on.image on.records on.holds in
    let whole : front ++ records_text (on.records ++ record_is ∷ []) ≡ text ++ record_text record_is = front-push front on.records record_is in
    let new_size : area - 1 ≡ length (front ++ records_text (on.records ++ record_is ∷ [])) =
    omega (arith, kept.longer, on.holds.length_is, ap length whole, length-append text (record_text record_is)) in
    let old_size : old.area - 1 ≡ length text = omega (arith, on.holds.length_is) in
    ap (λ (n : ℕ). take n now) new_size ∙ is.closed.begins ∙ whole ∙ ap (λ (l : List ℕ). l ++ record_text record_is) (sym (ap (λ (n : ℕ). take n was) old_size ∙ on.holds.is_area.closed.begins))
