-- A turn of a bridge by what came of the request in its store: of a connect, of a disconnect and of a save alike.
use Rattle.std.proofs.Common.{◌≡◌, ℕ, List, ◌++◌, refl, sym, ap, subst, ◌∙◌, arith}
use Rattle.std.specs.Prelude.{Bool, IsFalse}
use Rattle.std.specs.Int.{w32, w64, to_le_bytes}
use Rattle.disk_model.specs.DiskSeen.{DiskSeen, bytes_in}
use Rattle.feed_frames.specs.Replies.{Reply}
use Rattle.nmc_base.specs.declared.chain_ends.Tip.{Tip}
use Rattle.chain_commands.specs.Chain.{Chain, height_of}
use Rattle.chain_commands.specs.Event.{Command, Event, Do, Ask, Save}
use Rattle.chain_commands.specs.RunState.{RunState, chain_of, accepted}
use Rattle.chain_commands.specs.Reply.{accepted_reply, no_memory_reply}
use Rattle.chain_commands.specs.Refusals.{Refusals, HasNoneBelow, Answers, accepts, declines, lacks_memory, LeavesDone}
use Rattle.chain_commands.specs.Saving as saving
use Rattle.chain_commands.proofs.RefusalLemmas.{code_of}
use Rattle.chain_commands.proofs.SavingLemmas.{saved_leaves}
use Rattle.kept_answers.specs.Answering.{Answering, outdated}
use Rattle.bridge_core.specs.Leaving.{IsDoneBy}
use Rattle.bridge_core.specs.Step.{Step}
use Rattle.name_store.specs.Outcomes as store
use Rattle.name_store.specs.Outcomes.{AnswersFor, IfUndone, IsDone, KeepsOn}
use Rattle.name_store.specs.declared.saving.SaveRefusal.{SaveRefusal}
use Rattle.name_store.specs.declared.store.Outcome.{Outcome}
use Rattle.name_store.specs.declared.store.Outcome.TheVariants.{Done, Refused, NoMemory, Faulted}
use Rattle.name_store.specs.Saves.{IsSavedAs, save_refusal_of}
use Rattle.name_store.specs.Stands.{Stands}
use Rattle.name_store.specs.Stored as stores
use Rattle.name_store.specs.Stored.{Stored, IsTipOf}
use Rattle.bridge_core.specs.Bridge.{IsValidEvent, IsUndone, AsksNothing, EndsOn, SparesFiles, KeepsAnswers, fault_code, fault_reply, AnswersEvent}
use Rattle.bridge_core.specs.Bridged.{Bridged, StandsFor}
use Rattle.bridge_core.specs.declared.bridge.Turned.{Turned}
use Rattle.bridge_core.specs.declared.bridge.Turned.TheVariants.{On, Ended}
use Rattle.bridge_core.proofs.BridgedLemmas.{stands_outdated, stands_still}
use Rattle.bridge_core.proofs.DoneLemmas.{done_once}
use Rattle.bridge_core.proofs.FileLemmas.{files_of, crashes_done, crashes_undone, crashes_faulted}

-- ---- what is told

abbrev pub told_tip : Tip → Reply
told_tip tip = record { code = 0; payload = to_le_bytes w32 tip.height ++ tip.hash.0 }

-- the reply that tells the tip is that of an acceptance
tip_told : (tip : Tip) (chain : Chain) → IsTipOf tip chain → told_tip tip ≡ accepted_reply chain
tip_told tip chain is =
    ap (λ (n : ℕ). record { code = 0; payload = to_le_bytes w32 n ++ tip.hash.0 }) is.height
    ∙ ap (λ (hash : List ℕ). record { code = 0; payload = to_le_bytes w32 (height_of chain) ++ hash }) is.hash

abbrev pub told_number : ℕ → Reply
told_number number = record { code = 0; payload = to_le_bytes w64 number }

-- ---- requests

-- A request in the store and in the machine: its refusals with the condition of each, and the store's as the machine's; what it does in
-- the store and what it leaves in the machine where it is done; how what the store tells is told; its event; and what it makes of the
-- answers that are kept where it is done.
pub record Request (T R M : Type 0) : Type 1 where
  pub refusals : Refusals M
  pub HoldsOf : RunState → M → Type 0
  pub view : R → M
  pub DoesOf : RunState → Stored → T → Type 0
  pub LeavesOf : RunState → Reply → RunState → Type 0
  pub told_as : T → Reply
  pub event : Event
  pub behind : Answering → Answering

-- the run state that the machine leaves, which the store stands for
pub record Leads {T R M : Type 0} (request : Request T R M) (run : RunState) (new : Stored) (told : T) : Type 0 where
  pub next : RunState
  pub leaves : request.LeavesOf run (request.told_as told) next
  pub stands : stores.StandsFor new next

-- It is no message; where it is done, code 0 is told and the machine leaves what the store stands for, and the bridge with the answers
-- behind it; an answer of the machine is its step; without a refusal it is valid; and where it isn't done the answers stay.
pub record IsKind {T R M : Type 0} (request : Request T R M) : Type 0 where
  pub asks : (reply : Reply) → AsksNothing request.event reply → IsUndone reply
  pub code_is : (told : T) → (request.told_as told).code ≡ 0
  pub leads : (run : RunState) (new : Stored) (told : T) → request.DoesOf run new told → Leads request run new told
  pub steps : (run : RunState) (reply : Reply) (new : RunState) → Answers request.refusals (request.HoldsOf run) (request.LeavesOf run) run reply new
      → Step run request.event reply new
  pub valid : (run : RunState) → HasNoneBelow (request.HoldsOf run) request.refusals.order request.refusals.places → IsValidEvent run request.event
  pub stands : (run : RunState) (old new : Bridged) (told : T) (lead : Leads request run new.store told) → new.answers ≡ request.behind old.answers → StandsFor old run
      → StandsFor new lead.next
  pub goes_by : (old new : Bridged) (reply : Reply) → reply.code ≡ 0 → new.answers ≡ request.behind old.answers → KeepsAnswers old request.event reply (On new)
  pub stays : (old new : Bridged) (reply : Reply) → (reply.code ≡ 0 → ⊥) → new.answers ≡ old.answers → KeepsAnswers old request.event reply (On new)

abbrev pub a_command : {R M : Type 0} → Refusals M → (RunState → M → Type 0) → (R → M) → Command → Request Tip R M
a_command refusals HoldsOf view command = record {
  refusals = refusals;
  HoldsOf = HoldsOf;
  view = view;
  DoesOf = λ run new tip. IsDone run command new tip;
  LeavesOf = λ run reply new. LeavesDone run command reply new;
  told_as = told_tip;
  event = Do command;
  behind = λ answers. outdated answers;
}

pub is_command : {R M : Type 0} (refusals : Refusals M) (HoldsOf : RunState → M → Type 0) (view : R → M) (command : Command)
    → ((run : RunState) (reply : Reply) (new : RunState) → Answers refusals (HoldsOf run) (LeavesDone run command) run reply new → Step run (Do command) reply new)
    → ((run : RunState) → HasNoneBelow (HoldsOf run) refusals.order refusals.places → IsValidEvent run (Do command)) → IsKind (a_command refusals HoldsOf view command)
is_command refusals HoldsOf view command steps valid = record {
  asks = λ reply asks. asks;
  code_is = λ tip. refl;
  leads = λ run new tip did. record {
    next = accepted run command;
    leaves = record { state_is = refl; told = tip_told tip (chain_of (accepted run command)) did.tip_is };
    stands = did.stands;
  };
  steps = steps;
  valid = valid;
  stands = λ run old new tip lead behind s. stands_outdated old new run lead.next s lead.stands behind;
  goes_by = λ old new reply is_zero behind. (λ is. behind, λ other. absurd (other is_zero));
  stays = λ old new reply other same. (λ is_zero. absurd (other is_zero), λ is. same);
}

abbrev pub a_save : Request ℕ SaveRefusal saving.SaveRefusal
a_save = record {
  refusals = saving.saves;
  HoldsOf = saving.HoldsSave;
  view = save_refusal_of;
  DoesOf = IsSavedAs;
  LeavesOf = saving.LeavesSaved;
  told_as = told_number;
  event = Save;
  behind = λ answers. answers;
}

pub is_save : IsKind a_save
is_save = record {
  asks = λ reply asks. asks;
  code_is = λ number. refl;
  leads = λ run new number did. record { next = did.next; leaves = record { is_saved = did.is_saved; told = ap told_number did.number_is }; stands = did.stands };
  steps = λ run reply new answers. answers;
  valid = λ run none. none;
  stands = λ run old new number lead same s.
      let saved = lead.leaves.is_saved in
      stands_still old new run lead.next s lead.stands (ap (λ (x : RunState). x.host) saved.state_is) (ap chain_of saved.state_is ∙ saved_leaves run saved.text) same;
  goes_by = λ old new reply is_zero same. same;
  stays = λ old new reply other same. same;
}

-- ---- a turn

pub ends_on : (before after : DiskSeen) (event : Event) (reply : Reply) (new : Bridged) → (reply.code ≡ 0 → IsFalse after.failed) → EndsOn before after event reply (On new)
ends_on before after (Do command) reply new worked = worked
ends_on before after (Ask carrier message) reply new worked = tt
ends_on before after Save reply new worked = worked

-- the bridge and its disk at a turn, and its reply
pub record Turn (D : Type 0) : Type 0 where
  pub tells : Bool
  pub seen : D → DiskSeen
  pub old : Bridged
  pub before : D
  pub after : D
  pub reply : Reply

module _ {D T R M : Type 0} (t : Turn D) (request : Request T R M) where
  abbrev lacking : (Q : Type 0) → Stored → Outcome T Q
  lacking Q new = NoMemory new

  -- what the store's call says, of whose refusals Q those of the request are some
  pub record Did {Q : Type 0} (outcome : Outcome T R) (of_call : Outcome T Q) : Type 0 where
    pub answers : (run : RunState) → stores.StandsFor t.old.store run → AnswersFor request.refusals (request.HoldsOf run) request.view (request.DoesOf run) run outcome
    pub undone : IfUndone (t.after ≡ t.before) of_call
    pub leaves : store.LeavesDisk t.tells (SparesFiles t.old.store request.event) (t.seen t.before) (t.seen t.after) of_call
    pub kept : KeepsOn t.tells t.old.store (λ run next. IsDoneBy run request.event next) (t.seen t.before) (t.seen t.after) of_call

  abbrev pub Answered : Turned → Type 0
  Answered turned = AnswersEvent t.tells t.seen t.old t.before request.event t.reply turned t.after

  -- the machine's step stays where it is, and so does what the store stands for
  abbrev Stays : Stored → Type 0
  Stays new = (run : RunState) → stores.StandsFor t.old.store run → Step run request.event t.reply run × stores.StandsFor new run

  module _ {Q : Type 0} (kind : IsKind request) where
    pub request_done : (new : Bridged) (told : T) → Did {Q = Q} (Done new.store told) (Done new.store told) → t.reply ≡ request.told_as told → new.answers ≡ request.behind t.old.answers → Answered (On new)
    request_done new told d same behind =
        let is_zero : t.reply.code ≡ 0 = code_of t.reply (request.told_as told) same ∙ kind.code_is told in
        let lead : (run : RunState) → stores.StandsFor t.old.store run → Leads request run new.store told = λ run s. kind.leads run new.store told (d.answers run s).1 in
        let step : (run : RunState) (s : stores.StandsFor t.old.store run) → Step run request.event t.reply (lead run s).next = λ run s.
        kind.steps run t.reply (lead run s).next (accepts (d.answers run s).0 (subst (λ (reply : Reply). request.LeavesOf run reply (lead run s).next) (sym same) (lead run s).leaves)) in
        record {
          step = λ run s. record { new = (lead run s.store).next; step = step run s.store; stands = kind.stands run t.old new told (lead run s.store) behind s };
          told = λ fault. absurd (omega (arith, is_zero, fault));
          untouched = λ asks. absurd ((kind.asks t.reply asks).0 is_zero);
          leaves = record {
            later = d.leaves.later;
            none = d.leaves.none;
            ends = ends_on (t.seen t.before) (t.seen t.after) request.event t.reply new (λ is. d.leaves.worked);
            others = d.leaves.others;
            still_on = d.leaves.still_on;
          };
          kept = λ tell run s stands.
              let k = d.kept tell run s stands in
              let stands_next = subst (stores.StandsFor new.store) (done_once run request.event t.reply (lead run s).next k.next (step run s) is_zero k.is_next) (lead run s).stands in
              crashes_done run request.event (t.seen t.before) (t.seen t.after) t.reply (record { next = k.next; any_moment = k.any_moment }) is_zero k.is_next
              (files_of new.store (t.seen t.after) (d.leaves.still_on tell) k.next stands_next k.done);
          answers = kind.goes_by t.old new t.reply is_zero behind;
        }

    -- the store is as it was, and the disk wasn't asked
    request_undone : (new : Bridged) → IsUndone t.reply → t.after ≡ t.before → Stays new.store → new.answers ≡ t.old.answers
        → store.LeavesDisk t.tells (SparesFiles t.old.store request.event) (t.seen t.before) (t.seen t.after) (lacking Q new.store)
        → KeepsOn t.tells t.old.store (λ run next. IsDoneBy run request.event next) (t.seen t.before) (t.seen t.after) (lacking Q new.store) → Answered (On new)
    request_undone new undone same stays as_were leaves kept = record {
      step = λ run s. record { new = run; step = (stays run s.store).0; stands = stands_still t.old new run run s (stays run s.store).1 refl refl as_were };
      told = undone.1;
      untouched = λ asks. same;
      leaves = record {
        later = leaves.later;
        none = leaves.none;
        ends = ends_on (t.seen t.before) (t.seen t.after) request.event t.reply new (λ is_zero. absurd (undone.0 is_zero));
        others = leaves.others;
        still_on = leaves.still_on;
      };
      kept = λ tell run s stands.
          let k = kept tell run s stands in
          crashes_undone run request.event (t.seen t.before) (t.seen t.after) t.reply (record { next = k.next; any_moment = k.any_moment }) undone k.is_next
          (files_of new.store (t.seen t.after) (leaves.still_on tell) run (stays run s).1 (subst (λ (d : D). Stands (bytes_in (t.seen d)) run) (sym same) stands));
      answers = kind.stays t.old new t.reply undone.0 as_were;
    }

    pub request_refused : (new : Bridged) (refusal : R) (of_call : Q) → Did {Q = Q} (Refused new.store refusal) (Refused new.store of_call) → t.reply ≡ request.refusals.reply_of (request.view refusal) → IsUndone t.reply
        → new.answers ≡ t.old.answers → Answered (On new)
    request_refused new refusal of_call d told undone as_were =
        request_undone new undone d.undone (λ run s. (kind.steps run t.reply run (declines (request.view refusal) (d.answers run s).0 refl told), (d.answers run s).1)) as_were
        (record { later = d.leaves.later; worked = tt; none = d.leaves.none; failed = tt; still_on = d.leaves.still_on; others = d.leaves.others })
        (λ tell run s stands. let k = d.kept tell run s stands in record { next = k.next; is_next = k.is_next; done = tt; any_moment = k.any_moment })

    pub request_lacking : (new : Bridged) → Did {Q = Q} (NoMemory new.store) (NoMemory new.store) → t.reply ≡ no_memory_reply → new.answers ≡ t.old.answers → Answered (On new)
    request_lacking new d told as_were =
        let code = code_of t.reply no_memory_reply told in
        request_undone new (λ is_zero. omega (arith, code, is_zero), λ fault. omega (arith, code, fault)) d.undone
        (λ run s. (kind.steps run t.reply run (lacks_memory (d.answers run s).0 refl told), (d.answers run s).1)) as_were d.leaves d.kept

    pub request_faulted : Did {Q = Q} Faulted Faulted → t.reply ≡ fault_reply → Answered Ended
    request_faulted d told =
        let code : t.reply.code ≡ fault_code = code_of t.reply fault_reply told in
        record {
          step = λ run s. kind.valid run (d.answers run s.store);
          told = told;
          untouched = λ asks. absurd ((kind.asks t.reply asks).1 code);
          leaves = record { later = d.leaves.later; none = tt; ends = d.leaves.failed; others = d.leaves.others; still_on = λ tell. tt };
          kept = λ tell run s stands.
              let k = d.kept tell run s stands in
              crashes_faulted run request.event (t.seen t.before) (t.seen t.after) t.reply (record { next = k.next; any_moment = k.any_moment }) code k.is_next;
          answers = tt;
        }
