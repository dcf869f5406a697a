-- The save that runs in slices, through what any run may be asked.
use Rattle.std.proofs.Common.{◌≡◌, ◌∷◌, ℕ, List, Option, Some, None, refl, sym, ap, subst, inl, inr}
use Rattle.std.specs.Prelude.{◌≢◌, ◌⊎◌, IsFalse}
use Rattle.std.specs.Option.{is_some}
use Rattle.std.proofs.lemmas.Bool.{cases_eq}
use Rattle.feed_frames.specs.Replies.{Reply}
use Rattle.disk_model.specs.Moments.{Files}
use Rattle.chain_commands.specs.Event.{Carrier, Command, Event, Do, Ask, Save}
use Rattle.chain_commands.specs.RunState.{RunState, accepted}
use Rattle.bridge_core.specs.Step.{Step}
use Rattle.bridge_core.proofs.MachineLemmas.{step_leaves}
use Rattle.name_store.specs.Stored.{Stored}
use Rattle.name_lister.specs.Saver.{Saver}
use Rattle.name_lister.specs.Saving.{IsSaverOf, IsSavingOn, SavesFor}
use Rattle.name_lister.specs.declared.saving.Saving.{Saving}

-- the bridge is asked: it isn't for a save, while one runs in slices
abbrev pub IsAsked : Option Saving → Event → Type 0
IsAsked None event = Unit {0}
IsAsked (Some saving) (Do command) = Unit {0}
IsAsked (Some saving) (Ask carrier message) = Unit {0}
IsAsked (Some saving) Save = ⊥

pub asked_command : (saving : Option Saving) (command : Command) → IsAsked saving (Do command)
asked_command None command = tt
asked_command (Some saving) command = tt

pub asked_message : (saving : Option Saving) (carrier : Carrier) (message : List ℕ) → IsAsked saving (Ask carrier message)
asked_message None carrier message = tt
asked_message (Some saving) carrier message = tt

pub asked_save : (saving : Option Saving) → IsFalse (is_some saving) → IsAsked saving Save
asked_save None none = tt
asked_save (Some saving) none = absurd (cc none)

pub no_saving : (saving : Option Saving) → IsFalse (is_some saving) → saving ≡ None
no_saving None none = refl
no_saving (Some saving) none = absurd (cc none)

pub none_on : (saving : Option Saving) → IsFalse (is_some saving) → (store : Stored) (files : Files) → IsSavingOn store saving files
none_on None none store files = tt
none_on (Some saving) none store files = absurd (cc none)

module _ (saving : Saving) (saver : Saver) (run : RunState) (s : IsSaverOf run saving saver) where
  -- a command that is accepted is one of the newer ones
  with_command : (command : Command) → IsSaverOf (accepted run command) saving saver
  with_command command =
      let since = ap (λ (commands : List Command). command ∷ commands) s.split.since_is in
      record {
        newer = command ∷ s.newer;
        older = s.older;
        split = record { since_is = since; count_is = s.split.count_is };
        draft = record { parts = since; from_is = s.draft.from_is; index = s.draft.index; stands = s.draft.stands; is_text = s.draft.is_text };
        text_is = s.text_is;
        written_is = s.written_is;
      }

  behind_command : (command : Command) (reply : Reply) (next : RunState) → Step run (Do command) reply next → (reply.code ≡ 0) ⊎ (reply.code ≢ 0) → IsSaverOf next saving saver
  behind_command command reply next step (inl is_zero) =
      subst (λ (r : RunState). IsSaverOf r saving saver) (sym ((step_leaves run next (Do command) reply step).done is_zero)) (with_command command)
  behind_command command reply next step (inr other) =
      subst (λ (r : RunState). IsSaverOf r saving saver) (sym ((step_leaves run next (Do command) reply step).undone other)) s

-- it goes on behind each event that the bridge is asked
pub saver_follows : (saving : Option Saving) (saver : Option Saver) (event : Event) (reply : Reply) (run next : RunState) → IsAsked saving event → SavesFor run saving saver
    → Step run event reply next → SavesFor next saving saver
saver_follows None None event reply run next is s step = tt
saver_follows None (Some saver) event reply run next is s step = absurd s
saver_follows (Some saving) None event reply run next is s step = absurd s
saver_follows (Some saving) (Some saver) (Do command) reply run next is s step = behind_command saving saver run s command reply next step (cases_eq reply.code 0)
saver_follows (Some saving) (Some saver) (Ask carrier message) reply run next is s step = subst (λ (r : RunState). IsSaverOf r saving saver) (sym step.unchanged) s
saver_follows (Some saving) (Some saver) Save reply run next is s step = absurd is
