-- The draft of the save that runs in slices, through a command.
use Rattle.std.proofs.Common.{◌≡◌, Option, Some, None, ap, subst, sym, inl, inr}
use Rattle.std.specs.Prelude.{◌≢◌, ◌⊎◌, Bool, IsTrue}
use Rattle.std.proofs.lemmas.Bool.{cases_eq}
use Rattle.disk_model.specs.DiskSeen.{DiskSeen}
use Rattle.disk_model.proofs.MomentLemmas.{last_moment}
use Rattle.feed_frames.specs.Replies.{Reply}
use Rattle.chain_commands.specs.Event.{Command, Do}
use Rattle.name_store.specs.Stored.{Stored, IsOn}
use Rattle.name_store.proofs.DraftingLemmas.{draft_of_stays, draft_of_still, draft_stays, draft_still}
use Rattle.bridge_core.specs.Bridge.{AnswersEvent}
use Rattle.bridge_core.specs.Bridged.{Bridged}
use Rattle.bridge_core.specs.Growing.{GrowsOn, AddsOn}
use Rattle.bridge_core.specs.declared.bridge.Turned.TheVariants as bridge
use Rattle.name_lister.specs.Lister.{Listed, IsListOn}
use Rattle.name_lister.specs.Saving.{IsSavingOf, IsSavingOn}
use Rattle.name_lister.specs.declared.saving.Saving.{Saving}

module _ {D : Type 0} (tells : Bool) (seen : D → DiskSeen) (old : Bridged) (before after : D) (command : Command) (reply : Reply) (new : Bridged)
    (by : AnswersEvent tells seen old before (Do command) reply (bridge.On new) after) (grows : GrowsOn command old.store reply (bridge.On new)) where
  -- it is one of the store behind it
  saving_of : (saving : Option Saving) → (reply.code ≡ 0) ⊎ (reply.code ≢ 0) → IsSavingOf old.store saving → IsSavingOf new.store saving
  saving_of None which is = tt
  saving_of (Some saving) (inl is_zero) is = (draft_of_stays command old.store new.store saving.draft (grows.0 is_zero) is.0, is.1)
  saving_of (Some saving) (inr other) is = (draft_of_still old.store new.store saving.draft (grows.1 other) is.0, is.1)

  pub stays_of : (saving : Option Saving) → IsSavingOf old.store saving → IsSavingOf new.store saving
  stays_of saving is = saving_of saving (cases_eq reply.code 0) is

  -- and it is on the disk behind it
  saving_on : IsTrue tells → (IsTrue tells → AddsOn command old.store (seen before) (seen after) reply (bridge.On new)) → (saving : Option Saving) → (reply.code ≡ 0) ⊎ (reply.code ≢ 0)
      → IsSavingOf old.store saving → IsOn old.store (seen before).moments.now → IsSavingOn old.store saving (seen before).moments.now → IsSavingOn new.store saving (seen after).moments.now
  saving_on told adds None which is held on = tt
  saving_on told adds (Some saving) (inl is_zero) is held on =
      draft_stays command old.store new.store saving.draft saving.slices.text (seen before).moments.now (seen after).moments.now (grows.0 is_zero) held (last_moment (by.leaves.others told))
      (adds told is_zero) is.0 on
  saving_on told adds (Some saving) (inr other) is held on =
      draft_still old.store new.store saving.draft saving.slices.text (seen after).moments.now (grows.1 other)
      (subst (λ (d : D). IsSavingOn old.store (Some saving) (seen d).moments.now) (sym (by.untouched (other, by.told))) on)

  pub stays_on : (lister : Listed) → lister.bridge ≡ old → IsSavingOf old.store lister.saving → (IsTrue tells → AddsOn command old.store (seen before) (seen after) reply (bridge.On new))
      → (IsTrue tells → IsListOn lister (seen before).moments.now) → IsTrue tells → IsSavingOn new.store lister.saving (seen after).moments.now
  stays_on lister same is adds on told =
      let store = ap (λ (b : Bridged). b.store) same in
      let files = (seen before).moments.now in
      saving_on told adds lister.saving (cases_eq reply.code 0) is (subst (λ (s : Stored). IsOn s files) store (on told).store)
      (subst (λ (s : Stored). IsSavingOn s lister.saving files) store (on told).saving)
