-- What files stand for where a store is on them.
use Rattle.std.proofs.Common.{◌≡◌, inl, inr, true, refl, arith}
use Rattle.disk_model.specs.Moments.{EachMoment, start}
use Rattle.disk_model.specs.DiskSeen.{DiskSeen, bytes_in}
use Rattle.feed_frames.specs.Replies.{Reply}
use Rattle.chain_commands.specs.Event.{Event}
use Rattle.chain_commands.specs.RunState.{RunState}
use Rattle.bridge_core.specs.Leaving.{IsDoneBy}
use Rattle.name_store.specs.Stands.{Stands, EachStands, EachStandsForEither}
use Rattle.name_store.specs.Stored.{Stored, StandsFor, IsOn}
use Rattle.name_store.proofs.StoreLemmas.{stands_again}
use Rattle.bridge_core.specs.Bridge.{AreFilesOf, IsUndone, OutlivesCrashes, fault_code}

module _ (store : Stored) (seen : DiskSeen) (on : IsOn store seen.moments.now) (run : RunState) (s : StandsFor store run) (stands : Stands (bytes_in seen) run) where
  each_of : EachStands seen.moments.now run
  each_of = λ image is. stands_again true refl store seen seen on run s stands image is

  pub moments_of : EachMoment (EachStandsForEither run run) seen.moments seen.moments
  moments_of = start (λ image is. inl (each_of image is))

  pub files_of : AreFilesOf run seen.moments.now
  files_of = record { read = stands; each = each_of }

-- what crashes left meanwhile
pub record Left (run : RunState) (before after : DiskSeen) : Type 0 where
  pub next : RunState
  pub any_moment : EachMoment (EachStandsForEither run next) before.moments after.moments

module _ (run : RunState) (event : Event) (before after : DiskSeen) (reply : Reply) (left : Left run before after) where
  -- the event was done
  pub crashes_done : reply.code ≡ 0 → IsDoneBy run event left.next → AreFilesOf left.next after.moments.now → OutlivesCrashes run event before after reply
  crashes_done is_zero made files = record {
    next = left.next;
    is_next = record { made = λ either. made; same = λ undone. absurd (undone.0 is_zero) };
    any_moment = left.any_moment;
    done = λ is. files;
    undone = λ undone. absurd (undone.0 is_zero);
  }

  -- it was not, and no fault came
  pub crashes_undone : IsUndone reply → left.next ≡ run → AreFilesOf run after.moments.now → OutlivesCrashes run event before after reply
  crashes_undone undone same files = record {
    next = left.next;
    is_next = record { made = λ either. elim either [ inl is_zero ↦ absurd (undone.0 is_zero) | inr fault ↦ absurd (undone.1 fault) ]; same = λ is. same };
    any_moment = left.any_moment;
    done = λ is_zero. absurd (undone.0 is_zero);
    undone = λ is. files;
  }

  -- a fault came
  pub crashes_faulted : reply.code ≡ fault_code → IsDoneBy run event left.next → OutlivesCrashes run event before after reply
  crashes_faulted fault made = record {
    next = left.next;
    is_next = record { made = λ either. made; same = λ undone. absurd (undone.1 fault) };
    any_moment = left.any_moment;
    done = λ is_zero. absurd (omega (arith, is_zero, fault));
    undone = λ undone. absurd (undone.1 fault);
  }
