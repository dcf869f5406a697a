-- What a lister keeps, and what it stands for.
use Rattle.std.specs.Prelude.{ℕ, List, Option}
use Rattle.disk_model.specs.Moments.{Files}
use Rattle.bridge_core.specs.Bridged as bridges
use Rattle.bridge_core.specs.Bridged.{Bridged}
use Rattle.chain_commands.specs.RunState.{chain_of}
use Rattle.listing_sessions.specs.Pinned.{IsMirrorOn, StandFor}
use Rattle.listing_sessions.specs.Pages.{Pinned}
use Rattle.name_store.specs.Stored.{IsOn}
use Rattle.sliced_save.specs.Mirror.{Mirrored}
use Rattle.name_lister.specs.Saving.{SavesFor, IsSavingOn}
use Rattle.name_lister.specs.Step.{ListState}
use Rattle.name_lister.specs.declared.saving.Saving.{Saving}

-- the bridge, the mirror of its index, the listings that are open, how many rows a page has, and the sliced save that runs
pub record Listed : Type 0 where
  pub bridge : Bridged
  pub mirror : Option Mirrored
  pub held : List (Option Pinned)
  pub page : ℕ
  pub saving : Option Saving

abbrev pub listed : Bridged → Option Mirrored → List (Option Pinned) → ℕ → Option Saving → Listed
listed bridge mirror held page saving = record { bridge = bridge; mirror = mirror; held = held; page = page; saving = saving }

-- The bridge stands for the run state, and the mirror is that of its chain; the listings are those of the sessions, and the save is the
-- machine's.
pub record StandsFor (lister : Listed) (state : ListState) : Type 0 where
  pub bridge : bridges.StandsFor lister.bridge state.run
  -- behind a want of memory it isn't there
  pub mirror : IsMirrorOn (chain_of state.run) lister.mirror
  pub sessions : StandFor lister.held state.sessions
  pub saving : SavesFor state.run lister.saving state.saver

-- the bridge's store is on the disk, and so is the draft of the save that runs
pub record IsListOn (lister : Listed) (files : Files) : Type 0 where
  pub store : IsOn lister.bridge.store files
  pub saving : IsSavingOn lister.bridge.store lister.saving files
