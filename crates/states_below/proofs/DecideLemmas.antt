-- The walk decides, with what is left at the base.
use Rattle.std.proofs.Common.{◌≡◌, ℕ, Bool, true, false, List, [], refl, sym, true≢false}
use Rattle.std.specs.Prelude.{Result, Ok}
use Rattle.nmc_base.specs.declared.chain_ends.Profile.{Profile}
use Rattle.nmc_base.specs.declared.no_memory.NoMemory.{NoMemory}
use Rattle.chain_names.specs.declared.undo.Undo.{Undo}
use Rattle.chain_names.specs.Coins.{Maps}
use Rattle.sound_states.specs.Walk.{IsBottom, IsWalk}
use Rattle.states_below.specs.Scan.{TellsWhether}
use Rattle.states_below.specs.Walking.{newest_first, WalksDown}
use Rattle.states_below.proofs.TellLemmas.{tells_as}

bottom_walk : (profile : Profile) (base : ℕ) (maps : Maps) → IsBottom profile base maps → IsWalk profile base base maps []
bottom_walk profile base maps bottom = (refl, bottom)

pub decided : (profile : Profile) (base tip : ℕ) (undos : List Undo) (start left : Maps) (down : Bool) (result : Result Bool NoMemory)
    → WalksDown profile base tip undos start left (Ok down) → down ≡ true → TellsWhether (IsBottom profile base left) result
    → TellsWhether (IsWalk profile base tip start (newest_first undos)) result
decided profile base tip undos start left true result walks is told =
    tells_as (IsBottom profile base left) (IsWalk profile base tip start (newest_first undos)) result (λ bottom. walks.from (bottom_walk profile base left bottom)) (λ walk. (walks.to walk).1) told
decided profile base tip undos start left false result walks is told = absurd (true≢false (sym is))

pub undecided : (profile : Profile) (base tip : ℕ) (undos : List Undo) (start left : Maps) (down : Bool) → WalksDown profile base tip undos start left (Ok down) → down ≡ false
    → IsWalk profile base tip start (newest_first undos) → ⊥
undecided profile base tip undos start left true walks is walk = true≢false is
undecided profile base tip undos start left false walks is walk = walks walk
