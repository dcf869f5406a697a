use Rattle.std.proofs.Common.{ℕ, List, [], ◌∷◌}
use Rattle.nmc_base.specs.declared.chain_ends.Profile.{Profile}
use Rattle.chain_names.specs.Coins.{Maps}
use Rattle.chain_names.specs.Sound.{IsSound}
use Rattle.chain_names.specs.State.{IsState}
use Rattle.chain_names.specs.Undo.{UndoRecord}
use Rattle.sound_states.specs.Walk.{IsWalk}
use Rattle.sound_states.proofs.FewLemmas.{few_names}
use Rattle.sound_states.proofs.WalkLemmas.{walk_sound, sound_walk}
use Rattle.states_below.specs.Undoing.{maps_below}
use Rattle.states_below.specs.Walking.{newest_first}
use Rattle.states_below.proofs.TellLemmas.{tells_as, told_yes, told_no}
use Rattle.states_below.proofs.below.Below.is_sound.Goals as goal

state_of : (profile : Profile) (base tip : ℕ) (maps : Maps) (us : List UndoRecord) → IsSound profile base tip maps us → IsState profile tip maps
state_of profile base tip maps [] sound = sound.state
state_of profile base tip maps (u ∷ us) sound = sound.1.state

pub is_state-requires-clause-measured : goal.is_state-requires-clause-measured
is_state-requires-clause-measured c = record { lengths = c.requires.lengths; few = few_names (maps_below c.args.self.now) (newest_first c.args.undos.now) c.requires.few }

pub returns-then-not-branch : goal.returns-then-not-branch
returns-then-not-branch c = λ sound.
    let maps = maps_below c.args.self.now in
    told_no (IsState c.args.profile c.args.tip maps) c.in_ok-is_state.field-0 c.in_ok-is_state.ensures c.if-not-branch.true
    (state_of c.args.profile c.args.base c.args.tip maps (newest_first c.args.undos.now) sound)

pub returns : goal.returns
returns c =
    let maps = maps_below c.args.self.now in
    let profile = c.args.profile in
    let us = newest_first c.args.undos.now in
    let state = told_yes (IsState profile c.args.tip maps) c.in_ok-is_state.field-0 c.in_ok-is_state.ensures c.if-not-branch.false in
    tells_as (IsWalk profile c.args.base c.args.tip maps us) (IsSound profile c.args.base c.args.tip maps us) c.is_walk.result
    (walk_sound profile c.args.base c.args.tip maps us state c.requires.few) (sound_walk profile c.args.base c.args.tip maps us) c.is_walk.ensures
