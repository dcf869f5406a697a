-- A chain of no blocks that starts with the makes is sound.
use Rattle.std.proofs.Common.{ℕ, ◌+◌, ◌≤◌, List, [], length, sym, subst, lit≤}
use Rattle.nmc_base.specs.Heights.{highest}
use Rattle.nmc_base.specs.declared.chain_ends.Base.{Base}
use Rattle.chain_names.specs.Coins.{Maps}
use Rattle.chain_names.specs.Index.{index_maps}
use Rattle.chain_names.specs.Sound.{IsSound}
use Rattle.chain_names.specs.declared.undo.Undo.{Undo}
use Rattle.chain_names.proofs.IndexLemmas.{index_sound}
use Rattle.name_tables.specs.Parts.{newest_first, tables_of}
use Rattle.name_tables.specs.Tables.{maps_by}
use Rattle.name_tables.specs.declared.parts.Parts.{Parts}
use Rattle.chain_state.specs.Chain.{kept_tip}
use Rattle.name_snapshot.specs.Answers.{HasStart}
use Rattle.name_snapshot.specs.Text.{start_of}
use Rattle.table_trials.specs.declared.chains.made_snapshot.TheConstants.{BASE}
use Rattle.table_trials.proofs.chains.many_names.started.Goals as goal

start_sound : (base : Base) (text : List ℕ) (parts : Parts) → base.height ≤ highest → HasStart base text parts
    → IsSound base.profile base.height (kept_tip base parts).height (maps_by (tables_of parts)) (newest_first parts.undos.items)
start_sound base text parts low has =
    let start = start_of has.makes in
    let maps : Maps = index_maps base.profile start base.height [] in
    subst (λ (m : Maps). IsSound base.profile base.height (base.height + length parts.undos.items) m (newest_first parts.undos.items)) (sym has.maps_are)
    (subst (λ (undos : List Undo). IsSound base.profile base.height (base.height + length undos) maps (newest_first undos)) (sym has.no_undos)
    (index_sound base.profile start base.height [] [] (record { low = low; starts = has.is_start }) tt))

pub from_parts-requires-clause-sound : goal.from_parts-requires-clause-sound
from_parts-requires-clause-sound c = start_sound BASE c.in-Ok.ensures.0 c.in-Ok.parts (lit≤ tt) c.in-Ok.ensures.1
