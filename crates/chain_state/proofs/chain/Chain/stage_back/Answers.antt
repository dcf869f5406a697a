use Rattle.std.proofs.Common.{◌≡◌, ◌≢◌, ◌-◌, ◌+◌, ◌*◌, ◌≤◌, List, [], length, refl, sym, ap, subst, ◌∙◌, arith}
use Rattle.std.specs.Prelude.{Some, slice_get}
use Rattle.nmc_base.specs.Roomy.{Roomy}
use Rattle.chain_names.specs.declared.undo.Undo.{Undo}
use Rattle.chain_names.specs.Seen.{seen_undo}
use Rattle.chain_state.specs.Chain.{Indexed, SameIndex, indexed_of, index_of}
use Rattle.name_tables.specs.Parts.{newest_first}
use Rattle.name_tables.specs.Tables.{AreFilled}
use Rattle.name_tables.specs.Room.{HasRoom}
use Rattle.name_tables.specs.declared.tables.Tables.{Tables}
use Rattle.chain_state.specs.StageBack.{IsBackRefusal, IsStagedBackOn, back_commit_steps, newest_work}
use Rattle.chain_state.specs.declared.back.BackRefusal.TheVariants.{AtBase, NotTip}
use Rattle.chain_state.proofs.DisconnectLemmas.{EndsIn, ends_in, none_last, newest_is, at_the_base, back_cheap, not_the_tip, staged_back, stage_again, same_again, newest_none, is_the_tip, room_for}
use Rattle.chain_state.proofs.chain.Chain.stage_back.Goals as goal

pub returns-then-ne-clause-stages : goal.returns-then-ne-clause-stages
returns-then-ne-clause-stages g c =
    let s = c.self.inside in
    subst (λ (x : Indexed). SameIndex x x × IsBackRefusal x c.args.hash (NotTip s.tip.hash)) c.self.view_is
    (not_the_tip (indexed_of s.base s.tip s.parts) s.parts.undos.items c.args.hash refl (λ none. c.if-len-eq0.false (c.len.ensures ∙ none)) c.if-ne.ensures)

pub invariant_of-result : goal.invariant_of-result
invariant_of-result g c =
    let s = c.self.inside in
    let undo = c.in-Some.undo.now in
    let undos = c.split-tables.result.1 in
    let ends : EndsIn undos.items undo = ends_in undos.items undo (subst (λ (l : List Undo). slice_get l (length l - 1) ≡ Some undo) c.as_slice.ensures (sym c.in-Some.ensures.value)) in
    let same : newest_first undos.items ≡ newest_first s.parts.undos.items = ap (λ (l : Roomy Undo). newest_first l.items) c.split-tables.ensures.undos in
    let from : c.split-tables.result.0 ≡ (indexed_of s.base s.tip s.parts).tables = c.split-tables.ensures.tables in
    staged_back (indexed_of s.base s.tip s.parts) c.self.invariant (seen_undo undo) (newest_first ends.front) (sym same ∙ newest_is undos.items undo ends)
    c.make_room.new.self c.in-Ok.empty
    (room_for (indexed_of s.base s.tip s.parts).tables c.make_room.new.self c.in-Ok.empty c.as_slice-2.ensures c.as_slice-3.ensures
    (subst (λ (t : Tables). HasRoom t c.make_room.new.self c.as_slice-2.result.now c.as_slice-3.result.now c.in-Ok.empty) from c.in-Ok.ensures.ok)) undos same

pub joined-requires : goal.joined-requires
joined-requires g c =
    let s = c.self.inside in
    let undos = c.split-tables.result.1 in
    let held = c.in-Err.ensures.err in
    let from : c.split-tables.result.0 ≡ (indexed_of s.base s.tip s.parts).tables = c.split-tables.ensures.tables in
    stage_again (indexed_of s.base s.tip s.parts) c.self.invariant c.split-tables.result.0 from c.make_room.new.self undos
    (ap (λ (l : Roomy Undo). newest_first l.items) c.split-tables.ensures.undos) held.0 held.1

pub returns-in-Err-clause-stages : goal.returns-in-Err-clause-stages
returns-in-Err-clause-stages g c =
    let s = c.self.inside in
    let undos = c.split-tables.result.1 in
    let whole : Indexed = indexed_of s.base s.tip s.parts in
    let from : c.split-tables.result.0 ≡ whole.tables = c.split-tables.ensures.tables in
    let held = c.in-Err.ensures.err in
    let same : SameIndex (index_of s.base s.tip c.make_room.new.self undos) whole =
    same_again whole c.split-tables.result.0 from c.make_room.new.self undos (ap (λ (l : Roomy Undo). newest_first l.items) c.split-tables.ensures.undos) held.0 in
    let some : whole.undos ≢ [] = λ none. c.if-len-eq0.false (c.len.ensures ∙ newest_none s.parts.undos.items none) in
    subst (λ (x : Indexed). SameIndex c.joined.result x × (x.undos ≢ []) × (c.args.hash ≡ x.tip.hash)) c.self.view_is
    (subst (λ (x : Indexed). SameIndex x whole) (sym c.joined.ensures) same, some, is_the_tip c.args.hash s.tip.hash c.if-ne.ensures)

pub returns-in-Ok-clause-stages : goal.returns-in-Ok-clause-stages
returns-in-Ok-clause-stages g c =
    let s = c.self.inside in
    let undos = c.split-tables.result.1 in
    let whole : Indexed = indexed_of s.base s.tip s.parts in
    let from : c.split-tables.result.0 ≡ whole.tables = c.split-tables.ensures.tables in
    let some : whole.undos ≢ [] = λ none. c.if-len-eq0.false (c.len.ensures ∙ newest_none s.parts.undos.items none) in
    subst (λ (x : Indexed). IsStagedBackOn x c.args.hash (index_of s.base s.tip c.make_room.new.self undos)) c.self.view_is
    (record {
      above = some;
      hash_is = is_the_tip c.args.hash s.tip.hash c.if-ne.ensures;
      same = same_again whole c.split-tables.result.0 from c.make_room.new.self undos (ap (λ (l : Roomy Undo). newest_first l.items) c.split-tables.ensures.undos) c.in-Ok.ensures.ok.same;
    })

pub returns-then-len-eq0-clause-stages : goal.returns-then-len-eq0-clause-stages
returns-then-len-eq0-clause-stages g c =
    let s = c.self.inside in
    subst (λ (x : Indexed). SameIndex x x × IsBackRefusal x c.args.hash AtBase) c.self.view_is
    (at_the_base (indexed_of s.base s.tip s.parts) s.parts.undos.items c.args.hash refl (sym c.len.ensures ∙ c.if-len-eq0.true))

pub unreachable-requires : goal.unreachable-requires
unreachable-requires g c =
    c.if-len-eq0.false (c.len.ensures ∙ ap (λ (l : Roomy Undo). length l.items) (sym c.split-tables.ensures.undos)
    ∙ ap length (sym c.as_slice.ensures ∙ none_last c.as_slice.result.now (sym c.in_default.ensures.value)))

pub make_room-requires : goal.make_room-requires
make_room-requires g c = record { filled = subst AreFilled (sym c.split-tables.ensures.tables) c.self.invariant.filled }

pub returns-then-len-eq0-clause-cost : goal.returns-then-len-eq0-clause-cost
returns-then-len-eq0-clause-cost g c = tt

pub returns-then-ne-clause-cost : goal.returns-then-ne-clause-cost
returns-then-ne-clause-cost g c = tt

pub returns-in-Err-clause-cost : goal.returns-in-Err-clause-cost
returns-in-Err-clause-cost g c = tt

pub returns-in-Ok-clause-cost : goal.returns-in-Ok-clause-cost
returns-in-Ok-clause-cost g c =
    let s = c.self.inside in
    let undo = c.in-Some.undo.now in
    let undos = c.split-tables.result.1 in
    let ends : EndsIn undos.items undo = ends_in undos.items undo (subst (λ (l : List Undo). slice_get l (length l - 1) ≡ Some undo) c.as_slice.ensures (sym c.in-Some.ensures.value)) in
    let same : newest_first undos.items ≡ newest_first s.parts.undos.items = ap (λ (l : Roomy Undo). newest_first l.items) c.split-tables.ensures.undos in
    let ops : length c.as_slice-2.result.now ≡ length undo.ops.items = ap length c.as_slice-2.ensures in
    let expired : length c.as_slice-3.result.now ≡ length undo.expired.items = ap length c.as_slice-3.ensures in
    subst (λ (x : Indexed). c.make_room.new.steps + back_commit_steps (newest_first undos.items) ≤ c.args.steps.now + 12 * newest_work x.undos + 8) c.self.view_is
    (back_cheap (newest_first s.parts.undos.items) (newest_first undos.items) same (seen_undo undo) (newest_first ends.front) (sym same ∙ newest_is undos.items undo ends)
    c.args.steps.now c.make_room.new.steps (omega (arith, ops, expired, c.in-Ok.ensures.cost)))
