use Rattle.std.proofs.Common.{◌≡◌, ◌+◌, ◌-◌, List, length, refl, sym, ap, subst, ◌∙◌, arith}
use Rattle.std.specs.Prelude.{Some, slice_get}
use Rattle.chain_names.specs.declared.undo.Undo.{Undo}
use Rattle.chain_names.specs.Coins.{Maps}
use Rattle.chain_names.specs.Tables.{queue_of}
use Rattle.chain_state.specs.Back.{block_work}
use Rattle.chain_state.specs.Chain.{Indexed, SameIndex, index_of}
use Rattle.chain_state.specs.StageBack.{newest_work}
use Rattle.chain_state.specs.Whole.{IsWhole}
use Rattle.chain_state.specs.declared.whole.Whole.{Whole}
use Rattle.chain_state.proofs.ClearLemmas.{cleared, whole_filled, committed}
use Rattle.chain_state.proofs.DisconnectLemmas.{EndsIn, ends_in, newest_is, none_last, never_none, whole_back, abandoned_back}
use Rattle.chain_state.proofs.back.StagedBack.abandon.Goals as goal

pub unreachable-requires : goal.unreachable-requires
unreachable-requires g c =
    let s = c.self.inside in
    never_none s.base s.tip s.tables s.undos s.empty c.self.invariant
    (sym c.as_slice.ensures ∙ none_last c.as_slice.result.now (sym c.in_default.ensures.value))

pub joined-requires : goal.joined-requires
joined-requires g c =
    let s = c.self.inside in
    let undo = c.in-Some.undo.now in
    let ends : EndsIn s.undos.items undo = ends_in s.undos.items undo (subst (λ (l : List Undo). slice_get l (length l - 1) ≡ Some undo) c.as_slice.ensures (sym c.in-Some.ensures.value)) in
    let work : Whole = block_work s.tables undo.ops undo.expired s.empty s.tip.height in
    let whole : IsWhole work = whole_back s.base s.tip s.tables s.undos s.empty c.self.invariant undo ends.front ends.is in
    let filled = cleared s.tables c.clear.new.self undo.ops.items c.as_slice-2.result.now undo.expired.items c.as_slice-3.result.now c.as_slice-2.ensures c.as_slice-3.ensures
    c.clear.ensures.filled (whole_filled work whole) in
    let commits = committed work c.clear.new.self whole c.clear.ensures.same filled in
    abandoned_back s.base s.tip s.tables s.undos s.empty c.self.invariant c.clear.new.self commits.maps commits.queue commits.filled

pub returns-clause-same : goal.returns-clause-same
returns-clause-same g c =
    let s = c.self.inside in
    let undo = c.in-Some.undo.now in
    let ends : EndsIn s.undos.items undo = ends_in s.undos.items undo (subst (λ (l : List Undo). slice_get l (length l - 1) ≡ Some undo) c.as_slice.ensures (sym c.in-Some.ensures.value)) in
    let work : Whole = block_work s.tables undo.ops undo.expired s.empty s.tip.height in
    let whole : IsWhole work = whole_back s.base s.tip s.tables s.undos s.empty c.self.invariant undo ends.front ends.is in
    let filled = cleared s.tables c.clear.new.self undo.ops.items c.as_slice-2.result.now undo.expired.items c.as_slice-3.result.now c.as_slice-2.ensures c.as_slice-3.ensures
    c.clear.ensures.filled (whole_filled work whole) in
    let commits = committed work c.clear.new.self whole c.clear.ensures.same filled in
    let same : SameIndex (index_of s.base s.tip c.clear.new.self s.undos) (index_of s.base s.tip s.tables s.undos) =
    record { base = refl; tip = refl; maps = commits.maps; queue = commits.queue ∙ ap (λ (m : Maps). queue_of m.coins) commits.maps ∙ sym whole.queue; undos = refl } in
    subst (λ (x : Indexed). SameIndex c.joined.result x) c.self.view_is
    (subst (λ (x : Indexed). SameIndex x (index_of s.base s.tip s.tables s.undos)) (sym c.joined.ensures) same)

pub returns-clause-cost : goal.returns-clause-cost
returns-clause-cost g c =
    let s = c.self.inside in
    let undo = c.in-Some.undo.now in
    let ends : EndsIn s.undos.items undo = ends_in s.undos.items undo (subst (λ (l : List Undo). slice_get l (length l - 1) ≡ Some undo) c.as_slice.ensures (sym c.in-Some.ensures.value)) in
    let work : newest_work c.args.self.undos ≡ length undo.ops.items + length undo.expired.items =
    ap (λ (x : Indexed). newest_work x.undos) (sym c.self.view_is) ∙ ap newest_work (newest_is s.undos.items undo ends) in
    omega (arith, work, c.clear.ensures.cost, ap length c.as_slice-2.ensures, ap length c.as_slice-3.ensures)
