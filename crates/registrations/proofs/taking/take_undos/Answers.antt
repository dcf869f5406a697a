use Rattle.std.proofs.Common.{List, length, refl, sym, ap, subst, ◌∙◌, arith}
use Rattle.chain_names.specs.declared.undo.Undo.{Undo}
use Rattle.chain_names.specs.Tables.{names_in}
use Rattle.registrations.specs.declared.taking.TakenBack.{TakenBack}
use Rattle.registrations.proofs.ListLemmas.{length-more}
use Rattle.registrations.proofs.TakingLemmas.{IsTakingUndos, no_undo_taken, one_undo_taken, undos_taken_whole}
use Rattle.registrations.proofs.taking.take_undos.Goals as goal

pub loop-undo-init : goal.loop-undo-init
loop-undo-init g c = record {
  room = omega (arith, c.in_ok-back.ensures.room, c.len.ensures);
  going = no_undo_taken c.args.undos.now.items (names_in c.args.names.now) c.in_ok-back.back.items c.in_ok-back.ensures.items;
  list = refl;
}

pub push-requires : goal.push-requires
push-requires g c = omega (arith, c.loop-undo.invariant.room, ap length c.in-Some.ensures.some, length-more c.pop.new.self.items c.in-Some.undo)

pub loop-undo-smaller : goal.loop-undo-smaller
loop-undo-smaller g c = omega (arith, ap length c.in-Some.ensures.some, length-more c.pop.new.self.items c.in-Some.undo)

pub loop-undo-preserved : goal.loop-undo-preserved
loop-undo-preserved g c =
    let now = names_in c.loop-undo.names in
    record {
      room = omega (arith, c.loop-undo.invariant.room, ap length c.in-Some.ensures.some, length-more c.pop.new.self.items c.in-Some.undo, c.push.ensures.spare);
      going =
          subst (λ (back : List TakenBack). IsTakingUndos c.args.undos.now.items (names_in c.args.names.now) c.pop.new.self.items (names_in c.take_undo.new.names) back) (sym c.push.ensures.items)
          (one_undo_taken c.args.undos.now.items (names_in c.args.names.now) c.pop.new.self.items c.in-Some.undo now (names_in c.take_undo.new.names) c.loop-undo.back.items c.in_ok-take_undo.field-0
          (c.in_ok-take_undo.ensures.back, c.in_ok-take_undo.ensures.names)
          (subst (λ (undos : List Undo). IsTakingUndos c.args.undos.now.items (names_in c.args.names.now) undos now c.loop-undo.back.items) c.in-Some.ensures.some c.loop-undo.invariant.going));
      list = c.in_ok-take_undo.ensures.list ∙ c.loop-undo.invariant.list;
    }

pub returns-clause-back : goal.returns-clause-back
returns-clause-back g c = (undos_taken_whole _ _ _ _ _ c.in_default.ensures.none c.loop-undo.invariant.going).0

pub returns-clause-names : goal.returns-clause-names
returns-clause-names g c = (undos_taken_whole _ _ _ _ _ c.in_default.ensures.none c.loop-undo.invariant.going).1

pub returns-clause-list : goal.returns-clause-list
returns-clause-list g c = c.loop-undo.invariant.list
