use Rattle.std.proofs.Common.{List, length, sym, ap, subst, ◌∙◌, arith}
use Rattle.chain_names.specs.declared.undo.Undo.{Undo}
use Rattle.chain_names.specs.Tables.{names_in}
use Rattle.registrations.specs.declared.taking.TakenBack.{TakenBack}
use Rattle.registrations.proofs.ListLemmas.{length-more}
use Rattle.registrations.proofs.PlaceLemmas.{none_filled, then_filled}
use Rattle.registrations.proofs.PuttingLemmas.{IsPuttingUndos, no_undo_put, one_undo_put, undos_put_whole}
use Rattle.registrations.proofs.putting.put_undos.Goals as goal

pub loop-taken-init : goal.loop-taken-init
loop-taken-init g c = record {
  room = omega (arith, c.in_ok-reserve.ensures.room, c.len.ensures);
  going = no_undo_put c.args.back.items (names_in c.args.names.now) c.reserve.new.self.items (c.reserve.ensures.items ∙ c.requires);
  places = none_filled c.args.names.now;
}

pub push-requires : goal.push-requires
push-requires g c = omega (arith, c.loop-taken.invariant.room, ap length c.in-Some.ensures.some, length-more c.pop.new.self.items c.in-Some.taken)

pub loop-taken-smaller : goal.loop-taken-smaller
loop-taken-smaller g c = omega (arith, ap length c.in-Some.ensures.some, length-more c.pop.new.self.items c.in-Some.taken)

pub loop-taken-preserved : goal.loop-taken-preserved
loop-taken-preserved g c =
    let now = names_in c.loop-taken.names in
    record {
      room = omega (arith, c.loop-taken.invariant.room, ap length c.in-Some.ensures.some, length-more c.pop.new.self.items c.in-Some.taken, c.push.ensures.spare);
      going =
          subst (λ (undos : List Undo). IsPuttingUndos c.args.back.items (names_in c.args.names.now) c.pop.new.self.items (names_in c.put_undo.new.names) undos) (sym c.push.ensures.items)
          (one_undo_put c.args.back.items (names_in c.args.names.now) c.pop.new.self.items c.in-Some.taken now (names_in c.put_undo.new.names) c.loop-taken.undos.items c.in_ok-put_undo.field-0
          (c.in_ok-put_undo.ensures.undo, c.in_ok-put_undo.ensures.names)
          (subst (λ (back : List TakenBack). IsPuttingUndos c.args.back.items (names_in c.args.names.now) back now c.loop-taken.undos.items) c.in-Some.ensures.some c.loop-taken.invariant.going));
      places = then_filled c.args.names.now c.loop-taken.names c.put_undo.new.names c.loop-taken.invariant.places c.in_ok-put_undo.ensures.places;
    }

pub returns : goal.returns
returns g c =
    let whole = undos_put_whole _ _ _ _ _ c.in_default.ensures.none c.loop-taken.invariant.going in
    record { names_are = whole.1; undos_are = whole.0; places = c.loop-taken.invariant.places }
