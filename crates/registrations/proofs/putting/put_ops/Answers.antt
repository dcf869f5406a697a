use Rattle.std.proofs.Common.{List, length, sym, ap, subst, arith}
use Rattle.chain_names.specs.declared.undo.UndoOp.{UndoOp}
use Rattle.chain_names.specs.Tables.{names_in}
use Rattle.registrations.specs.declared.taking.Taken.{Taken}
use Rattle.registrations.proofs.ListLemmas.{length-more}
use Rattle.registrations.proofs.PlaceLemmas.{none_filled, then_filled}
use Rattle.registrations.proofs.PuttingLemmas.{IsPutting, none_put_yet, one_put, put_whole}
use Rattle.registrations.proofs.putting.put_ops.Goals as goal

pub loop-taken-init : goal.loop-taken-init
loop-taken-init g c = record {
  room = omega (arith, c.in_ok-ops.ensures.room, c.len.ensures);
  going = none_put_yet c.args.back.items (names_in c.args.names.now) c.in_ok-ops.ops.items c.in_ok-ops.ensures.items;
  places = none_filled c.args.names.now;
}

pub push-requires : goal.push-requires
push-requires g c = omega (arith, c.loop-taken.invariant.room, ap length c.in-Some.ensures.some, length-more c.pop.new.self.items c.in-Some.taken)

pub loop-taken-smaller : goal.loop-taken-smaller
loop-taken-smaller g c = omega (arith, ap length c.in-Some.ensures.some, length-more c.pop.new.self.items c.in-Some.taken)

pub loop-taken-preserved : goal.loop-taken-preserved
loop-taken-preserved g c =
    let now = names_in c.loop-taken.names in
    record {
      room = omega (arith, c.loop-taken.invariant.room, ap length c.in-Some.ensures.some, length-more c.pop.new.self.items c.in-Some.taken, c.push.ensures.spare);
      going =
          subst (λ (ops : List UndoOp). IsPutting c.args.back.items (names_in c.args.names.now) c.pop.new.self.items (names_in c.put_op.new.names) ops) (sym c.push.ensures.items)
          (one_put c.args.back.items (names_in c.args.names.now) c.pop.new.self.items c.in-Some.taken now (names_in c.put_op.new.names) c.loop-taken.ops.items c.in_ok-put_op.field-0
          (c.in_ok-put_op.ensures.op, c.in_ok-put_op.ensures.names)
          (subst (λ (back : List Taken). IsPutting c.args.back.items (names_in c.args.names.now) back now c.loop-taken.ops.items) c.in-Some.ensures.some c.loop-taken.invariant.going));
      places = then_filled c.args.names.now c.loop-taken.names c.put_op.new.names c.loop-taken.invariant.places c.in_ok-put_op.ensures.places;
    }

pub returns-clause-ops : goal.returns-clause-ops
returns-clause-ops g c = (put_whole _ _ _ _ _ c.in_default.ensures.none c.loop-taken.invariant.going).0

pub returns-clause-names : goal.returns-clause-names
returns-clause-names g c = (put_whole _ _ _ _ _ c.in_default.ensures.none c.loop-taken.invariant.going).1

pub returns-clause-places : goal.returns-clause-places
returns-clause-places g c = c.loop-taken.invariant.places
