use Rattle.std.proofs.Common.{List, length, refl, sym, ap, subst, ◌∙◌, arith}
use Rattle.chain_names.specs.declared.undo.UndoOp.{UndoOp}
use Rattle.chain_names.specs.Tables.{names_in}
use Rattle.registrations.specs.declared.taking.Taken.{Taken}
use Rattle.registrations.proofs.ListLemmas.{length-more}
use Rattle.registrations.proofs.TakingLemmas.{IsTaking, none_taken, one_taken, taken_whole}
use Rattle.registrations.proofs.taking.take_ops.Goals as goal

pub loop-op-init : goal.loop-op-init
loop-op-init g c = record {
  room = omega (arith, c.in_ok-back.ensures.room, c.len.ensures);
  going = none_taken c.args.ops.items (names_in c.args.names.now) c.in_ok-back.back.items c.in_ok-back.ensures.items;
  list = refl;
}

pub push-requires : goal.push-requires
push-requires g c = omega (arith, c.loop-op.invariant.room, ap length c.in-Some.ensures.some, length-more c.pop.new.self.items c.in-Some.op)

pub loop-op-smaller : goal.loop-op-smaller
loop-op-smaller g c = omega (arith, ap length c.in-Some.ensures.some, length-more c.pop.new.self.items c.in-Some.op)

pub loop-op-preserved : goal.loop-op-preserved
loop-op-preserved g c =
    let now = names_in c.loop-op.names in
    record {
      room = omega (arith, c.loop-op.invariant.room, ap length c.in-Some.ensures.some, length-more c.pop.new.self.items c.in-Some.op, c.push.ensures.spare);
      going =
          subst (λ (back : List Taken). IsTaking c.args.ops.items (names_in c.args.names.now) c.pop.new.self.items (names_in c.take_op.new.names) back) (sym c.push.ensures.items)
          (one_taken c.args.ops.items (names_in c.args.names.now) c.pop.new.self.items c.in-Some.op now (names_in c.take_op.new.names) c.loop-op.back.items c.take_op.result
          c.take_op.ensures.back (subst (λ (ops : List UndoOp). IsTaking c.args.ops.items (names_in c.args.names.now) ops now c.loop-op.back.items) c.in-Some.ensures.some c.loop-op.invariant.going));
      list = c.take_op.ensures.list ∙ c.loop-op.invariant.list;
    }

pub returns-clause-ops : goal.returns-clause-ops
returns-clause-ops g c = (taken_whole _ _ _ _ _ c.in_default.ensures.none c.loop-op.invariant.going).0

pub returns-clause-names : goal.returns-clause-names
returns-clause-names g c = (taken_whole _ _ _ _ _ c.in_default.ensures.none c.loop-op.invariant.going).1

pub returns-clause-list : goal.returns-clause-list
returns-clause-list g c = c.loop-op.invariant.list
