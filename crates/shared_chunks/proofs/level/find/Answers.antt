use Rattle.std.proofs.Common.{◌≡◌, ◌+◌, ◌∷◌, ◌++◌, ℕ, length, sym, ◌∙◌, subst, arith}
use Rattle.shared_chunks.proofs.Between.{cut}
use Rattle.shared_chunks.proofs.Order.{above_from_equal, above_from_greater}
use Rattle.shared_chunks.proofs.Parts.{Around, all_parts, left_of, one_part, right_of, low_within}
use Rattle.shared_chunks.proofs.level.find.Goals as goal

pub loop-rest-init : goal.loop-rest-init
loop-rest-init g c = all_parts c.args.subs.now c.args.key.now c.requires.some

pub loop-rest-preserved-in-Less : goal.loop-rest-preserved-in-Less
loop-rest-preserved-in-Less g c =
    let e = cut c.loop-rest.rest.now c.split_at.result.0.now c.split_at.result.1.now c.in-Some.field-0-1.now _ c.in-Some.sub.now c.split_at.ensures.front c.split_at.ensures.back c.in-Some.ensures.cases.0 in
    left_of g.met.K.Ord.total c.args.subs.now c.split_at.result.0.now c.in-Some.field-0-1.now c.in-Some.sub.now c.low.result.now c.args.key.now c.loop-rest.low c.requires.order c.low.ensures (sym c.in-Less.ensures)
    (omega (arith, c.split_at.ensures.front_len, c.loop-rest-test.true))
    (subst (λ z. Around g.K.Ord.cmp c.args.subs.now c.args.key.now z c.loop-rest.low) e c.loop-rest.invariant)

pub loop-rest-preserved-in-Equal : goal.loop-rest-preserved-in-Equal
loop-rest-preserved-in-Equal g c =
    let e = cut c.loop-rest.rest.now c.split_at.result.0.now c.split_at.result.1.now c.in-Some.field-0-1.now _ c.in-Some.sub.now c.split_at.ensures.front c.split_at.ensures.back c.in-Some.ensures.cases.0 in
    subst (λ (z : ℕ). Around g.K.Ord.cmp c.args.subs.now c.args.key.now c.split_at.result.1.now (c.loop-rest.low + z)) c.split_at.ensures.front_len
    (subst (λ z. Around g.K.Ord.cmp c.args.subs.now c.args.key.now z (c.loop-rest.low + length c.split_at.result.0.now)) (sym c.in-Some.ensures.cases.0)
    (right_of g.met.K.Ord.total c.args.subs.now c.split_at.result.0.now c.in-Some.field-0-1.now c.in-Some.sub.now c.low.result.now c.args.key.now c.loop-rest.low c.requires.order c.low.ensures (above_from_equal g.met.K.Ord.total c.args.key.now c.low.result.now.0 (sym c.in-Equal.ensures))
    (subst (λ z. Around g.K.Ord.cmp c.args.subs.now c.args.key.now z c.loop-rest.low) e c.loop-rest.invariant)))

pub loop-rest-preserved : goal.loop-rest-preserved
loop-rest-preserved g c =
    let e = cut c.loop-rest.rest.now c.split_at.result.0.now c.split_at.result.1.now c.in-Some.field-0-1.now _ c.in-Some.sub.now c.split_at.ensures.front c.split_at.ensures.back c.in-Some.ensures.cases.0 in
    subst (λ (z : ℕ). Around g.K.Ord.cmp c.args.subs.now c.args.key.now c.split_at.result.1.now (c.loop-rest.low + z)) c.split_at.ensures.front_len
    (subst (λ z. Around g.K.Ord.cmp c.args.subs.now c.args.key.now z (c.loop-rest.low + length c.split_at.result.0.now)) (sym c.in-Some.ensures.cases.0)
    (right_of g.met.K.Ord.total c.args.subs.now c.split_at.result.0.now c.in-Some.field-0-1.now c.in-Some.sub.now c.low.result.now c.args.key.now c.loop-rest.low c.requires.order c.low.ensures (above_from_greater g.met.K.Ord.total c.args.key.now c.low.result.now.0 (sym c.in-Greater.ensures))
    (subst (λ z. Around g.K.Ord.cmp c.args.subs.now c.args.key.now z c.loop-rest.low) e c.loop-rest.invariant)))

pub returns : goal.returns
returns g c = one_part c.args.subs.now c.args.key.now c.loop-rest.rest.now c.loop-rest.low (omega (arith, c.loop-rest-test.false)) c.loop-rest.invariant
