use Rattle.std.proofs.Common.{◌≡◌, ℕ, ◌+◌, ◌-◌, ◌*◌, ◌^◌, ◌<◌, ◌∷◌, [], sym, ap, ◌∙◌, subst, arith}
use Rattle.shared_chunks.specs.Eight.{number}
use Rattle.shared_chunks.specs.Rising.{step, step_past, fits, fits_any, nil_of}
use Rattle.shared_chunks.proofs.hints.number_of.Goals as goal

pub overflow_mul-sum : goal.overflow_mul-sum
overflow_mul-sum c = omega (arith, fits_any c.loop-left.sum c.loop-left.left _ c.args.bytes.now (omega (arith, c.loop-left-test.true)) c.loop-left.invariant)

pub loop-left-preserved-in-None : goal.loop-left-preserved-in-None
loop-left-preserved-in-None c =
    let e = nil_of c.loop-left.rest.now c.in-None.ensures.cases in
    ap (λ z. (c.loop-left.sum * 256) * 256 ^ (c.loop-left.left - 1) + number (c.loop-left.left - 1) z) e
    ∙ step_past c.loop-left.sum c.loop-left.left (omega (arith, c.loop-left-test.true))
    ∙ ap (λ z. c.loop-left.sum * 256 ^ c.loop-left.left + number c.loop-left.left z) (sym e) ∙ c.loop-left.invariant

pub overflow_mul-sum-in-Some : goal.overflow_mul-sum-in-Some
overflow_mul-sum-in-Some c = omega (arith, fits_any c.loop-left.sum c.loop-left.left _ c.args.bytes.now (omega (arith, c.loop-left-test.true)) c.loop-left.invariant)

pub overflow_add-sum : goal.overflow_add-sum
overflow_add-sum c =
    omega (
      arith,
      fits c.loop-left.sum c.loop-left.left c.in-Some.byte.now c.in-Some.more.now c.args.bytes.now (omega (arith, c.loop-left-test.true)) (omega arith)
          (ap (λ z. c.loop-left.sum * 256 ^ c.loop-left.left + number c.loop-left.left z) (sym c.in-Some.ensures.cases.0) ∙ c.loop-left.invariant),
    )

pub loop-left-preserved : goal.loop-left-preserved
loop-left-preserved c =
    step c.loop-left.sum c.loop-left.left c.in-Some.byte.now c.in-Some.more.now (omega (arith, c.loop-left-test.true)) (omega arith)
    ∙ ap (λ z. c.loop-left.sum * 256 ^ c.loop-left.left + number c.loop-left.left z) (sym c.in-Some.ensures.cases.0) ∙ c.loop-left.invariant
