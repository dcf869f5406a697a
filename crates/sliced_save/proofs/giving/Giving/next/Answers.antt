use Rattle.std.proofs.Common.{arith, ◌∙◌}
use Rattle.image_writer.proofs.PieceLemmas.{given_more}
use Rattle.sliced_save.proofs.giving.Giving.next.Goals as goal

pub loop-filled-preserved : goal.loop-filled-preserved
loop-filled-preserved g c = (
  given_more c.args.self.now.rest c.loop-filled.self.rest c.give-count.new.self.rest c.args.buf.now c.loop-filled.buf c.give-count.new.buf c.loop-filled.filled c.give-count.result c.give-count.auto.buf
      c.loop-filled.invariant.0 c.give-count.ensures.gives,
  c.give-count.ensures.text ∙ c.loop-filled.invariant.1,
  omega (arith, c.give-count.ensures.cost, c.loop-filled.invariant.2),
)
