use Rattle.image_writer.proofs.PieceLemmas.{given_more}
use Rattle.image_writer.proofs.text.ImageText.next.Goals as goal

pub loop-filled-preserved : goal.loop-filled-preserved
loop-filled-preserved c =
    given_more c.args.self.now c.loop-filled.self c.give-count.new.self c.args.buf.now c.loop-filled.buf c.give-count.new.buf c.loop-filled.filled c.give-count.result c.give-count.auto.buf
    c.loop-filled.invariant c.give-count.ensures
