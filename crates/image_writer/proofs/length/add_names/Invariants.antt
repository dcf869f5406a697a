use Rattle.image_writer.proofs.CountLemmas.{CountsNames}
use Rattle.image_writer.proofs.length.add_names.Given as goal

abbrev pub invariant-loop-i : goal.invariant-loop-i
invariant-loop-i g l = CountsNames l.names l.total l.sum l.i
