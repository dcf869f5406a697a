use Rattle.image_writer.proofs.FrontLemmas.{copied}
use Rattle.image_writer.proofs.front.front_of.Goals as goal

pub returns : goal.returns
returns g c = copied g.row.N c.args.key.now c.copy_into.new.buf c.copy_into.result c.copy_into.ensures.count c.copy_into.ensures.front c.copy_into.ensures.behind
