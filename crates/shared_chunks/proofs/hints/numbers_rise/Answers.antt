use Rattle.shared_chunks.specs.Rising.{rising}
use Rattle.shared_chunks.proofs.hints.numbers_rise.Goals as goal

pub returns : goal.returns
returns g xs ys h = rising 8 xs ys h
