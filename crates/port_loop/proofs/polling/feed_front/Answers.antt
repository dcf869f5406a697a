use Rattle.std.proofs.Common.{arith}
use Rattle.frame_loop.proofs.FillingLemmas.{part_is_short}
use Rattle.port_loop.proofs.polling.feed_front.Goals as goal

pub feed-requires-clause-room : goal.feed-requires-clause-room
feed-requires-clause-room c =
    omega (arith, part_is_short c.args.frames.now.kinds c.args.frames.now.left c.requires.answered, c.front.ensures.within)
