use Rattle.sliced_save.proofs.IndexMirror.{index_left}
use Rattle.sliced_save.proofs.mirror.Mirror.disconnected.Goals as goal

pub returns-clause-mirror : goal.returns-clause-mirror
returns-clause-mirror g c index mirror = index_left index c.args.self c.go_back.new.self c.in_ok-go_back.ensures.back mirror
