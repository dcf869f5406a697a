use Rattle.state_image.proofs.RegisteredLemmas.{registered_formed}
use Rattle.state_image.proofs.WholeLemmas.{judged}
use Rattle.state_image.proofs.settling.judge.Goals as goal

pub soundness-requires : goal.soundness-requires
soundness-requires c = registered_formed c.args.version c.args.parts.now c.register.new.parts c.in_ok-register.ensures c.requires

pub returns : goal.returns
returns c = judged c.args.version c.args.base.now c.args.parts.now c.register.new.parts c.soundness.result c.in_ok-register.ensures c.soundness.ensures
