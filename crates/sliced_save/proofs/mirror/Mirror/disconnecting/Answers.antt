use Rattle.std.proofs.Common.{sym, subst}
use Rattle.sliced_save.specs.Mirror.{Mirrored, MirrorsIndex}
use Rattle.sliced_save.proofs.mirror.Mirror.disconnecting.Goals as goal

pub returns-clause-mirror : goal.returns-clause-mirror
returns-clause-mirror g c mirror = c.in_ok-before.ensures.mirror c.args.chain.now (subst (λ (m : Mirrored). MirrorsIndex c.args.chain.now m) (sym c.in_ok-mirror.ensures) mirror)
