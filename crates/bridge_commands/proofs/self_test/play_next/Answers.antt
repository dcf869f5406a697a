use Rattle.std.proofs.Common.{subst}
use Rattle.generated_chain.specs.declared.run.Round.{Round}
use Rattle.bridge_commands.specs.Playing.{PlaysRound}
use Rattle.bridge_commands.proofs.self_test.play_next.Goals as goal

pub returns-in-Ok-clause-round : goal.returns-in-Ok-clause-round
returns-in-Ok-clause-round g c =
    subst (λ (round : Round). PlaysRound g.D.Disk.tells g.D.Disk.seen c.args.course c.args.disk.now round c.play_round.new.disk c.play_round.result) c.in-Ok.ensures.round c.play_round.ensures
