use Rattle.bridge_commands.proofs.PlayingLemmas.{one_played, one_stopped}
use Rattle.bridge_commands.proofs.playing.play.Goals as goal

pub returns-in-Ok : goal.returns-in-Ok
returns-in-Ok g c = one_played g.D.Disk.tells g.D.Disk.seen c.args.bridge c.args.disk.now c.act.new.disk c.args.request c.act.new.reply c.in-On.next c.in-On.ensures c.in-Ok.ensures

pub returns-in-Err : goal.returns-in-Err
returns-in-Err g c = one_stopped g.D.Disk.tells g.D.Disk.seen c.args.bridge c.args.disk.now c.act.new.disk c.args.request c.act.new.reply c.in-On.next c.in-On.ensures c.in-Err.stop c.in-Err.ensures
