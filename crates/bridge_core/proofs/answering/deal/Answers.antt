use Rattle.std.proofs.Common.{sym, subst}
use Rattle.frame_loop.specs.Turns.{GoesOn, GoesOut}
use Rattle.chain_commands.specs.Event.{event_frame}
use Rattle.bridge_core.specs.Reached.{Ready, Reached, Broken}
use Rattle.bridge_core.specs.Views.{request_of}
use Rattle.bridge_core.specs.declared.bridge.Turned.{Turned}
use Rattle.bridge_core.specs.declared.bridge.Turned.TheVariants.{On}
use Rattle.bridge_core.proofs.AnsweringLemmas.{goes_on_by, goes_out_by}
use Rattle.bridge_core.proofs.answering.deal.Goals as goal

pub returns-in-On-act : goal.returns-in-On-act
returns-in-On-act g c =
    let tells = g.D.Disk.tells in
    let seen = g.D.Disk.seen in
    let event = request_of c.args.request in
    subst (λ (t : Turned). GoesOn (Ready tells seen) (Reached tells seen) (t, c.args.disk.now) (event_frame event) c.act.new.reply (On c.in-On-act.next, c.act.new.disk)) c.in-On.ensures.value
    (goes_on_by tells seen c.args.disk.now c.act.new.disk c.in-On.bridge c.act.new.reply event c.in-On-act.next c.in-On-act.ensures)

pub returns-in-Ended-act : goal.returns-in-Ended-act
returns-in-Ended-act g c =
    let tells = g.D.Disk.tells in
    let seen = g.D.Disk.seen in
    let event = request_of c.args.request in
    subst (λ (t : Turned). GoesOut (Reached tells seen) (Broken tells seen) (t, c.args.disk.now) (event_frame event) c.act.new.reply (c.replace.new.dest, c.act.new.disk)) c.in-On.ensures.value
    (subst (λ (t : Turned). GoesOut (Reached tells seen) (Broken tells seen) (On c.in-On.bridge, c.args.disk.now) (event_frame event) c.act.new.reply (t, c.act.new.disk)) (sym c.replace.ensures.after)
    (goes_out_by tells seen c.args.disk.now c.act.new.disk c.in-On.bridge c.act.new.reply event c.in-Ended-act.ensures))
