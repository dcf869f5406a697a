use Rattle.std.proofs.Common.{sym, subst}
use Rattle.frame_loop.specs.Turns.{GoesOn}
use Rattle.chain_commands.specs.Event.{Ask, event_frame}
use Rattle.bridge_core.specs.Reached.{IsReady, Ready, Reached}
use Rattle.bridge_core.specs.Views.{carrier_of}
use Rattle.bridge_core.specs.declared.bridge.Turned.{Turned}
use Rattle.bridge_core.specs.declared.bridge.Turned.TheVariants.{On}
use Rattle.bridge_core.proofs.AnsweringLemmas.{goes_on_by, asked_answers}
use Rattle.bridge_core.proofs.answering.ask.Goals as goal

pub returns-in-On : goal.returns-in-On
returns-in-On g c =
    let tells = g.D.Disk.tells in
    let seen = g.D.Disk.seen in
    let disk = c.args.disk.now in
    let bridge = c.in-On.bridge in
    let carrier = carrier_of c.args.transport in
    let message = c.args.message.now in
    let reply = c.query.new.reply in
    let new = c.query.new.self in
    let ready = subst (λ (t : Turned). IsReady tells t (seen disk)) c.in-On.is c.requires.ready in
    subst (λ (t : Turned). GoesOn (Ready tells seen) (Reached tells seen) (t, disk) (event_frame (Ask carrier message)) reply (On new, disk)) (sym c.in-On.is)
    (goes_on_by tells seen disk disk bridge reply (Ask carrier message) new (asked_answers tells seen disk bridge new reply carrier message ready c.query.ensures))
