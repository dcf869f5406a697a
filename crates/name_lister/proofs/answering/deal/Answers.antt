use Rattle.std.proofs.Common.{sym, subst}
use Rattle.frame_loop.specs.Turns.{GoesOn, GoesOut}
use Rattle.name_lister.specs.Event.{list_frame}
use Rattle.name_lister.specs.Reached.{Ready, Reached, Broken}
use Rattle.name_lister.specs.Views.{list_event_of}
use Rattle.name_lister.specs.declared.lister.ListTurned.{ListTurned}
use Rattle.name_lister.specs.declared.lister.ListTurned.TheVariants.{On}
use Rattle.name_lister.proofs.ReachLemmas.{list_goes_on, list_goes_out}
use Rattle.name_lister.proofs.answering.deal.Goals as goal

pub returns-in-On-turn : goal.returns-in-On-turn
returns-in-On-turn g c =
    let tells = g.D.Disk.tells in
    let seen = g.D.Disk.seen in
    let event = list_event_of c.args.event in
    subst (λ (t : ListTurned). GoesOn (Ready tells seen) (Reached tells seen) (c.args.turned.now, c.args.disk.now) (list_frame event) c.turn.new.reply (t, c.turn.new.disk)) (sym c.replace-in-On-turn.ensures.after)
    (subst (λ (t : ListTurned). GoesOn (Ready tells seen) (Reached tells seen) (t, c.args.disk.now) (list_frame event) c.turn.new.reply (On c.in-On-turn.next, c.turn.new.disk)) c.in-On.ensures.value
    (list_goes_on tells seen c.in-On.lister c.args.disk.now c.turn.new.disk c.turn.new.reply event c.in-On-turn.next c.in-On-turn.ensures.answers))

pub returns-in-Ended-turn : goal.returns-in-Ended-turn
returns-in-Ended-turn g c =
    let tells = g.D.Disk.tells in
    let seen = g.D.Disk.seen in
    let event = list_event_of c.args.event in
    subst (λ (t : ListTurned). GoesOut (Reached tells seen) (Broken tells seen) (t, c.args.disk.now) (list_frame event) c.turn.new.reply (c.replace.new.dest, c.turn.new.disk)) c.in-On.ensures.value
    (subst (λ (t : ListTurned). GoesOut (Reached tells seen) (Broken tells seen) (On c.in-On.lister, c.args.disk.now) (list_frame event) c.turn.new.reply (t, c.turn.new.disk)) (sym c.replace.ensures.after)
    (list_goes_out tells seen c.in-On.lister c.args.disk.now c.turn.new.disk c.turn.new.reply event c.in-Ended-turn.ensures.answers))
