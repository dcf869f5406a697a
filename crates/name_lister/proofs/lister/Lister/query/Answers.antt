use Rattle.std.proofs.Common.{refl, sym, ap, subst}
use Rattle.std.specs.Prelude.{IsTrue}
use Rattle.chain_commands.specs.Event.{Ask}
use Rattle.chain_commands.specs.RunState.{chain_of}
use Rattle.name_store.specs.Stored.{Stored}
use Rattle.bridge_core.specs.Views.{carrier_of}
use Rattle.bridge_core.proofs.AnsweringLemmas.{asked_answers}
use Rattle.name_lister.specs.Answers.{AnswersList}
use Rattle.name_lister.specs.Event.{Plain}
use Rattle.name_lister.specs.Lister.{Listed, listed, IsListOn}
use Rattle.name_lister.specs.Saving.{IsSavingOn}
use Rattle.name_lister.specs.declared.lister.ListTurned.TheVariants.{On}
use Rattle.name_lister.proofs.SaverLemmas.{asked_message}
use Rattle.name_lister.proofs.TurnLemmas.{plain_on, stay_mirror}
use Rattle.name_lister.proofs.lister.Lister.query.Goals as goal

pub returns : goal.returns
returns g c =
    let tells = g.D.Disk.tells in
    let seen = g.D.Disk.seen in
    let disk = c.args.disk.now in
    let carrier = carrier_of c.args.transport in
    let message = c.args.message.now in
    let reply = c.query.new.reply in
    let old = listed c.lister.inside.bridge c.lister.inside.mirror c.lister.inside.sessions c.lister.inside.page c.lister.inside.saving in
    let new = listed c.query.new.self c.lister.inside.mirror c.lister.inside.sessions c.lister.inside.page c.lister.inside.saving in
    let on : IsTrue tells → IsListOn old (seen disk).moments.now = subst (λ (o : Listed). IsTrue tells → IsListOn o (seen disk).moments.now) (sym c.lister.view_is) c.requires.on_disk in
    subst (λ (o : Listed). AnswersList tells seen o disk (Plain (Ask carrier message)) reply (On new) disk) c.lister.view_is
    (plain_on tells seen old disk disk (Ask carrier message) reply new (asked_message old.saving carrier message)
    (asked_answers tells seen disk old.bridge new.bridge reply carrier message (λ told. (on told).store) c.query.ensures)
    (stay_mirror old new reply (Ask carrier message) (λ run next step. ap chain_of step.unchanged) refl)
    (record { held = refl; page = refl; saving = refl; still = λ told. subst (λ (x : Stored). IsSavingOn x old.saving (seen disk).moments.now) (sym c.query.ensures.same_store) (on told).saving }))
