use Rattle.std.proofs.Common.{◌+◌, ◌≤◌, subst, sym}
use Rattle.std.specs.Prelude.{IsTrue}
use Rattle.name_lister.specs.Answers.{AnswersList}
use Rattle.name_lister.specs.Event.{Page}
use Rattle.name_lister.specs.Lister.{Listed, listed, IsListOn}
use Rattle.name_lister.specs.declared.lister.ListTurned.TheVariants.{On}
use Rattle.name_lister.proofs.TurnLemmas.{paged}
use Rattle.name_lister.proofs.lister.Lister.turn_page.Goals as goal

pub returns-clause-answers : goal.returns-clause-answers
returns-clause-answers g c =
    let tells = g.D.Disk.tells in
    let seen = g.D.Disk.seen in
    let disk = c.args.disk.now in
    let old = listed c.lister.inside.bridge c.lister.inside.mirror c.lister.inside.sessions c.lister.inside.page c.lister.inside.saving in
    let new = listed c.lister.inside.bridge c.lister.inside.mirror c.page.new.self c.lister.inside.page c.lister.inside.saving in
    let on : IsTrue tells → IsListOn old (seen disk).moments.now = subst (λ (o : Listed). IsTrue tells → IsListOn o (seen disk).moments.now) (sym c.lister.view_is) c.requires.on_disk in
    subst (λ (o : Listed). AnswersList tells seen o disk (Page c.args.number) c.page.new.reply (On new) disk) c.lister.view_is
    (paged tells seen old disk on c.page.new.reply c.page.new.self c.args.number c.page.ensures.step)

pub returns-clause-mirror : goal.returns-clause-mirror
returns-clause-mirror g c = subst (λ (o : Listed). c.page.new.steps ≤ c.args.mirror_steps.now + o.page) c.lister.view_is c.page.ensures.cost
