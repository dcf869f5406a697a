use Rattle.std.proofs.Common.{refl, sym, subst, ◌∙◌}
use Rattle.std.specs.Prelude.{IsTrue, IsFalse}
use Rattle.std.specs.Option.{is_some}
use Rattle.feed_frames.specs.Replies.{Reply}
use Rattle.chain_commands.specs.Event.{Save}
use Rattle.chain_commands.proofs.SavingLemmas.{save_leaves_chain}
use Rattle.name_lister.specs.Answers.{AnswersList}
use Rattle.name_lister.specs.Event.{Plain}
use Rattle.name_lister.specs.Lister.{Listed, listed}
use Rattle.name_lister.specs.declared.lister.ListTurned.TheVariants.{On, Ended}
use Rattle.name_lister.proofs.BeginLemmas.{save_aside}
use Rattle.name_lister.proofs.SaverLemmas.{asked_save, none_on}
use Rattle.name_lister.proofs.TurnLemmas.{plain_on, plain_ended, stay_mirror}
use Rattle.name_lister.proofs.lister.Lister.save.Goals as goal

pub returns-in-On : goal.returns-in-On
returns-in-On g c =
    let tells = g.D.Disk.tells in
    let seen = g.D.Disk.seen in
    let reply = c.save.new.reply in
    let inside = c.self.inside in
    let none : IsFalse (is_some inside.saving) = sym c.is_some.ensures ∙ c.if-is_some.false in
    let old = listed inside.bridge inside.mirror inside.sessions inside.page inside.saving in
    let new = listed c.in-On.bridge inside.mirror inside.sessions inside.page inside.saving in
    subst (λ (o : Listed). AnswersList tells seen o c.args.disk.now (Plain Save) reply (On new) c.save.new.disk) c.self.view_is
    (plain_on tells seen old c.args.disk.now c.save.new.disk Save reply new (asked_save inside.saving none) c.in-On.ensures
    (stay_mirror old new reply Save (λ run next step. save_leaves_chain run next reply step) refl)
    (record { held = refl; page = refl; saving = refl; still = λ told. none_on inside.saving none c.in-On.bridge.store (seen c.save.new.disk).moments.now }))

pub returns-in-Ended : goal.returns-in-Ended
returns-in-Ended g c =
    let inside = c.self.inside in
    let old = listed inside.bridge inside.mirror inside.sessions inside.page inside.saving in
    subst (λ (o : Listed). AnswersList g.D.Disk.tells g.D.Disk.seen o c.args.disk.now (Plain Save) c.save.new.reply Ended c.save.new.disk) c.self.view_is
    (plain_ended g.D.Disk.tells g.D.Disk.seen old c.args.disk.now c.save.new.disk Save c.save.new.reply (asked_save inside.saving (sym c.is_some.ensures ∙ c.if-is_some.false)) c.in-Ended.ensures)

pub returns-then-is_some : goal.returns-then-is_some
returns-then-is_some g c =
    let some : IsTrue (is_some c.args.self.saving) = subst (λ (o : Listed). IsTrue (is_some o.saving)) c.self.view_is (sym c.is_some.ensures ∙ c.if-is_some.true) in
    subst (λ (r : Reply). AnswersList g.D.Disk.tells g.D.Disk.seen c.args.self c.args.disk.now (Plain Save) r (On c.args.self) c.args.disk.now) (sym c.refuse_running.ensures)
    (save_aside g.D.Disk.tells g.D.Disk.seen c.args.self c.args.disk.now c.requires.on_disk some)
