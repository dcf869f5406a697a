use Rattle.std.proofs.Common.{◌≡◌, ◌+◌, ◌≤◌, refl, sym, subst}
use Rattle.std.specs.Prelude.{IsTrue}
use Rattle.chain_state.specs.Chain.{Indexed}
use Rattle.chain_commands.specs.Event.{Connect, Do}
use Rattle.name_lister.specs.Answers.{AnswersList}
use Rattle.sliced_save.specs.Costs.{forth_cost}
use Rattle.name_lister.specs.Costs.{IsCheapListed}
use Rattle.name_lister.specs.Event.{Plain}
use Rattle.name_lister.specs.Kept.{IsMirrorBefore, IsMirrorNow}
use Rattle.name_lister.specs.Lister.{Listed, listed, IsListOn}
use Rattle.name_lister.specs.declared.lister.ListTurned.TheVariants.{On, Ended}
use Rattle.name_lister.proofs.SaverLemmas.{asked_command}
use Rattle.name_lister.proofs.StayLemmas.{stays_of, stays_on}
use Rattle.name_lister.proofs.TurnLemmas.{plain_on, plain_ended, connected_mirror}
use Rattle.name_lister.proofs.lister.Lister.connect.Goals as goal

pub returns-in-On-clause-answers : goal.returns-in-On-clause-answers
returns-in-On-clause-answers g c =
    let tells = g.D.Disk.tells in
    let seen = g.D.Disk.seen in
    let bytes = c.args.bytes.now in
    let reply = c.turn.new.reply in
    let inside = c.self.inside in
    let mirror = c.behind_connect-mirror.result in
    let old = listed inside.bridge inside.mirror inside.sessions inside.page inside.saving in
    let new = listed c.in-On.bridge mirror inside.sessions inside.page inside.saving in
    let on : IsTrue tells → IsListOn old (seen c.args.disk.now).moments.now = subst (λ (o : Listed). IsTrue tells → IsListOn o (seen c.args.disk.now).moments.now) (sym c.self.view_is) c.requires.on_disk in
    subst (λ (o : Listed). AnswersList tells seen o c.args.disk.now (Plain (Do (Connect bytes))) reply (On new) c.turn.new.disk) c.self.view_is
    (plain_on tells seen old c.args.disk.now c.turn.new.disk (Do (Connect bytes)) reply new (asked_command inside.saving (Connect bytes)) c.in-On.ensures.answers
    (connected_mirror old new reply bytes
    (subst (λ (i : Indexed). reply.code ≡ 0 → IsMirrorBefore i inside.mirror → IsMirrorNow i mirror) c.chain.ensures c.behind_connect-mirror.ensures.done)
    c.behind_connect-mirror.ensures.same)
    (record {
      held = refl;
      page = refl;
      saving = refl;
      still = stays_on tells seen inside.bridge c.args.disk.now c.turn.new.disk (Connect bytes) reply c.in-On.bridge c.in-On.ensures.answers c.in-On.ensures.grows old refl c.self.invariant.1 c.in-On.ensures.adds on;
    }))

pub returns-in-On-clause-cost : goal.returns-in-On-clause-cost
returns-in-On-clause-cost g c = λ is_zero.
    subst (λ (o : Listed). IsCheapListed o.bridge.store.index (Connect c.args.bytes.now) c.in-On.bridge.store.index c.args.steps.now c.turn.new.steps) c.self.view_is
    (record { cheap = c.in-On.ensures.cost is_zero })

pub returns-in-On-clause-mirror : goal.returns-in-On-clause-mirror
returns-in-On-clause-mirror g c =
    subst (λ (i : Indexed). c.behind_connect-mirror.new.steps ≤ c.args.mirror_steps.now + forth_cost i.undos) c.chain.ensures c.behind_connect-mirror.ensures.cost

pub invariant_of-result : goal.invariant_of-result
invariant_of-result g c = (
  c.self.invariant.0,
  stays_of g.D.Disk.tells g.D.Disk.seen c.self.inside.bridge c.args.disk.now c.turn.new.disk (Connect c.args.bytes.now) c.turn.new.reply c.in-On.bridge c.in-On.ensures.answers c.in-On.ensures.grows c.self.inside.saving c.self.invariant.1,
)

pub returns-in-Ended-clause-answers : goal.returns-in-Ended-clause-answers
returns-in-Ended-clause-answers g c =
    let inside = c.self.inside in
    let old = listed inside.bridge inside.mirror inside.sessions inside.page inside.saving in
    subst (λ (o : Listed). AnswersList g.D.Disk.tells g.D.Disk.seen o c.args.disk.now (Plain (Do (Connect c.args.bytes.now))) c.turn.new.reply Ended c.turn.new.disk) c.self.view_is
    (plain_ended g.D.Disk.tells g.D.Disk.seen old c.args.disk.now c.turn.new.disk (Do (Connect c.args.bytes.now)) c.turn.new.reply (asked_command inside.saving (Connect c.args.bytes.now)) c.in-Ended.ensures.answers)
