use Rattle.std.proofs.Common.{◌≡◌, ℕ, Option, sym, ap, subst, ◌∙◌}
use Rattle.std.specs.Option.{option_copied}
use Rattle.std.specs.Prelude.{IsTrue}
use Rattle.nmc_base.specs.declared.chain_ends.Base.{Base}
use Rattle.nmc_base.specs.declared.chain_ends.Profile.{Profile}
use Rattle.chain_state.specs.Chain.{Indexed}
use Rattle.listing_sessions.specs.Pinned.{AreTakenFrom}
use Rattle.sliced_save.specs.Mirror.{Mirrored}
use Rattle.std.specs.Prelude.{IsTrue}
use Rattle.name_lister.specs.Answers.{AnswersList}
use Rattle.name_lister.specs.Event.{Open}
use Rattle.name_lister.specs.Lister.{Listed, listed, IsListOn}
use Rattle.name_lister.specs.declared.lister.ListTurned.TheVariants.{On}
use Rattle.name_lister.proofs.TurnLemmas.{opened}
use Rattle.name_lister.proofs.lister.Lister.open_session.Goals as goal

pub returns : goal.returns
returns g c =
    let tells = g.D.Disk.tells in
    let seen = g.D.Disk.seen in
    let disk = c.args.disk.now in
    let mirror = option_copied c.as_ref.result in
    let index = c.lister.inside.bridge.store.index in
    let old = listed c.lister.inside.bridge c.lister.inside.mirror c.lister.inside.sessions c.lister.inside.page c.lister.inside.saving in
    let new = listed c.lister.inside.bridge c.lister.inside.mirror c.open.new.self c.lister.inside.page c.lister.inside.saving in
    let profile : c.base.result.now.profile ≡ index.base.profile = ap (λ (b : Base). b.profile) c.base.ensures ∙ ap (λ (i : Indexed). i.base.profile) c.chain-chain.ensures in
    let height : c.height_of-height.result ≡ index.tip.height = c.height_of-height.ensures.same ∙ ap (λ (i : Indexed). i.tip.height) c.chain-chain.ensures in
    let on : IsTrue tells → IsListOn old (seen disk).moments.now = subst (λ (o : Listed). IsTrue tells → IsListOn o (seen disk).moments.now) (sym c.lister.view_is) c.requires.on_disk in
    subst (λ (o : Listed). AnswersList tells seen o disk Open c.open.new.reply (On new) disk) c.lister.view_is
    (opened tells seen old disk on c.open.new.reply c.open.new.self (λ chain taken.
    c.open.ensures chain
    (subst (λ (p : Profile). AreTakenFrom chain mirror p c.height_of-height.result) (sym profile)
    (subst (λ (h : ℕ). AreTakenFrom chain mirror index.base.profile h) (sym height)
    (subst (λ (m : Option Mirrored). AreTakenFrom chain m index.base.profile index.tip.height) (sym c.as_ref.ensures.value) taken)))))
