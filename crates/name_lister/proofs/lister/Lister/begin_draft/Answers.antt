use Rattle.std.proofs.Common.{◌≡◌, ◌<◌, length, None, Some, sym, ap, subst, ◌∙◌}
use Rattle.std.specs.Prelude.{IsTrue}
use Rattle.feed_frames.specs.Replies.{Reply}
use Rattle.chain_state.specs.Chain.{IsIndexed}
use Rattle.chain_commands.specs.Saving.{most_selections, save_refusal_reply}
use Rattle.name_store.specs.Saves.{save_refusal_of}
use Rattle.bridge_core.specs.Bridge.{fault_reply}
use Rattle.name_lister.specs.Answers.{AnswersList}
use Rattle.name_lister.specs.Event.{Begin}
use Rattle.name_lister.specs.Lister.{Listed, listed, IsListOn}
use Rattle.name_lister.specs.Saver.{begun_reply}
use Rattle.name_lister.specs.Saving.{IsPinnedBy}
use Rattle.name_lister.specs.declared.lister.ListTurned.TheVariants.{On, Ended}
use Rattle.name_lister.proofs.BeginLemmas.{draft_begun, draft_refused, draft_failed}
use Rattle.name_lister.proofs.PieceLemmas.{pinned_size}
use Rattle.name_lister.proofs.lister.Lister.begin_draft.Goals as goal

pub returns-in-Begun : goal.returns-in-Begun
returns-in-Begun g c =
    let tells = g.D.Disk.tells in
    let seen = g.D.Disk.seen in
    let before = c.args.disk.now in
    let after = c.begin_draft.new.disk in
    let inside = c.self.inside in
    let slices = c.args.slices in
    let old = listed inside.bridge inside.mirror inside.sessions inside.page inside.saving in
    let none : inside.saving ≡ None = ap (λ (o : Listed). o.saving) c.self.view_is ∙ c.requires.none in
    let pinned : IsPinnedBy inside.mirror slices = subst (λ (o : Listed). IsPinnedBy o.mirror slices) (sym c.self.view_is) c.requires.pinned in
    let indexed : IsIndexed inside.bridge.store.index = subst IsIndexed c.chain.ensures c.parts-parts.ensures.sound in
    let size : c.left.result ≡ length slices.text = c.left.ensures.left ∙ pinned_size inside.mirror slices pinned in
    let new = listed c.in-Begun.bridge inside.mirror inside.sessions inside.page (Some (record { draft = c.in-Begun.draft; slices = slices })) in
    subst (λ (r : Reply). AnswersList tells seen c.args.self before Begin r (On new) after) (sym c.tell_begun.ensures)
    (subst (λ (o : Listed). AnswersList tells seen o before Begin begun_reply (On new) after) c.self.view_is
    (draft_begun tells seen old before after none indexed slices pinned c.left.result size c.in-Begun.bridge c.in-Begun.draft c.in-Begun.ensures.answer c.in-Begun.ensures.leaves c.in-Begun.ensures.answers))

pub returns-in-Refused : goal.returns-in-Refused
returns-in-Refused g c =
    let tells = g.D.Disk.tells in
    let seen = g.D.Disk.seen in
    let before = c.args.disk.now in
    let after = c.begin_draft.new.disk in
    let inside = c.self.inside in
    let slices = c.args.slices in
    let old = listed inside.bridge inside.mirror inside.sessions inside.page inside.saving in
    let none : inside.saving ≡ None = ap (λ (o : Listed). o.saving) c.self.view_is ∙ c.requires.none in
    let pinned : IsPinnedBy inside.mirror slices = subst (λ (o : Listed). IsPinnedBy o.mirror slices) (sym c.self.view_is) c.requires.pinned in
    let indexed : IsIndexed inside.bridge.store.index = subst IsIndexed c.chain.ensures c.parts-parts.ensures.sound in
    let size : c.left.result ≡ length slices.text = c.left.ensures.left ∙ pinned_size inside.mirror slices pinned in
    let few : inside.bridge.store.slots.count < most_selections = subst (λ (o : Listed). o.bridge.store.slots.count < most_selections) (sym c.self.view_is) c.requires.few in
    let on : IsTrue tells → IsListOn old (seen before).moments.now = subst (λ (o : Listed). IsTrue tells → IsListOn o (seen before).moments.now) (sym c.self.view_is) c.requires.on_disk in
    let new = listed c.in-Refused.bridge inside.mirror inside.sessions inside.page None in
    subst (λ (r : Reply). AnswersList tells seen c.args.self before Begin r (On new) after) (sym c.refuse_save.ensures)
    (subst (λ (o : Listed). AnswersList tells seen o before Begin (save_refusal_reply (save_refusal_of c.in-Refused.refusal)) (On new) after) c.self.view_is
    (draft_refused tells seen old before after none indexed slices pinned c.left.result size on c.in-Refused.bridge c.in-Refused.ensures.answers c.in-Refused.ensures.undone c.in-Refused.refusal few c.in-Refused.ensures.answer))

pub returns-in-Ended : goal.returns-in-Ended
returns-in-Ended g c =
    let tells = g.D.Disk.tells in
    let seen = g.D.Disk.seen in
    let before = c.args.disk.now in
    let after = c.begin_draft.new.disk in
    let inside = c.self.inside in
    let slices = c.args.slices in
    let old = listed inside.bridge inside.mirror inside.sessions inside.page inside.saving in
    let none : inside.saving ≡ None = ap (λ (o : Listed). o.saving) c.self.view_is ∙ c.requires.none in
    let pinned : IsPinnedBy inside.mirror slices = subst (λ (o : Listed). IsPinnedBy o.mirror slices) (sym c.self.view_is) c.requires.pinned in
    let indexed : IsIndexed inside.bridge.store.index = subst IsIndexed c.chain.ensures c.parts-parts.ensures.sound in
    let size : c.left.result ≡ length slices.text = c.left.ensures.left ∙ pinned_size inside.mirror slices pinned in
    let few : inside.bridge.store.slots.count < most_selections = subst (λ (o : Listed). o.bridge.store.slots.count < most_selections) (sym c.self.view_is) c.requires.few in
    subst (λ (r : Reply). AnswersList tells seen c.args.self before Begin r Ended after) (sym c.tell_fault.ensures)
    (subst (λ (o : Listed). AnswersList tells seen o before Begin fault_reply Ended after) c.self.view_is
    (draft_failed tells seen old before after none indexed slices pinned c.left.result size few c.in-Ended.ensures.answer.1 c.in-Ended.ensures.leaves))
