use Rattle.std.proofs.Common.{◌<◌, ◌≤◌, sym, subst, ◌∙◌, arith}
use Rattle.std.specs.Prelude.{IsTrue, IsFalse}
use Rattle.std.specs.Option.{is_some}
use Rattle.feed_frames.specs.Replies.{Reply}
use Rattle.chain_commands.specs.Reply.{no_memory_reply}
use Rattle.chain_commands.specs.Saving.{CheckpointLimit, most_selections, save_refusal_reply}
use Rattle.name_lister.specs.Answers.{AnswersList}
use Rattle.name_lister.specs.Event.{Begin}
use Rattle.name_lister.specs.Lister.{Listed}
use Rattle.name_lister.specs.Saver.{running_reply}
use Rattle.name_lister.specs.declared.lister.ListTurned.TheVariants.{On}
use Rattle.name_lister.proofs.BeginLemmas.{begin_aside, begins_while_one_runs, begins_at_limit, begins_without_memory}
use Rattle.name_lister.proofs.SaverLemmas.{no_saving}
use Rattle.name_lister.proofs.lister.Lister.begin_save.Goals as goal

pub returns-then-is_some : goal.returns-then-is_some
returns-then-is_some g c =
    let old = c.args.self in
    let some : IsTrue (is_some old.saving) = subst (λ (o : Listed). IsTrue (is_some o.saving)) c.self.view_is (sym c.is_some.ensures ∙ c.if-is_some.true) in
    subst (λ (r : Reply). AnswersList g.D.Disk.tells g.D.Disk.seen old c.args.disk.now Begin r (On old) c.args.disk.now) (sym c.refuse_running.ensures)
    (begin_aside g.D.Disk.tells g.D.Disk.seen old c.args.disk.now c.requires.on_disk running_reply (λ is. omega (arith, is), λ is. omega (arith, is)) (λ state s. begins_while_one_runs state.run old.saving state.saver some s.saving))

pub returns-then-selections : goal.returns-then-selections
returns-then-selections g c =
    let old = c.args.self in
    let none : IsFalse (is_some old.saving) = subst (λ (o : Listed). IsFalse (is_some o.saving)) c.self.view_is (sym c.is_some.ensures ∙ c.if-is_some.false) in
    let many : most_selections ≤ old.bridge.store.slots.count = subst (λ (o : Listed). most_selections ≤ o.bridge.store.slots.count) c.self.view_is (omega (arith, c.selections.ensures, c.if-selections.true)) in
    subst (λ (r : Reply). AnswersList g.D.Disk.tells g.D.Disk.seen old c.args.disk.now Begin r (On old) c.args.disk.now) (sym c.refuse_save.ensures)
    (begin_aside g.D.Disk.tells g.D.Disk.seen old c.args.disk.now c.requires.on_disk (save_refusal_reply CheckpointLimit) (λ is. omega (arith, is), λ is. omega (arith, is)) (λ state s. begins_at_limit old (no_saving old.saving none) state s many))

pub returns-in-Err : goal.returns-in-Err
returns-in-Err g c =
    let old = c.args.self in
    let none : IsFalse (is_some old.saving) = subst (λ (o : Listed). IsFalse (is_some o.saving)) c.self.view_is (sym c.is_some.ensures ∙ c.if-is_some.false) in
    let few : old.bridge.store.slots.count < most_selections =
    subst (λ (o : Listed). o.bridge.store.slots.count < most_selections) c.self.view_is (omega (arith, c.selections.ensures, c.selections.type_inv, c.if-selections.false)) in
    subst (λ (r : Reply). AnswersList g.D.Disk.tells g.D.Disk.seen old c.args.disk.now Begin r (On old) c.args.disk.now) (sym c.lack_memory.ensures)
    (begin_aside g.D.Disk.tells g.D.Disk.seen old c.args.disk.now c.requires.on_disk no_memory_reply (λ is. omega (arith, is), λ is. omega (arith, is)) (λ state s. begins_without_memory old (no_saving old.saving none) state s few))
