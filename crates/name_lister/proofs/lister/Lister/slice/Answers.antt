use Rattle.std.proofs.Common.{◌≡◌, ℕ, Option, Some, None, refl, sym, ap, subst, ◌∙◌, arith}
use Rattle.std.specs.Prelude.{IsTrue}
use Rattle.feed_frames.specs.Replies.{Reply}
use Rattle.bridge_core.specs.Bridged.{Bridged}
use Rattle.name_lister.specs.Answers.{AnswersList}
use Rattle.name_lister.specs.Event.{Slice}
use Rattle.name_lister.specs.Lister.{Listed, listed, IsListOn}
use Rattle.name_lister.specs.Saver.{slice_size, no_save_reply}
use Rattle.name_lister.specs.Saving.{IsSavingOf, WritesSlice, left_by}
use Rattle.name_lister.specs.declared.lister.ListTurned.TheVariants.{On, Ended}
use Rattle.name_lister.specs.declared.saving.Saving.{Saving}
use Rattle.name_lister.proofs.BeginLemmas.{slice_aside, slices_while_none_runs}
use Rattle.name_lister.proofs.SliceLemmas.{KeepsSaving, behind_slice, slice_keeps, slice_told}
use Rattle.name_lister.proofs.lister.Lister.slice.Goals as goal

pub returns-in_default-clause-answers : goal.returns-in_default-clause-answers
returns-in_default-clause-answers g c =
    let tells = g.D.Disk.tells in
    let seen = g.D.Disk.seen in
    let disk = c.args.disk.now in
    let inside = c.self.inside in
    let old = listed inside.bridge inside.mirror inside.sessions inside.page None in
    let is : old ≡ c.args.self = ap (λ (s : Option Saving). listed inside.bridge inside.mirror inside.sessions inside.page s) (sym c.in_default.is) ∙ c.self.view_is in
    let on : IsTrue tells → IsListOn old (seen disk).moments.now = subst (λ (o : Listed). IsTrue tells → IsListOn o (seen disk).moments.now) (sym is) c.requires.on_disk in
    subst (λ (r : Reply). AnswersList tells seen c.args.self disk (Slice c.args.asked) r (On old) disk) (sym c.refuse_idle.ensures)
    (subst (λ (o : Listed). AnswersList tells seen o disk (Slice c.args.asked) no_save_reply (On old) disk) is
    (slice_aside tells seen old disk on no_save_reply (λ e. omega (arith, e), λ e. omega (arith, e)) c.args.asked (λ state s. slices_while_none_runs (slice_size c.args.asked) state.run None state.saver refl s.saving)))

pub returns-in-None-clause-answers : goal.returns-in-None-clause-answers
returns-in-None-clause-answers g c =
    let tells = g.D.Disk.tells in
    let seen = g.D.Disk.seen in
    let before = c.args.disk.now in
    let after = c.write_slice-turned.new.disk in
    let inside = c.self.inside in
    let saving = c.in-Some.saving in
    let turned = c.write_slice-turned.result.0 in
    let rest = c.write_slice-turned.result.1 in
    let old = listed inside.bridge inside.mirror inside.sessions inside.page inside.saving in
    let writes = subst (λ (most : ℕ). WritesSlice tells seen inside.bridge saving most before after turned rest) c.slice_size.ensures c.write_slice-turned.ensures.writes in
    let on : IsTrue tells → IsListOn old (seen before).moments.now = subst (λ (o : Listed). IsTrue tells → IsListOn o (seen before).moments.now) (sym c.self.view_is) c.requires.on_disk in
    let of : IsSavingOf inside.bridge.store (Some saving) = subst (IsSavingOf inside.bridge.store) c.in-Some.is c.self.invariant.1 in
    subst (λ (o : Listed). AnswersList tells seen o before (Slice c.args.asked) c.tell_slice.new.reply Ended after) c.self.view_is
    (subst (λ (left : Option (Bridged × Option Saving)). AnswersList tells seen old before (Slice c.args.asked) c.tell_slice.new.reply (behind_slice old left) after) (sym c.tell_slice.ensures.left ∙ c.in-None.is)
    (subst (λ (r : Reply). AnswersList tells seen old before (Slice c.args.asked) r (behind_slice old (left_by turned rest)) after) (sym c.tell_slice.ensures.told)
    (slice_told tells seen old before after on saving c.in-Some.is c.args.asked rest of turned writes)))

pub returns-in-Some-tell_slice-clause-answers : goal.returns-in-Some-tell_slice-clause-answers
returns-in-Some-tell_slice-clause-answers g c =
    let tells = g.D.Disk.tells in
    let seen = g.D.Disk.seen in
    let before = c.args.disk.now in
    let after = c.write_slice-turned.new.disk in
    let inside = c.self.inside in
    let saving = c.in-Some.saving in
    let turned = c.write_slice-turned.result.0 in
    let rest = c.write_slice-turned.result.1 in
    let old = listed inside.bridge inside.mirror inside.sessions inside.page inside.saving in
    let writes = subst (λ (most : ℕ). WritesSlice tells seen inside.bridge saving most before after turned rest) c.slice_size.ensures c.write_slice-turned.ensures.writes in
    let new = listed c.in-Some-tell_slice.bridge inside.mirror inside.sessions inside.page c.in-Some-tell_slice.saving in
    let on : IsTrue tells → IsListOn old (seen before).moments.now = subst (λ (o : Listed). IsTrue tells → IsListOn o (seen before).moments.now) (sym c.self.view_is) c.requires.on_disk in
    let of : IsSavingOf inside.bridge.store (Some saving) = subst (IsSavingOf inside.bridge.store) c.in-Some.is c.self.invariant.1 in
    subst (λ (o : Listed). AnswersList tells seen o before (Slice c.args.asked) c.tell_slice.new.reply (On new) after) c.self.view_is
    (subst (λ (left : Option (Bridged × Option Saving)). AnswersList tells seen old before (Slice c.args.asked) c.tell_slice.new.reply (behind_slice old left) after) (sym c.tell_slice.ensures.left ∙ c.in-Some-tell_slice.is)
    (subst (λ (r : Reply). AnswersList tells seen old before (Slice c.args.asked) r (behind_slice old (left_by turned rest)) after) (sym c.tell_slice.ensures.told)
    (slice_told tells seen old before after on saving c.in-Some.is c.args.asked rest of turned writes)))

pub invariant_of-result-in-Some-tell_slice : goal.invariant_of-result-in-Some-tell_slice
invariant_of-result-in-Some-tell_slice g c =
    let tells = g.D.Disk.tells in
    let seen = g.D.Disk.seen in
    let before = c.args.disk.now in
    let after = c.write_slice-turned.new.disk in
    let inside = c.self.inside in
    let saving = c.in-Some.saving in
    let turned = c.write_slice-turned.result.0 in
    let rest = c.write_slice-turned.result.1 in
    let old = listed inside.bridge inside.mirror inside.sessions inside.page inside.saving in
    let writes = subst (λ (most : ℕ). WritesSlice tells seen inside.bridge saving most before after turned rest) c.slice_size.ensures c.write_slice-turned.ensures.writes in
    (c.self.invariant.0, subst KeepsSaving (sym c.tell_slice.ensures.left ∙ c.in-Some-tell_slice.is) (slice_keeps tells seen old before after saving (slice_size c.args.asked) rest turned writes))
