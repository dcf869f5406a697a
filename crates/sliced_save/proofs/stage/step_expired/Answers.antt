use Rattle.std.proofs.Common.{◌≡◌, ℕ, List, ◌++◌, Some, sym, ap, ◌∙◌, arith}
use Rattle.std.specs.List.{slice_get}
use Rattle.chain_names.specs.Seen.{seen_undo}
use Rattle.undo_records.specs.Text.{held_text}
use Rattle.sliced_save.specs.Mirror.{Mirrored}
use Rattle.sliced_save.specs.declared.stage.Stage.TheVariants.{InExpired}
use Rattle.sliced_save.proofs.StageLemmas.{next_held, no_held, writes, writes_on}
use Rattle.sliced_save.proofs.stage.step_expired.Goals as goal

pub returns-in-Some-held_at-clause-writes : goal.returns-in-Some-held_at-clause-writes
returns-in-Some-held_at-clause-writes g c =
    let m = c.args.mirror.now in
    let u = seen_undo c.in-Some.record.now in
    let here : Some u ≡ slice_get m.undos c.args.undo = c.in-Some.ensures.undo ∙ ap (λ (z : Mirrored). slice_get z.undos c.args.undo) c.mirror.view_is in
    let held = c.in-Some-held_at.held.now in
    writes m (InExpired c.args.undo c.args.from) _ c.put_held.new.page (held_text held) (c.put_held.ensures.text ∙ ap (λ (l : List ℕ). l ++ held_text held) c.requires)
    (omega (arith, c.put_held.ensures.grows.some)) (next_held m c.args.undo c.args.from u held (sym here) (sym c.in-Some-held_at.ensures.held))

pub returns-in-None-clause-writes : goal.returns-in-None-clause-writes
returns-in-None-clause-writes g c =
    let m = c.args.mirror.now in
    let u = seen_undo c.in-Some.record.now in
    let here : Some u ≡ slice_get m.undos c.args.undo = c.in-Some.ensures.undo ∙ ap (λ (z : Mirrored). slice_get z.undos c.args.undo) c.mirror.view_is in
    writes_on m (InExpired c.args.undo c.args.from) _ c.step_undos.result c.step_undos.new.page (no_held m c.args.undo c.args.from u (sym here) c.in-None.ensures.held) c.step_undos.ensures.writes
