use Rattle.std.proofs.Common.{◌≡◌, ℕ, List, ◌++◌, length, Some, sym, ap, ◌∙◌, arith}
use Rattle.std.specs.Int.{w32, to_le_bytes}
use Rattle.std.specs.List.{slice_get}
use Rattle.chain_names.specs.Seen.{seen_undo}
use Rattle.undo_records.specs.Text.{op_text}
use Rattle.undo_records.specs.declared.version.Version.TheVariants.{Two}
use Rattle.sliced_save.specs.Mirror.{Mirrored}
use Rattle.sliced_save.specs.declared.stage.Stage.TheVariants.{InOps, InExpired}
use Rattle.sliced_save.proofs.StageLemmas.{next_op, no_op, writes}
use Rattle.sliced_save.proofs.stage.step_ops.Goals as goal

pub returns-in-Some-op_at-clause-writes : goal.returns-in-Some-op_at-clause-writes
returns-in-Some-op_at-clause-writes g c =
    let m = c.args.mirror.now in
    let u = seen_undo c.in-Some.record.now in
    let here : Some u ≡ slice_get m.undos c.args.undo = c.in-Some.ensures.undo ∙ ap (λ (z : Mirrored). slice_get z.undos c.args.undo) c.mirror.view_is in
    let op = c.in-Some-op_at.op.now in
    writes m (InOps c.args.undo c.args.from) _ c.put_op.new.page (op_text Two op) (c.put_op.ensures.text ∙ ap (λ (l : List ℕ). l ++ op_text Two op) c.requires)
    (omega (arith, c.put_op.ensures.grows.some)) (next_op m c.args.undo c.args.from u op (sym here) (sym c.in-Some-op_at.ensures.op))

pub returns-in-None-clause-writes : goal.returns-in-None-clause-writes
returns-in-None-clause-writes g c =
    let m = c.args.mirror.now in
    let u = seen_undo c.in-Some.record.now in
    let here : Some u ≡ slice_get m.undos c.args.undo = c.in-Some.ensures.undo ∙ ap (λ (z : Mirrored). slice_get z.undos c.args.undo) c.mirror.view_is in
    writes m (InOps c.args.undo c.args.from) (InExpired c.args.undo 0) c.put_count.new.page (to_le_bytes w32 (length u.expired))
    (c.put_count.ensures.text ∙ ap (λ (l : List ℕ). l ++ to_le_bytes w32 c.len.result) c.requires ∙ ap (to_le_bytes w32) c.len.ensures)
    (omega (arith, c.put_count.ensures.grows.some)) (no_op m c.args.undo c.args.from u (sym here) c.in-None.ensures.op)
