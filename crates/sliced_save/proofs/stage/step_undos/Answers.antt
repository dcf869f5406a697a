use Rattle.std.proofs.Common.{◌≡◌, ℕ, List, ◌++◌, length, Some, None, sym, ap, ◌∙◌, arith}
use Rattle.std.specs.Int.{w32, to_le_bytes}
use Rattle.std.specs.List.{slice_get}
use Rattle.chain_names.specs.Seen.{seen_undo}
use Rattle.undo_records.specs.declared.version.Version.TheVariants.{Two}
use Rattle.sliced_save.specs.Mirror.{Mirrored}
use Rattle.sliced_save.specs.Left.{coins_left}
use Rattle.sliced_save.specs.declared.stage.Stage.TheVariants.{InUndos, InOps, InCoins}
use Rattle.sliced_save.proofs.StageLemmas.{no_plain, record_head, writes}
use Rattle.undo_records.specs.Text.{undo_text}
use Rattle.sliced_save.proofs.stage.step_undos.Goals as goal

pub returns-in-Some-clause-writes : goal.returns-in-Some-clause-writes
returns-in-Some-clause-writes g c =
    let m = c.args.mirror.now in
    let u = seen_undo c.in-Some.undo.now in
    let here : Some u ≡ slice_get m.undos c.args.from = c.in-Some.ensures.undo ∙ ap (λ (z : Mirrored). slice_get z.undos c.args.from) c.mirror.view_is in
    writes m (InUndos c.args.from) (InOps c.args.from 0) c.put_count.new.page (u.block.0 ++ to_le_bytes w32 (length u.ops))
    (c.put_count.ensures.text
    ∙ ap (λ (l : List ℕ). l ++ to_le_bytes w32 c.len.result) (c.put.ensures ∙ ap (λ (l : List ℕ). l ++ u.block.0) c.requires)
    ∙ ap (λ (n : ℕ). u.block.0 ++ to_le_bytes w32 n) c.len.ensures)
    (omega (arith, c.put_count.ensures.grows.some)) (record_head m c.args.from u (sym here))

pub returns-in-None-clause-writes : goal.returns-in-None-clause-writes
returns-in-None-clause-writes g c =
    let m = c.args.mirror.now in
    let past : None ≡ slice_get m.undos c.args.from = c.in-None.ensures.undo ∙ ap (λ (z : Mirrored). slice_get z.undos c.args.from) c.mirror.view_is in
    let count : c.count.result ≡ length m.coins = c.count.ensures ∙ ap (λ (z : Mirrored). length z.coins) c.mirror.view_is in
    writes m (InUndos c.args.from) (InCoins 0) c.put_count-in-None.new.page (to_le_bytes w32 (length m.coins))
    (c.put_count-in-None.ensures.text ∙ ap (λ (l : List ℕ). l ++ to_le_bytes w32 c.count.result) c.requires ∙ ap (to_le_bytes w32) count)
    (omega (arith, c.put_count-in-None.ensures.grows.some)) (no_plain (undo_text Two) m.undos c.args.from (to_le_bytes w32 (length m.coins) ++ coins_left m 0) past)
