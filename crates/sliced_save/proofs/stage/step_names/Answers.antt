use Rattle.std.proofs.Common.{◌≡◌, ℕ, List, ◌++◌, length, Some, None, sym, ap, ◌∙◌, arith}
use Rattle.std.specs.Int.{w32, to_le_bytes}
use Rattle.std.specs.List.{slice_get}
use Rattle.chain_names.specs.declared.coin.Item.{Item}
use Rattle.undo_records.specs.Text.{name_text}
use Rattle.sliced_save.specs.Mirror.{Mirrored}
use Rattle.sliced_save.specs.Left.{names_left}
use Rattle.sliced_save.specs.declared.stage.Stage.TheVariants.{InNames, InItems}
use Rattle.sliced_save.proofs.StageLemmas.{name_head, no_name, writes}
use Rattle.sliced_save.proofs.stage.step_names.Goals as goal

pub returns-in-Some-clause-writes : goal.returns-in-Some-clause-writes
returns-in-Some-clause-writes g c =
    let m = c.args.mirror.now in
    let pair : List ℕ × List Item = (c.in-Some.name.now, c.in-Some.items.now) in
    let here : Some pair ≡ slice_get m.names c.args.from = c.in-Some.ensures.pair ∙ ap (λ (z : Mirrored). slice_get z.names c.args.from) c.mirror.view_is in
    writes m (InNames c.args.from) (InItems c.args.from 0) c.put_count.new.page (name_text pair.0 ++ to_le_bytes w32 (length pair.1))
    (c.put_count.ensures.text
    ∙ ap (λ (l : List ℕ). l ++ to_le_bytes w32 c.len.result) (c.put_name.ensures.text ∙ ap (λ (l : List ℕ). l ++ name_text pair.0) c.requires)
    ∙ ap (λ (n : ℕ). name_text pair.0 ++ to_le_bytes w32 n) c.len.ensures)
    (omega (arith, c.put_count.ensures.grows.some)) (name_head m c.args.from pair (sym here))

pub returns-in-None-clause-writes : goal.returns-in-None-clause-writes
returns-in-None-clause-writes g c =
    let m = c.args.mirror.now in
    let past : None ≡ slice_get m.names c.args.from = c.in-None.ensures.pair ∙ ap (λ (z : Mirrored). slice_get z.names c.args.from) c.mirror.view_is in
    record { text = ap (λ (l : List ℕ). l ++ names_left m c.args.from) c.requires; some = λ e. no_name m c.args.from past }
