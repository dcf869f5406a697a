use Rattle.std.proofs.Common.{◌≡◌, ℕ, List, ◌++◌, Some, sym, ap, ◌∙◌, arith}
use Rattle.std.specs.List.{slice_get}
use Rattle.chain_names.specs.declared.coin.Item.{Item}
use Rattle.undo_records.specs.Text.{item_text}
use Rattle.undo_records.specs.declared.version.Version.TheVariants.{Two}
use Rattle.sliced_save.specs.Mirror.{Mirrored}
use Rattle.sliced_save.specs.declared.stage.Stage.TheVariants.{InItems}
use Rattle.sliced_save.proofs.StageLemmas.{next_item, no_item, writes, writes_on}
use Rattle.sliced_save.proofs.stage.step_items.Goals as goal

pub returns-in-Some-item_at-clause-writes : goal.returns-in-Some-item_at-clause-writes
returns-in-Some-item_at-clause-writes g c =
    let m = c.args.mirror.now in
    let pair : List ℕ × List Item = (c.in-Some.field-0-0.now, c.in-Some.items.now) in
    let here : Some pair ≡ slice_get m.names c.args.name = c.in-Some.ensures.pair ∙ ap (λ (z : Mirrored). slice_get z.names c.args.name) c.mirror.view_is in
    let item = c.in-Some-item_at.item.now in
    writes m (InItems c.args.name c.args.from) _ c.put_item.new.page (item_text Two item) (c.put_item.ensures.text ∙ ap (λ (l : List ℕ). l ++ item_text Two item) c.requires)
    (omega (arith, c.put_item.ensures.grows.some)) (next_item m c.args.name c.args.from pair item (sym here) (sym c.in-Some-item_at.ensures.item))

pub returns-in-None-clause-writes : goal.returns-in-None-clause-writes
returns-in-None-clause-writes g c =
    let m = c.args.mirror.now in
    let pair : List ℕ × List Item = (c.in-Some.field-0-0.now, c.in-Some.items.now) in
    let here : Some pair ≡ slice_get m.names c.args.name = c.in-Some.ensures.pair ∙ ap (λ (z : Mirrored). slice_get z.names c.args.name) c.mirror.view_is in
    writes_on m (InItems c.args.name c.args.from) _ c.step_names.result c.step_names.new.page (no_item m c.args.name c.args.from pair (sym here) c.in-None.ensures.item) c.step_names.ensures.writes
