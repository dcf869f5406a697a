use Rattle.std.proofs.Common.{List, ◌+◌, length, map, ap, ◌∙◌}
use Rattle.std.specs.List.{flat_map}
use Rattle.chain_names.specs.Seen.{seen_undo}
use Rattle.chain_names.specs.declared.undo.Undo.{Undo}
use Rattle.undo_records.specs.declared.version.Version.TheVariants.{Two}
use Rattle.undo_records.specs.Text.{held_text, undo_text}
use Rattle.image_grammar.specs.Text.{history_text}
use Rattle.image_writer.specs.Lengths.{capped}
use Rattle.image_writer.specs.Ordered.{held_in, histories_in}
use Rattle.image_writer.proofs.CountLemmas.{capped_sums}
use Rattle.image_writer.proofs.length.add_parts.Goals as goal

pub returns : goal.returns
returns g c =
    let parts = c.args.parts.now in
    record {
      sum_is =
          capped_sums c.args.total (length (flat_map (undo_text Two) (map seen_undo parts.undos.items))) (length (flat_map held_text (held_in parts.coins)))
          (length (flat_map (history_text Two) (histories_in parts.names))) c.add_undos-undos.result c.add_coins-coins.result c.add_names.result
          (c.add_undos-undos.ensures ∙ ap (λ (us : List Undo). capped (c.args.total + length (flat_map (undo_text Two) (map seen_undo us)))) c.as_slice.ensures) c.add_coins-coins.ensures.length
          c.add_names.ensures.length;
      coins = c.add_coins-coins.ensures.distinct;
      names = c.add_names.ensures.distinct;
    }
