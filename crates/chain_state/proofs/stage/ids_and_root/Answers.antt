use Rattle.std.proofs.Common.{ap, ◌∙◌}
use Rattle.block_grammar.specs.Merkle.{merkle_root_of, block_root}
use Rattle.block_reader.specs.Rows.{seen_row}
use Rattle.chain_state.proofs.stage.ids_and_root.Goals as goal

pub returns : goal.returns
unfolding block_root
returns c = record {
  ids_are = c.in_ok-ids.ensures.value;
  root_is = c.in_ok-root.ensures ∙ ap (λ (row : _). merkle_root_of (seen_row row)) c.deref.ensures.value ∙ ap merkle_root_of c.in_ok-ids.ensures.value;
}
