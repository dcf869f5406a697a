use Rattle.std.proofs.Common.{refl, ◌∙◌}
use Rattle.block_grammar.specs.PureHeader as plain
use Rattle.block_maker.proofs.Texts.{six_parts}
use Rattle.block_maker.proofs.maker.header_in.Goals as goal

pub returns : goal.returns
unfolding plain.pure_header_text
returns c =
    let text = six_parts _ _ _ _ _ _ _ _ _ _ _ _ c.in_ok-text.ensures c.in_ok-extend.ensures.ok c.in_ok-extend-2.ensures.ok c.in_ok-extend-3.ensures.ok c.in_ok-extend-4.ensures.ok c.in_ok-extend-5.ensures.ok in
    text ∙ rw (c.to_le_bytes.ensures, c.to_le_bytes-2.ensures, c.to_le_bytes-3.ensures) refl
