use Rattle.std.proofs.Common.{refl, ap, ◌∙◌}
use Rattle.block_grammar.specs.Hashes.{double_sha256}
use Rattle.block_maker.proofs.Holding.{one_held}
use Rattle.block_maker.proofs.contents.coinbase_alone.Goals as goal

pub returns : goal.returns
returns c =
    one_held (record { count = 1; text = c.in_ok-text.text; root = c.hash_of-root.result }) c.args.height c.in_ok-text.ensures refl (c.hash_of-root.ensures ∙ ap double_sha256 c.as_slice.ensures)
