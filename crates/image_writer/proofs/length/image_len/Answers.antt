use Rattle.std.proofs.Common.{ap, sym, ◌∙◌}
use Rattle.image_writer.specs.Lengths.{capped}
use Rattle.image_writer.proofs.CountLemmas.{AreCounted, text_length}
use Rattle.image_writer.proofs.length.image_len.Goals as goal

pub returns : goal.returns
returns c text is =
    let known : AreCounted c.args.base.now c.args.parts.now = record { hash = c.read_hash.ensures; filled = c.requires; coins = c.add_parts.ensures.coins; names = c.add_parts.ensures.names } in
    c.add_parts.ensures.sum_is ∙ ap capped (sym (text_length c.args.base.now c.args.parts.now text known is))
