use Rattle.std.proofs.Common.{rules, refl, ◌∙◌}
use Rattle.block_maker.proofs.Texts.{six_parts, single_is}
use Rattle.block_maker.proofs.transaction.text_of.Goals as goal

pub returns : goal.returns
returns c =
    let text = six_parts _ _ _ _ _ _ _ _ _ _ _ _ c.in_ok-text.ensures c.in_ok-extend.ensures.ok c.in_ok-input_to.ensures c.in_ok-extend-2.ensures.ok c.in_ok-output_to.ensures c.in_ok-extend-3.ensures.ok in
    let t = c.args.t in
    single_is c.extend-3.new.self t.version t.spent t.unlocking.now t.amount t.locking.now (search rules) (search rules) (search rules) c.requires.unlocking (search rules) c.requires.locking (text ∙ rw c.to_le_bytes.ensures refl)
