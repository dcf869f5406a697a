use Rattle.std.proofs.Common.{ap₂, ◌∙◌, sym, arith}
use Rattle.dns_message.specs.Query.{query_of}
use Rattle.kept_answers.specs.Parts.{parts_text, parts_size}
use Rattle.kept_answers.proofs.ReplyLemmas.{behind_head, reply_by_parts, length-reply_with}
use Rattle.kept_answers.proofs.giving.give.Goals as goal

pub put_parts-requires : goal.put_parts-requires
put_parts-requires c =
    let k = c.requires.0 in
    let q = query_of c.args.asked.now in
    let size = ap₂ (parts_size q) (c.head_bytes.ensures k c.requires.1 c.requires.2) (behind_head k c.args.kept.now c.requires.2) in
    omega (arith, size, length-reply_with q k)

pub returns-clause-text : goal.returns-clause-text
returns-clause-text c = λ k is text.
    let q = query_of c.args.asked.now in
    c.put_parts.ensures.text ∙ ap₂ (parts_text q) (c.head_bytes.ensures k is text) (behind_head k c.args.kept.now text) ∙ reply_by_parts q k is

pub returns-clause-size : goal.returns-clause-size
returns-clause-size c = λ k is text.
    let q = query_of c.args.asked.now in
    c.put_parts.ensures.end ∙ ap₂ (parts_size q) (c.head_bytes.ensures k is text) (behind_head k c.args.kept.now text) ∙ sym (length-reply_with q k)
