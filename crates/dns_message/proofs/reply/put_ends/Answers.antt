use Rattle.std.proofs.Common.{◌∙◌, ◌++◌, ap, refl, take, drop, append_assoc}
use Rattle.dns_message.specs.Header.{header_text}
use Rattle.dns_message.specs.Edns.{opt_of_reply}
use Rattle.dns_message.specs.declared.numbers.TheConstants.{HEADER_SIZE}
use Rattle.dns_message.proofs.BufferLemmas.{under_header}
use Rattle.dns_message.proofs.reply.put_ends.Goals as goal

pub returns-clause-text : goal.returns-clause-text
returns-clause-text c =
    let head = header_text c.args.header in
    let opt = opt_of_reply c.args.edns c.args.extended in
    c.put_opt.ensures.text ∙ ap (λ w. take c.args.end w ++ opt) c.put.ensures
    ∙ ap (λ w. w ++ opt) (under_header head c.args.buf.now c.args.end refl c.requires.head)
    ∙ append_assoc head (drop HEADER_SIZE (take c.args.end c.args.buf.now)) opt
