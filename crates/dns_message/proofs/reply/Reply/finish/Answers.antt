use Rattle.std.proofs.Common.{◌∙◌, ◌++◌, ap, ap₂, take, drop}
use Rattle.dns_message.specs.Header.{header_text, flags_of_reply}
use Rattle.dns_message.specs.Edns.{opt_of_reply, additionals_of_reply}
use Rattle.dns_message.specs.Replies.{header_by, extended_of}
use Rattle.dns_message.specs.declared.numbers.TheConstants.{HEADER_SIZE}
use Rattle.dns_message.proofs.FinishLemmas.{finished_truncated, finished_whole}
use Rattle.dns_message.proofs.reply.Reply.finish.Goals as goal

pub returns-then-truncated-clause-text : goal.returns-then-truncated-clause-text
returns-then-truncated-clause-text c = λ t h.
    let r = c.args.self in
    let flags = c.reply_flags-bits.ensures ∙ ap (λ tc. flags_of_reply r.flags c.args.aa tc c.args.rcode) c.if-truncated.true in
    let header = c.header-header.ensures ∙ ap₂ (λ bits counts. header_by r.id bits counts.answers counts.authorities (additionals_of_reply r.edns)) flags c.none.ensures in
    c.put_ends.ensures.text
    ∙ ap (λ head. header_text head ++ (drop HEADER_SIZE (take r.start c.args.buf.now) ++ opt_of_reply r.edns (extended_of c.args.rcode))) header
    ∙ finished_truncated t r c.args.buf.now c.args.rcode c.args.aa h c.if-truncated.true

pub returns-clause-text : goal.returns-clause-text
returns-clause-text c = λ t h.
    let r = c.args.self in
    let flags = c.reply_flags-bits.ensures ∙ ap (λ tc. flags_of_reply r.flags c.args.aa tc c.args.rcode) c.if-truncated.false in
    let header = c.header-header-2.ensures ∙ ap (λ bits. header_by r.id bits r.counts.answers r.counts.authorities (additionals_of_reply r.edns)) flags in
    c.put_ends-2.ensures.text
    ∙ ap (λ head. header_text head ++ (drop HEADER_SIZE (take r.len c.args.buf.now) ++ opt_of_reply r.edns (extended_of c.args.rcode))) header
    ∙ finished_whole t r c.args.buf.now c.args.rcode c.args.aa h c.if-truncated.false
