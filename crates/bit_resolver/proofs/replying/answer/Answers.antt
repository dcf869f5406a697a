use Rattle.std.proofs.Common.{None, Some, take, refl, sym, ap, subst}
use Rattle.dns_message.specs.Query.{query_of}
use Rattle.dns_message.specs.Query.Reading.{Dropped, NotImplemented, FormatError, BadVersion}
use Rattle.bit_resolver.specs.Replies.{IsReplied, MayReply}
use Rattle.bit_resolver.proofs.ReplyLaws.{may_reply, reply_is}
use Rattle.bit_resolver.proofs.replying.answer.Goals as goal

pub returns-in-Drop-clause-reply : goal.returns-in-Drop-clause-reply
returns-in-Drop-clause-reply g c =
    reply_is (g.N.Names.served c.args.names.now) c.args.zone.now c.args.transport c.args.message.now Dropped None c.in-Drop.ensures.reading refl

pub returns-in-NotImp-clause-reply : goal.returns-in-NotImp-clause-reply
returns-in-NotImp-clause-reply g c =
    reply_is (g.N.Names.served c.args.names.now) c.args.zone.now c.args.transport c.args.message.now (NotImplemented c.in-NotImp.id c.in-NotImp.flags)
    (Some (take c.bare.result c.bare.new.buf)) c.in-NotImp.ensures.reading (ap Some c.bare.ensures.text)

pub returns-in-FormErr-clause-reply : goal.returns-in-FormErr-clause-reply
returns-in-FormErr-clause-reply g c =
    reply_is (g.N.Names.served c.args.names.now) c.args.zone.now c.args.transport c.args.message.now (FormatError c.in-FormErr.id c.in-FormErr.flags)
    (Some (take c.bare-in-FormErr.result c.bare-in-FormErr.new.buf)) c.in-FormErr.ensures.reading (ap Some c.bare-in-FormErr.ensures.text)

pub returns-in-Query-clause-reply : goal.returns-in-Query-clause-reply
returns-in-Query-clause-reply g c =
    let live = g.N.Names.served c.args.names.now in
    let q = query_of c.in-Query.asked in
    let r = c.reply_to_question-replied.result in
    let buffer = c.reply_to_question-replied.new.buffer in
    subst (λ size. MayReply live c.args.zone.now c.args.transport c.args.message.now (Some (take size buffer))) (sym c.size.ensures)
    (may_reply live c.args.zone.now c.args.transport c.args.message.now q r buffer c.in-Query.ensures.reading
    (subst (λ limit. IsReplied live c.args.zone.now limit q r buffer) c.limit-limit.ensures.limit c.reply_to_question-replied.ensures.text))

pub returns-in-BadVersion-clause-reply : goal.returns-in-BadVersion-clause-reply
returns-in-BadVersion-clause-reply g c =
    reply_is (g.N.Names.served c.args.names.now) c.args.zone.now c.args.transport c.args.message.now (BadVersion (query_of c.in-BadVersion.asked))
    (Some (take c.put_bad_version.result c.put_bad_version.new.buffer)) c.in-BadVersion.ensures.reading (ap Some c.put_bad_version.ensures.text)
