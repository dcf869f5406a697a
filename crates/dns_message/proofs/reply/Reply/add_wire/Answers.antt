use Rattle.std.proofs.Common.{arith, ap, ◌∙◌, take, ◌++◌, length}
use Rattle.std.specs.Str.{bytes_eq}
use Rattle.domain_text.specs.Names.{lower}
use Rattle.dns_message.specs.Records.{Record, text_by}
use Rattle.dns_message.proofs.ReplyLemmas.{added, not_added, asked_name, held_length}
use Rattle.dns_message.proofs.reply.Reply.add_wire.Goals as goal

pub returns-in-Some-clause-holds : goal.returns-in-Some-clause-holds
returns-in-Some-clause-holds c = λ t h may.
    let rec : Record = record { owner = c.args.owner.now; kind = c.args.kind; rdata = c.args.rdata.now } in
    let name = asked_name t.query c.args.buf.now c.args.self.now.start h.start (omega (arith, h.from, h.within, h.room)) h.question in
    let asked = c.is_asked-asked.ensures ∙ ap (λ m. bytes_eq (lower c.args.owner.now) (lower m)) name in
    rw c.one_more-self.ensures (added c.args.section rec t c.args.self.now c.args.buf.now c.append_record.new.buf c.in-Some.len h may c.if-self.false (omega (arith, c.in-Some.ensures.some.0, c.opt_size.ensures, h.within)) (omega arith)
    (c.in-Some.ensures.some.1 ∙ ap (λ b. take c.args.self.now.len c.args.buf.now ++ text_by b rec) asked))

pub returns-in-None-clause-holds : goal.returns-in-None-clause-holds
returns-in-None-clause-holds c = λ t h may.
    let rec : Record = record { owner = c.args.owner.now; kind = c.args.kind; rdata = c.args.rdata.now } in
    let name = asked_name t.query c.args.buf.now c.args.self.now.start h.start (omega (arith, h.from, h.within, h.room)) h.question in
    let size = ap (λ b. length (text_by b rec)) (c.is_asked-asked.ensures ∙ ap (λ m. bytes_eq (lower c.args.owner.now) (lower m)) name) in
    let held = held_length t c.args.self.now c.args.buf.now h c.if-self.false in
    rw c.in-None.ensures.same (not_added c.args.section rec t c.args.self.now c.args.buf.now h may (omega (arith, size, held, h.within, c.opt_size.ensures, c.in-None.ensures.none)))
