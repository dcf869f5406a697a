use Rattle.std.proofs.Common.{Some, take, subst}
use Rattle.dns_message.specs.Query.{query_of}
use Rattle.dns_message.specs.Reading.{reading_of}
use Rattle.bit_resolver.specs.Replies.{told}
use Rattle.kept_answers.specs.Answering.{AnswersQuestion, zone_at}
use Rattle.kept_answers.proofs.HoldingLemmas.{held_or_missed}
use Rattle.kept_answers.proofs.MessageLemmas.{by_question, by_names}
use Rattle.kept_answers.proofs.answers.Answers.answer.Goals as goal

pub returns-in-Some-clause-message : goal.returns-in-Some-clause-message
returns-in-Some-clause-message g c =
    let live = g.N.Names.served c.args.names.now in
    let q = query_of c.in-Some.asked in
    let text = take c.reply.result c.reply.new.buffer in
    by_question live (zone_at c.args.host.now c.args.serial) c.args.transport c.args.message.now q text c.args.self.now c.reply.new.self c.in-Some.ensures.found.0 c.in-Some.ensures.found.1
    (subst (λ limit. AnswersQuestion live (zone_at c.args.host.now c.args.serial) limit q c.args.self.now text c.reply.new.self) c.limit-limit.ensures.limit c.reply.ensures.answers)

pub returns-clause-message : goal.returns-clause-message
returns-clause-message g c =
    by_names (g.N.Names.served c.args.names.now) (zone_at c.args.host.now c.args.serial) c.args.transport c.args.message.now (told c.answer_by_names.result c.answer_by_names.new.buffer) c.args.self.now c.in_default.ensures.none
    c.answer_by_names.ensures.reply

pub returns-in-Some-clause-held : goal.returns-in-Some-clause-held
returns-in-Some-clause-held g c =
    held_or_missed c.args.self.now c.reply.new.self (g.N.Names.served c.args.names.now) (zone_at c.args.host.now c.args.serial) c.args.transport (reading_of c.args.message.now)
    (Some (take c.reply.result c.reply.new.buffer)) (returns-in-Some-clause-message g c).keeps

pub returns-clause-held : goal.returns-clause-held
returns-clause-held g c =
    held_or_missed c.args.self.now c.args.self.now (g.N.Names.served c.args.names.now) (zone_at c.args.host.now c.args.serial) c.args.transport (reading_of c.args.message.now)
    (told c.answer_by_names.result c.answer_by_names.new.buffer) (returns-clause-message g c).keeps
