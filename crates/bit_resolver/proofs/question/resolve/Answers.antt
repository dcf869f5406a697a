use Rattle.dns_message.specs.Query.{query_of}
use Rattle.bit_resolver.proofs.AnswerLaws.{answer_to-is}
use Rattle.bit_resolver.proofs.question.resolve.Goals as goal

pub answer_question-requires-clause-sound : goal.answer_question-requires-clause-sound
answer_question-requires-clause-sound g c = c.clear.ensures.sound (g.N.Names.served c.args.names.now)

pub returns-clause-lawful : goal.returns-clause-lawful
returns-clause-lawful g c = answer_to-is _ c.args.zone.now (query_of c.args.asked.now) _ c.in_ok-sections.ensures.answer
