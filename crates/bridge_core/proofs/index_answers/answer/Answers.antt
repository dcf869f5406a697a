use Rattle.std.proofs.Common.{ap, subst}
use Rattle.nmc_base.specs.declared.chain_ends.Tip.{Tip}
use Rattle.bit_resolver.specs.Replies.{told}
use Rattle.kept_answers.specs.Answering.{AnswersMessage, zone_at}
use Rattle.bridge_core.specs.Serving.{served_by}
use Rattle.bridge_core.proofs.ServingLemmas.{answers_on}
use Rattle.bridge_core.proofs.index_answers.answer.Goals as goal

pub returns-clause-index : goal.returns-clause-index
returns-clause-index c =
    let bytes = c.args.message.now in
    let transport = c.args.transport in
    let reply = told c.answer.result c.answer.new.buffer in
    subst (λ live. AnswersMessage live (zone_at c.args.host.now c.args.chain.now.tip.height) transport bytes c.args.answers.now reply c.answer.new.self) (ap served_by c.of-served.ensures)
    (subst (λ (tip : Tip). AnswersMessage (served_by c.of-served.result.chain.now) (zone_at c.args.host.now tip.height) transport bytes c.args.answers.now reply c.answer.new.self) c.tip.ensures c.answer.ensures.message)

pub returns-clause-chain : goal.returns-clause-chain
returns-clause-chain c = λ base start blocks stands.
    answers_on base start blocks c.args.chain.now stands c.args.host.now c.args.transport c.args.message.now c.args.answers.now (told c.answer.result c.answer.new.buffer) c.answer.new.self (returns-clause-index c)
