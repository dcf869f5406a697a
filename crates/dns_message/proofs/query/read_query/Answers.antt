use Rattle.std.proofs.Common.{◌∙◌, sym, subst, arith}
use Rattle.dns_message.specs.Query.{ReadsAs}
use Rattle.dns_message.proofs.QueryLaws.{reads_as, reading_is, is_query, is_by_version}
use Rattle.dns_message.proofs.query.read_query.Goals as goal

pub returns-clause-rules : goal.returns-clause-rules
returns-clause-rules c = λ reading. (
  (λ e. subst (λ r. ReadsAs c.args.bytes.now r) (sym c.read_message.ensures ∙ e) (reads_as c.args.bytes.now (λ i. omega (arith, c.type_inv.bytes i)))),
  (λ by_rule. c.read_message.ensures ∙ reading_is c.args.bytes.now reading (λ i. omega (arith, c.type_inv.bytes i)) by_rule),
)

pub returns-clause-query : goal.returns-clause-query
returns-clause-query c = is_query c.args.bytes.now c.read_message.result (λ i. omega (arith, c.type_inv.bytes i)) c.read_message.ensures

pub returns-clause-version : goal.returns-clause-version
returns-clause-version c = is_by_version c.args.bytes.now c.read_message.result (λ i. omega (arith, c.type_inv.bytes i)) c.read_message.ensures
