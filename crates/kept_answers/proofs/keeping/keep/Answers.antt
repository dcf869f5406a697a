use Rattle.std.proofs.Common.{◌++◌, ap₂}
use Rattle.dns_message.specs.Query.{query_of}
use Rattle.kept_answers.proofs.keeping.keep.Goals as goal

pub returns-clause-text : goal.returns-clause-text
returns-clause-text c = λ k is text.
    ap₂ (λ head records. head ++ records) (c.kept_head.ensures (query_of c.args.asked.now) k _ is text) (c.records.ensures k text)
