use Rattle.std.proofs.Common.{◌<◌, ◌^◌, Some, sym, ap, ◌∙◌, arith}
use Rattle.std.proofs.lemmas.Bool.{false≢true}
use Rattle.bridge_commands.proofs.WordLemmas.{number_text, number_read, number_no_error, number_plain, plain_number}
use Rattle.bridge_commands.proofs.numbers.read_number.Goals as goal

pub returns-in-Err-clause-one : goal.returns-in-Err-clause-one
returns-in-Err-clause-one c = λ n is.
    let fits : c.args.most < 2 ^ 64 = omega (arith, c.ranges.most) in
    absurd (c.in-Err.ensures.cases.0 (number_text c.args.least c.args.most fits c.args.word.now n is))

pub returns-in-Ok-parse-clause-found : goal.returns-in-Ok-parse-clause-found
returns-in-Ok-parse-clause-found c =
    let parses = rw c.in-Ok.ensures.cases.0 at c.in-Ok-parse.ensures.value.0 in
    record {
      spelled = plain_number c.args.word.now c.in-Ok-parse.number (c.is_plain.ensures.0 c.if-is_plain.true) parses;
      no_less = omega arith;
      no_more = omega arith;
    }

pub returns-in-Ok-parse-clause-one : goal.returns-in-Ok-parse-clause-one
returns-in-Ok-parse-clause-one c = λ n is.
    let fits : c.args.most < 2 ^ 64 = omega (arith, c.ranges.most) in
    let parses = rw c.in-Ok.ensures.cases.0 at c.in-Ok-parse.ensures.value.0 in
    ap Some (number_read c.args.least c.args.most fits c.args.word.now n c.in-Ok-parse.number is parses)

pub returns-in_default-clause-one : goal.returns-in_default-clause-one
returns-in_default-clause-one c = λ n is.
    let fits : c.args.most < 2 ^ 64 = omega (arith, c.ranges.most) in
    let parses = rw c.in-Ok.ensures.cases.0 at c.in-Ok-parse.ensures.value.0 in
    let same = number_read c.args.least c.args.most fits c.args.word.now n c.in-Ok-parse.number is parses in
    absurd (omega (arith, same, is.no_more))

pub returns-in_default-2-clause-one : goal.returns-in_default-2-clause-one
returns-in_default-2-clause-one c = λ n is.
    let fits : c.args.most < 2 ^ 64 = omega (arith, c.ranges.most) in
    let parses = rw c.in-Ok.ensures.cases.0 at c.in-Ok-parse.ensures.value.0 in
    let same = number_read c.args.least c.args.most fits c.args.word.now n c.in-Ok-parse.number is parses in
    absurd (omega (arith, same, is.no_less))

pub returns-in_default-3-clause-one : goal.returns-in_default-3-clause-one
returns-in_default-3-clause-one c = λ n is.
    let fits : c.args.most < 2 ^ 64 = omega (arith, c.ranges.most) in
    absurd (false≢true (sym c.if-is_plain.false ∙ c.is_plain.ensures.1 (number_plain c.args.least c.args.most fits c.args.word.now n is)))

pub returns-in_default-4-clause-one : goal.returns-in_default-4-clause-one
returns-in_default-4-clause-one c = λ n is.
    let fits : c.args.most < 2 ^ 64 = omega (arith, c.ranges.most) in
    let parses = rw c.in-Ok.ensures.cases.0 at c.in_default.ensures.value.0 in
    absurd (number_no_error c.args.least c.args.most fits c.args.word.now n is parses)
