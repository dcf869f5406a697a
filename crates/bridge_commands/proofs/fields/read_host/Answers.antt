use Rattle.std.proofs.Common.{◌≡◌, length, ap, arith}
use Rattle.bridge_commands.proofs.fields.read_host.Goals as goal

pub returns-then-wire-le-LONGEST_HOST_NAME-clause-one : goal.returns-then-wire-le-LONGEST_HOST_NAME-clause-one
returns-then-wire-le-LONGEST_HOST_NAME-clause-one c = λ name is. c.in-Some.ensures.one name is.absolute

pub returns-else-wire-le-LONGEST_HOST_NAME-clause-one : goal.returns-else-wire-le-LONGEST_HOST_NAME-clause-one
returns-else-wire-le-LONGEST_HOST_NAME-clause-one c = λ name is.
    let found = c.in-Some.ensures.one name is.absolute in
    let same : c.in-Some.name ≡ name = cc in
    absurd (omega (arith, ap length same, ap length c.wire.ensures.value, is.short))

pub returns-in-None-clause-one : goal.returns-in-None-clause-one
returns-in-None-clause-one c = λ name is. c.in-None.ensures.one name is.absolute
