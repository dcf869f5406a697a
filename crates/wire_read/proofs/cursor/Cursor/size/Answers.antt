use Rattle.std.proofs.Common.{sym}
use Rattle.wire_read.proofs.Forms.{passed_size, passed_exactly, met_long}
use Rattle.wire_read.proofs.cursor.Cursor.size.Goals as goal

pub returns-in-Some-clause-plain : goal.returns-in-Some-clause-plain
returns-in-Some-clause-plain c =
    passed_size c.args.self.now c.self.inside.bytes.now c.self.inside.at c.rest-rest.result.now c.form_length-len.result c.in-Some.number c.in-Some.field-0-1.now
    (record { position = c.self.view_is; within = c.rest-rest.ensures.within; rest_is = c.rest-rest.ensures.value; len_is = c.form_length-len.ensures.value; enough = c.if-rest-len.false; fits = c.rest-rest.ensures.bytes })
    (sym c.in-Some.ensures)

pub returns-in-Some-clause-exact : goal.returns-in-Some-clause-exact
returns-in-Some-clause-exact c =
    passed_exactly c.args.self.now c.self.inside.bytes.now c.self.inside.at c.rest-rest.result.now c.form_length-len.result c.in-Some.number c.in-Some.field-0-1.now
    (record { position = c.self.view_is; within = c.rest-rest.ensures.within; rest_is = c.rest-rest.ensures.value; len_is = c.form_length-len.ensures.value; enough = c.if-rest-len.false; fits = c.rest-rest.ensures.bytes })
    (sym c.in-Some.ensures)

pub returns-in-None-clause-plain : goal.returns-in-None-clause-plain
returns-in-None-clause-plain c =
    met_long c.args.self.now c.self.inside.bytes.now c.self.inside.at c.rest-rest.result.now c.form_length-len.result
    (record { position = c.self.view_is; within = c.rest-rest.ensures.within; rest_is = c.rest-rest.ensures.value; len_is = c.form_length-len.ensures.value; enough = c.if-rest-len.false; fits = c.rest-rest.ensures.bytes })
    (sym c.in-None.ensures)
