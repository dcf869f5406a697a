use Rattle.bridge_commands.proofs.making.init_from.Goals as goal

pub returns-clause-inits : goal.returns-clause-inits
returns-clause-inits g c = λ text is. record { ended = c.make_from-made.result; starts = c.make_from-made.ensures.starts text is; status_is = c.status_of_start.ensures }
