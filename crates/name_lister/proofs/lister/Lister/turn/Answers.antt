use Rattle.name_lister.proofs.lister.Lister.turn.Goals as goal

pub returns-clause-leavings : goal.returns-clause-leavings
returns-clause-leavings g c = record { left = c.let_go.new.self; some = c.let_go.ensures; behind = c.answered.ensures.leavings }
