use Rattle.pin_views.specs.Rows.{SoFar}
use Rattle.pin_views.proofs.rows.rows_of.Given as goal

abbrev pub invariant-loop-i : goal.invariant-loop-i
invariant-loop-i g l = SoFar l.table l.i l.rows l.initial.steps l.steps
