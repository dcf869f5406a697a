use Rattle.std.proofs.Common.{◌≡◌, ◌+◌, ◌-◌, List, length, take, subst, arith}
use Rattle.chain_names.specs.Undo.{UndoRecord}
use Rattle.pin_views.proofs.Filling.{past_end}
use Rattle.sliced_save.specs.Kept.{undos_length}
use Rattle.sliced_save.proofs.UndoLemmas.{last_length}
use Rattle.sliced_save.proofs.undos.MirrorUndos.last_len.Goals as goal

pub returns-in-Some-clause-length : goal.returns-in-Some-clause-length
returns-in-Some-clause-length g c =
    subst (λ (z : List UndoRecord). c.add_undo.result + undos_length (take (length z - 1) z) ≡ undos_length z) c.self.view_is
    (last_length c.self.inside.stack (c.len-count.result - 1) c.in-Some.undo.now c.add_undo.result (omega (arith, c.len-count.ensures, c.if-count-eq0.false)) c.in-Some.ensures
    (rw (← c.self.invariant.1) c.self.invariant.2) c.add_undo.ensures)

pub returns-in-None : goal.returns-in-None
returns-in-None g c = absurd (omega (arith, past_end c.self.inside.stack (c.len-count.result - 1) c.in-None.ensures, c.len-count.ensures, c.if-count-eq0.false))
