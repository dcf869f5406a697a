use Rattle.std.proofs.Common.{◌≡◌, ◌+◌, ◌-◌, List, length, map, take, subst, sym, ap, ◌∙◌, arith}
use Rattle.chain_names.specs.Seen.{seen_undo}
use Rattle.chain_names.specs.Undo.{UndoRecord}
use Rattle.sliced_save.specs.Kept.{IsKeptUndo, undos_length}
use Rattle.sliced_save.proofs.UndoLemmas.{all_take, popped}
use Rattle.sliced_save.proofs.undos.MirrorUndos.pop.Goals as goal

pub invariant_of-self : goal.invariant_of-self
invariant_of-self g c =
    let us : List UndoRecord = map seen_undo c.self.inside.stack in
    let gone = popped c.self.inside.stack c.pop.new.self c.pop.ensures.items in
    let size = subst (λ (z : List UndoRecord). c.last_len.result + undos_length (take (length z - 1) z) ≡ undos_length z) (sym c.self.view_is) c.last_len.ensures.length in (
      rw gone (all_take IsKeptUndo (length us - 1) us c.self.invariant.0),
      rw gone (omega (arith, size, c.self.invariant.1)),
      omega (arith, c.self.invariant.2),
    )

pub returns-clause-undos : goal.returns-clause-undos
returns-clause-undos g c = popped c.self.inside.stack c.pop.new.self c.pop.ensures.items ∙ ap (λ (z : List UndoRecord). take (length z - 1) z) c.self.view_is
