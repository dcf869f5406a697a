use Rattle.std.proofs.Common.{◌-◌, sym, ◌∙◌, arith}
use Rattle.sliced_save.proofs.UndoLemmas.{newest_last}
use Rattle.sliced_save.proofs.undos.MirrorUndos.newest.Goals as goal

pub returns-in-Some-clause-undo : goal.returns-in-Some-clause-undo
returns-in-Some-clause-undo g c = c.in-Some.ensures.undo ∙ sym (newest_last c.args.self.now (c.count-count.result - 1) (omega (arith, c.count-count.ensures, c.if-count-eq0.false)))

pub returns-in-None-clause-undo : goal.returns-in-None-clause-undo
returns-in-None-clause-undo g c = c.in-None.ensures.undo ∙ sym (newest_last c.args.self.now (c.count-count.result - 1) (omega (arith, c.count-count.ensures, c.if-count-eq0.false)))
