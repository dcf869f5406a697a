use Rattle.chain_names.specs.declared.kept_op.Change.{Change}
use Rattle.chain_names.specs.declared.undo.UndoOp.TheVariants.{First as undo_first}
use Rattle.std.proofs.Common.{◌∙◌, ◌++◌, ◌∷◌, [], ap}
use Rattle.chain_state.proofs.NameLemmas.{opened}
use Rattle.chain_state.proofs.work.Work.open.Goals as goal

pub returns-clause-ok : goal.returns-clause-ok
returns-clause-ok g c =
    opened c.args.self.now c.shift.new.self c.push.new.self
    (record {
      made = c.args.made.now;
      spent = c.args.spent.now;
      name = c.args.name.now;
      value = c.args.value.now;
      registered = c.args.self.now.height;
      left = c.in_ok-shift.shift;
      work = c.requires.work;
      fresh = c.requires.fresh;
      shifts = c.in_ok-shift.ensures.ok;
    })
    (c.push.ensures.items ∙ ap (λ op. c.shift.new.self.ops.items ++ op ∷ [])
    (c.first.ensures ∙ ap (λ (change : Change). undo_first c.args.made.now change.spent change.coin change.name change.before) c.change_of.ensures))
