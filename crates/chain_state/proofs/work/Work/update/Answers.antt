use Rattle.chain_names.specs.Coins.{entry_of, registered_behind}
use Rattle.chain_names.specs.Tables.{names_in}
use Rattle.chain_names.specs.declared.kept_op.Change.{Change}
use Rattle.chain_names.specs.declared.undo.UndoOp.TheVariants.{Update as undo_update}
use Rattle.std.proofs.Common.{◌∙◌, ◌++◌, ◌∷◌, [], ap}
use Rattle.chain_state.proofs.NameLemmas.{updated}
use Rattle.chain_state.proofs.work.Work.update.Goals as goal

pub returns-clause-ok : goal.returns-clause-ok
returns-clause-ok g c =
    updated c.args.self.now c.shift.new.self c.push.new.self
    (record {
      made = c.args.made.now;
      spent = c.args.spent.now;
      name = c.args.name.now;
      value = c.args.value.now;
      registered = registered_behind (entry_of (names_in c.args.self.now.tables.names c.args.name.now)) c.args.self.now.height;
      left = c.in_ok-shift.shift;
      work = c.requires.work;
      fresh = c.requires.fresh;
      shifts = c.in_ok-shift.ensures.ok;
    })
    (c.push.ensures.items ∙ ap (λ op. c.shift.new.self.ops.items ++ op ∷ [])
    (c.update.ensures ∙ ap (λ (change : Change). undo_update c.args.made.now change.spent change.coin change.name change.before) c.change_of.ensures))
