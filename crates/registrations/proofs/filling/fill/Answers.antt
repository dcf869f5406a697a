use Rattle.std.proofs.lemmas.Result.{on_ok_weaker}
use Rattle.name_tables.specs.Parts.{newest_first}
use Rattle.registrations.proofs.FilledLemmas.{told_as_before, only_sound}
use Rattle.registrations.proofs.KeptLemmas.{keeps_limits}
use Rattle.registrations.proofs.filling.fill.Goals as goal

pub returns-clause-told : goal.returns-clause-told
returns-clause-told c =
    on_ok_weaker c.fill_by_rule.result
    (told_as_before c.args.names.now c.fill_by_rule.new.names (newest_first c.args.undos.now.items) (newest_first c.fill_by_rule.new.undos.items)) c.fill_by_rule.ensures

pub returns-clause-only : goal.returns-clause-only
returns-clause-only c =
    on_ok_weaker c.fill_by_rule.result
    (only_sound c.args.names.now c.fill_by_rule.new.names (newest_first c.args.undos.now.items) (newest_first c.fill_by_rule.new.undos.items)) c.fill_by_rule.ensures

pub returns-clause-kept : goal.returns-clause-kept
returns-clause-kept c =
    on_ok_weaker c.fill_by_rule.result
    (λ filled.
    keeps_limits c.args.names.now c.fill_by_rule.new.names c.args.undos.now.items c.fill_by_rule.new.undos.items
    (told_as_before c.args.names.now c.fill_by_rule.new.names (newest_first c.args.undos.now.items) (newest_first c.fill_by_rule.new.undos.items) filled) filled)
    c.fill_by_rule.ensures
