use Rattle.std.proofs.Common.{◌∙◌}
use Rattle.table_trials.proofs.FilledLemmas.{names_filled}
use Rattle.table_trials.proofs.pinned_rows.push_item.Goals as goal

pub returns : goal.returns
returns g c =
    names_filled c.args.table.now c.push.new.self _ c.args.name.now c.args.item c.in_ok-place.ensures.names c.push.ensures.names (c.push.ensures.places ∙ c.in_ok-place.ensures.ok)
