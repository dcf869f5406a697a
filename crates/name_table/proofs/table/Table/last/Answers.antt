use Rattle.std.proofs.Common.{ap, ◌∙◌}
use Rattle.chain_names.specs.Coins.{entry_of}
use Rattle.name_table.proofs.EntryLemmas.{slice_get-last}
use Rattle.name_table.proofs.table.Table.last.Goals as goal

pub returns-clause-value : goal.returns-clause-value
returns-clause-value g c = c.last.ensures.value ∙ slice_get-last c.held.result.now ∙ ap entry_of c.held.ensures.items
