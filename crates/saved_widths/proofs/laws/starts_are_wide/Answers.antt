use Rattle.saved_widths.proofs.ChainLemmas.{wide_by_maps, wide_by_text}
use Rattle.saved_widths.proofs.laws.starts_are_wide.Goals as goal

pub returns-clause-maps : goal.returns-clause-maps
returns-clause-maps c = wide_by_maps

pub returns-clause-text : goal.returns-clause-text
returns-clause-text c = wide_by_text
