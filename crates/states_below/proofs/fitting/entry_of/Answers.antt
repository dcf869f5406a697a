use Rattle.std.proofs.Common.{sym, ap, ◌∙◌}
use Rattle.chain_names.specs.Coins.{entry_of}
use Rattle.chain_names.proofs.HistoryLemmas.{entry_of-more}
use Rattle.states_below.proofs.fitting.entry_of.Goals as goal

pub returns-in-Some : goal.returns-in-Some
returns-in-Some c = sym (ap entry_of c.in-Some.ensures.cases.0 ∙ entry_of-more c.in-Some.field-0-1.now c.in-Some.last.now)
