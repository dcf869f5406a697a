use Rattle.std.proofs.Common.{List, ℕ, sym, subst}
use Rattle.std.proofs.lemmas.Option.{none-some}
use Rattle.name_store.specs.Host.{IsHostOf}
use Rattle.bridge_commands.proofs.SummaryLemmas.{host_name, is_host}
use Rattle.bridge_commands.proofs.self_test.make_files.Goals as goal

pub unreachable-requires : goal.unreachable-requires
unreachable-requires c = none-some host_name (c.in-None.ensures.one host_name (subst (λ (text : List ℕ). IsHostOf text host_name) (sym c.host.ensures) is_host))
