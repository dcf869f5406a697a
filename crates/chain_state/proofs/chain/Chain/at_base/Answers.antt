use Rattle.std.proofs.Common.{ap, sym, subst}
use Rattle.nmc_base.specs.Roomy.{Roomy}
use Rattle.chain_names.specs.declared.undo.Undo.{Undo}
use Rattle.chain_state.specs.Chain.{Indexed, IsAtBase}
use Rattle.chain_state.proofs.ChainLemmas.{begun_index, begun_at}
use Rattle.chain_state.proofs.chain.Chain.at_base.Goals as goal

pub joined-requires : goal.joined-requires
joined-requires c =
    let empty = c.in_ok-tables.ensures in
    begun_index c.args.base c.in_ok-tables.tables c.requires empty.coins empty.names empty.queue c.new-2.result (ap (λ (l : Roomy Undo). l.items) c.new-2.ensures)

pub returns : goal.returns
returns c =
    let empty = c.in_ok-tables.ensures in
    subst (λ (x : Indexed). IsAtBase c.args.base x) (sym c.joined.ensures)
    (begun_at c.args.base c.in_ok-tables.tables c.requires empty.coins empty.names empty.queue c.new-2.result (ap (λ (l : Roomy Undo). l.items) c.new-2.ensures))
