use Rattle.std.proofs.Common.{sym, ap, ◌∙◌, arith}
use Rattle.std.specs.Option.{option_copied}
use Rattle.chain_names.specs.Tables.{names_in}
use Rattle.chain_state.proofs.ChainLemmas.{indexed_state}
use Rattle.chain_names.specs.State.{IsUpTo}
use Rattle.chain_names.proofs.HistoryLemmas.{entry_has}
use Rattle.chain_state.proofs.chain.Chain.live.Goals as goal

pub expired-requires-clause-made : goal.expired-requires-clause-made
expired-requires-clause-made c =
    let chain = c.self.inside in
    let below = entry_has (IsUpTo chain.tip.height) (names_in chain.parts.names c.args.name.now) c.in_ok-item.item.now ((indexed_state _ c.self.invariant).item_heights c.args.name.now) (sym c.entry.ensures ∙ ap option_copied c.in_ok-item.was) in
    omega (arith, below, (indexed_state _ c.self.invariant).tip_height)
