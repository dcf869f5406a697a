use Rattle.std.proofs.Common.{ap, arith}
use Rattle.name_script.specs.NameScript.{NameOperation, name_firstupdate, name_update}
use Rattle.name_script.specs.Seen.{seen_operation}
use Rattle.chain_names.specs.declared.coin.HeldCoin.{HeldCoin}
use Rattle.name_rules.specs.Seen.{seen_spent, seen_made, found_inputs}
use Rattle.name_rules.proofs.FirstOf.{Moves, moves-ruled}
use Rattle.name_rules.proofs.before.Before.with_output.Goals as goal

pub returns-in_ok-coin-in-First-clause-verdict : goal.returns-in_ok-coin-in-First-clause-verdict
returns-in_ok-coin-in-First-clause-verdict g c =
    let before = c.args.self.now in
    let operation : NameOperation = name_firstupdate c.in-First.name.now c.in-First.rand.now c.in-First.value.now in
    let held : HeldCoin = seen_spent c.in_ok-coin-in-First.coin in
    let moves : Moves before.profile (seen_made c.args.output.now) (found_inputs c.args.spent.now) operation held = record {
      enough = omega (arith, c.least_amount.ensures);
      does = ap seen_operation c.in-First.is;
      passed = c.in_ok-coin-in-First.ensures.refusal;
      first = c.in_ok-coin-in-First.ensures.coin;
    } in
    moves-ruled before.profile (g.V.NameView.maps before.view.now) before.height c.args.txid.now.0 (seen_made c.args.output.now) _ operation held _ moves c.opened.ensures.verdict

pub returns-in_ok-coin-in-Update-clause-verdict : goal.returns-in_ok-coin-in-Update-clause-verdict
returns-in_ok-coin-in-Update-clause-verdict g c =
    let before = c.args.self.now in
    let operation : NameOperation = name_update c.in-Update.name.now c.in-Update.value.now in
    let held : HeldCoin = seen_spent c.in_ok-coin-in-Update.coin in
    let moves : Moves before.profile (seen_made c.args.output.now) (found_inputs c.args.spent.now) operation held = record {
      enough = omega (arith, c.least_amount.ensures);
      does = ap seen_operation c.in-Update.is;
      passed = c.in_ok-coin-in-Update.ensures.refusal;
      first = c.in_ok-coin-in-Update.ensures.coin;
    } in
    moves-ruled before.profile (g.V.NameView.maps before.view.now) before.height c.args.txid.now.0 (seen_made c.args.output.now) _ operation held _ moves c.updated.ensures.verdict
