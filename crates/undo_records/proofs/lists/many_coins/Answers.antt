use Rattle.std.proofs.Common.{None, add-one}
use Rattle.std.proofs.lemmas.Result.{err_from_is_err_and}
use Rattle.chain_names.specs.declared.coin.HeldCoin.{HeldCoin}
use Rattle.undo_records.specs.Reading.{held_from, coins_from}
use Rattle.undo_records.specs.Fields.{grown_by}
use Rattle.undo_records.proofs.Loops.{Halfway, coins_series, coins_grown, not_changed, no_more, all_read}
use Rattle.undo_records.proofs.lists.many_coins.Goals as goal

pub returns-in_err-at : goal.returns-in_err-at
returns-in_err-at c =
    let p = err_from_is_err_and c.from_residual.result c.from_residual.ensures.1 in
    let l : Halfway HeldCoin = record { values = c.loop.coins.items; count = c.args.count; counter = c.loop.counter; rest = c.loop.rest.now; whole = coins_from None c.args.count c.args.bytes.now } in
    rw (p.1, p.2) (no_more (coins_series c.loop.last) l c.in_err-at.field-0.0 c.loop-test.true
    (not_changed (grown_by c.loop.coins.items) (held_from c.loop.last c.loop.rest.now) c.in_err-at.field-0.0 c.in_err-at.ensures) c.loop.invariant)

pub loop-preserved : goal.loop-preserved
loop-preserved c =
    rw add-one (coins_grown c.loop.last
    (record { values = c.loop.coins.items; count = c.args.count; counter = c.loop.counter; rest = c.loop.rest.now; whole = _ })
    c.next_coin.new.coins.items c.in_ok-at.at c.in_ok-at.after.now c.loop-test.true c.in_ok-at.ensures c.loop.invariant)

pub returns : goal.returns
returns c =
    all_read (coins_series c.loop.last)
    (record { values = c.loop.coins.items; count = c.args.count; counter = c.loop.counter; rest = c.loop.rest.now; whole = _ })
    c.loop-test.false c.loop.invariant
