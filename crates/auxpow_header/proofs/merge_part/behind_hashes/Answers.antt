use Rattle.std.proofs.lemmas.Result.{err_from_is_err_and}
use Rattle.std.proofs.Common.{sym}
use Rattle.block_grammar.specs.Reading.{piece_from}
use Rattle.wire_read.proofs.ManyLaws.{one_more, stops}
use Rattle.auxpow_header.proofs.merge_part.behind_hashes.Goals as goal

pub loop-preserved : goal.loop-preserved
loop-preserved c = one_more (piece_from 32) c.args.count c.loop.counter c.loop.rest.now c.in_ok-_hash._hash c.in_ok-_hash.after.now _ c.loop-test.true (sym c.in_ok-_hash.ensures) c.loop.invariant

pub returns-in_err-_hash : goal.returns-in_err-_hash
returns-in_err-_hash c =
    let p = err_from_is_err_and c.from_residual.result c.from_residual.ensures.1 in
    rw (p.1, p.2) (stops (piece_from 32) c.args.count c.loop.counter c.loop.rest.now _ _ c.loop-test.true (sym c.in_err-_hash.ensures) c.loop.invariant)
