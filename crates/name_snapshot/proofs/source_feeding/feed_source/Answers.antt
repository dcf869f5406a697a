use Rattle.std.proofs.Common.{◌+◌, ◌≤◌, refl, arith}
use Rattle.name_snapshot.specs.SourceFeeding.{FeedsSource}
use Rattle.name_snapshot.proofs.PieceLemmas.{HasFed, has_room, takes_none, as_fault, at_limit, feeds_fault, feeds_end, feeds_more, feeds_within}
use Rattle.name_snapshot.proofs.source_feeding.feed_source.Goals as goal

pub pieces-init : goal.pieces-init
pieces-init g c =
    let s = c.args.snapshot.now in
    takes_none c.args.limit (g.S.Source.seen c.args.source.now) (HasFed s.base 0 s) (record { base_is = refl; length_is = refl; read = c.requires.none })

pub returns-in_err-count-clause-feeds : goal.returns-in_err-count-clause-feeds
returns-in_err-count-clause-feeds g c =
    let old = g.S.Source.seen c.args.source.now in
    let new = g.S.Source.seen c.feed_piece.new.source in
    let after = c.feed_piece.new.snapshot in
    let so_far = c.pieces.invariant in
    let fault = c.in_err-count.field-0.0 in
    let room = has_room c.args.limit c.pieces.fed c.min-most.result c.pieces.buffer c.pieces-test.true (omega (arith, c.min-most.ensures)) (omega (arith, c.min-most.ensures)) in
    as_fault (FeedsSource c.args.snapshot.now.base c.args.limit old new after) c.from_residual.result fault c.from_residual.ensures.1
    (feeds_fault room so_far new after fault (c.in_err-count.ensures.feeds so_far.taken so_far.holds.read))

pub returns-then-count-eq0-clause-feeds : goal.returns-then-count-eq0-clause-feeds
returns-then-count-eq0-clause-feeds g c =
    let new = g.S.Source.seen c.feed_piece.new.source in
    let so_far = c.pieces.invariant in
    let room = has_room c.args.limit c.pieces.fed c.min-most.result c.pieces.buffer c.pieces-test.true (omega (arith, c.min-most.ensures)) (omega (arith, c.min-most.ensures)) in
    feeds_end room so_far new c.feed_piece.new.snapshot c.in_ok-count.count (c.in_ok-count.ensures.feeds so_far.taken so_far.holds.read) c.if-count-eq0.true

pub overflow_add-fed : goal.overflow_add-fed
overflow_add-fed g c =
    let new = g.S.Source.seen c.feed_piece.new.source in
    let so_far = c.pieces.invariant in
    let room = has_room c.args.limit c.pieces.fed c.min-most.result c.pieces.buffer c.pieces-test.true (omega (arith, c.min-most.ensures)) (omega (arith, c.min-most.ensures)) in
    let low : c.pieces.fed + c.in_ok-count.count ≤ c.args.limit =
    feeds_within room so_far new c.feed_piece.new.snapshot c.in_ok-count.count (c.in_ok-count.ensures.feeds so_far.taken so_far.holds.read) in
    omega (arith, low, c.ranges.limit)

pub pieces-preserved : goal.pieces-preserved
pieces-preserved g c =
    let new = g.S.Source.seen c.feed_piece.new.source in
    let so_far = c.pieces.invariant in
    let room = has_room c.args.limit c.pieces.fed c.min-most.result c.pieces.buffer c.pieces-test.true (omega (arith, c.min-most.ensures)) (omega (arith, c.min-most.ensures)) in
    feeds_more room so_far new c.feed_piece.new.snapshot c.in_ok-count.count (c.in_ok-count.ensures.feeds so_far.taken so_far.holds.read) c.feed_piece.ensures.base

pub returns-clause-feeds : goal.returns-clause-feeds
returns-clause-feeds g c = at_limit c.pieces.invariant c.pieces-test.false
