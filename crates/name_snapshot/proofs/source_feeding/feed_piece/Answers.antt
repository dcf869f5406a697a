use Rattle.std.proofs.Common.{ℕ, length, take, refl, subst, arith}
use Rattle.std.specs.Prelude.{Ok, Err}
use Rattle.name_snapshot.specs.declared.feed_fault.FeedFault.TheVariants.{SourceFault}
use Rattle.name_snapshot.specs.FeedFaults.{of_snapshot}
use Rattle.name_snapshot.specs.SourceFeeding.{PieceOf, FeedsPiece}
use Rattle.name_snapshot.proofs.PieceLemmas.{takes_fault, takes_some, as_fault, piece_fault, piece_fed, piece_end}
use Rattle.name_snapshot.proofs.source_feeding.feed_piece.Goals as goal

pub returns-in_err-count-clause-feeds : goal.returns-in_err-count-clause-feeds
returns-in_err-count-clause-feeds g c = λ text has.
    let old = g.S.Source.seen c.args.source.now in
    let new = g.S.Source.seen c.read.new.self in
    let s = c.args.snapshot.now in
    let room = length c.args.buffer.now in
    as_fault (FeedsPiece text room old new s s) c.from_residual.result SourceFault c.from_residual.ensures.1
    (takes_fault room (PieceOf text old new s s (Err SourceFault)) c.in_err-count.ensures (record { none = refl; fails = c.in_err-count.ensures }))

pub returns-in_err-piece-clause-feeds : goal.returns-in_err-piece-clause-feeds
returns-in_err-piece-clause-feeds g c = λ text has.
    let old = g.S.Source.seen c.args.source.now in
    let new = g.S.Source.seen c.read.new.self in
    let before = c.args.snapshot.now in
    let after = c.piece.new.self in
    let fault = c.in_err-piece.field-0.0 in
    let count = c.in_ok-count.count in
    let room = length c.args.buffer.now in
    as_fault (FeedsPiece text room old new before after) c.from_residual-in_err-piece.result (of_snapshot fault) c.from_residual-in_err-piece.ensures.1
    (takes_some room c.read.new.buf count (PieceOf text old new before after (Err (of_snapshot fault))) (omega (arith, c.read.auto.buf)) c.in_ok-count.ensures
    (piece_fault text (take count c.read.new.buf) old new before after fault c.piece.ensures.base (c.in_err-piece.ensures.takes text has)))

pub returns-then-count-eq0-clause-feeds : goal.returns-then-count-eq0-clause-feeds
returns-then-count-eq0-clause-feeds g c = λ text has.
    let old = g.S.Source.seen c.args.source.now in
    let new = g.S.Source.seen c.read.new.self in
    let s = c.args.snapshot.now in
    subst (λ (room : ℕ). FeedsPiece text room old new s s (Ok 0)) c.read.auto.buf
    (piece_end text s s c.read.new.buf c.in_ok-count.count c.in_ok-count.ensures (omega (arith, c.requires.room, c.read.auto.buf)) c.if-count-eq0.true has)

pub returns-clause-feeds : goal.returns-clause-feeds
returns-clause-feeds g c = λ text has.
    let old = g.S.Source.seen c.args.source.now in
    let new = g.S.Source.seen c.read.new.self in
    let before = c.args.snapshot.now in
    let after = c.piece.new.self in
    let count = c.in_ok-count.count in
    subst (λ (room : ℕ). FeedsPiece text room old new before after (Ok count)) c.read.auto.buf
    (piece_fed text before after c.read.new.buf count c.in_ok-count.ensures (omega (arith, c.if-count-eq0.false)) (c.in_ok-piece.ensures.takes text has))
