use Rattle.std.proofs.Common.{◌++◌, sym, subst, arith, length-append}
use Rattle.std.specs.Prelude.{Err}
use Rattle.image_files.specs.declared.fault.ReadFault.{ReadFault}
use Rattle.image_files.specs.Reading.{Feeds}
use Rattle.image_files.proofs.FeedLemmas.{piece_place, feeds_fault}
use Rattle.image_files.proofs.feeding.feed.Goals as goal

pub of_image-requires : goal.of_image-requires
of_image-requires c =
    let read = c.requires.read in
    piece_place (read.0 ++ c.args.bytes.now) c.piece.new.self c.in-Err.fault (omega (arith, length-append read.0 c.args.bytes.now, read.1.fed, c.requires.room, c.requires.few)) (c.in-Err.ensures.takes read.0 read.1)

pub returns-in-Err-clause-feeds : goal.returns-in-Err-clause-feeds
returns-in-Err-clause-feeds c = λ text has.
    subst (λ (f : ReadFault). Feeds (text ++ c.args.bytes.now) c.piece.new.self {T = Unit {0}} (Err f)) (sym c.of_image.ensures)
    (feeds_fault (Unit {0}) (text ++ c.args.bytes.now) c.piece.new.self c.in-Err.fault (c.in-Err.ensures.takes text has))
