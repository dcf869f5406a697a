use Rattle.std.proofs.Common.{rules, ℕ, refl, ◌∙◌, subst, arith}
use Rattle.disk_model.specs.Moments.{EachMoment, start}
use Rattle.disk_model.specs.Changes.{LeavesOthers}
use Rattle.disk_model.specs.DiskSeen.{bytes_in}
use Rattle.image_files.specs.Pieces.{IsShorter}
use Rattle.image_files.proofs.PieceLemmas.{all_written, others_then}
use Rattle.image_files.proofs.pieces.write_pieces.Goals as goal

pub pieces-init : goal.pieces-init
pieces-init g c = record {
  file = refl;
  image = refl;
  room = c.requires.room;
  holds = λ tells image is. is;
  others = λ tells. start (λ other differ. refl);
  later = search rules;
  none = refl;
}

pub write_piece-requires-clause-holds : goal.write_piece-requires-clause-holds
write_piece-requires-clause-holds g c = λ tells. let held = c.requires.holds tells in (held.0, c.pieces.invariant.holds tells held.0 held.1)

pub returns-in_err-write_piece-clause-others : goal.returns-in_err-write_piece-clause-others
returns-in_err-write_piece-clause-others g c = λ tells.
    let old = (g.D.Disk.seen c.args.disk.now).moments in
    let mid = (g.D.Disk.seen c.pieces.disk).moments in
    let new = (g.D.Disk.seen c.write_piece.new.disk).moments in
    others_then c.args.draft.file old mid new (c.pieces.invariant.others tells) (subst (λ (file : ℕ). EachMoment (LeavesOthers file mid.now) mid new) c.pieces.invariant.file (c.write_piece.ensures.others tells))

pub returns-then-not-branch-clause-holds : goal.returns-then-not-branch-clause-holds
returns-then-not-branch-clause-holds g c = λ tells image is.
    let draft = c.write_piece.new.draft in
    let text = c.write_piece.new.text in
    let step = c.in_ok-write_piece.ensures.holds tells image (c.pieces.invariant.holds tells image is) in
    all_written image draft text (bytes_in (g.D.Disk.seen c.write_piece.new.disk) draft.file) step (subst (IsShorter c.pieces.text text) c.if-not-branch.true c.in_ok-write_piece.ensures.moves.shorter)

pub returns-then-not-branch-clause-others : goal.returns-then-not-branch-clause-others
returns-then-not-branch-clause-others g c = λ tells.
    let old = (g.D.Disk.seen c.args.disk.now).moments in
    let mid = (g.D.Disk.seen c.pieces.disk).moments in
    let new = (g.D.Disk.seen c.write_piece.new.disk).moments in
    others_then c.args.draft.file old mid new (c.pieces.invariant.others tells) (subst (λ (file : ℕ). EachMoment (LeavesOthers file mid.now) mid new) c.pieces.invariant.file (c.write_piece.ensures.others tells))

pub pieces-preserved : goal.pieces-preserved
pieces-preserved g c =
    let now = g.D.Disk.seen c.pieces.disk in
    let new = g.D.Disk.seen c.write_piece.new.disk in
    let moves = c.in_ok-write_piece.ensures.moves in
    record {
      file = moves.file ∙ c.pieces.invariant.file;
      image = moves.image ∙ c.pieces.invariant.image;
      room = omega (arith, moves.written, moves.image, c.pieces.invariant.room);
      holds = λ tells image is. c.in_ok-write_piece.ensures.holds tells image (c.pieces.invariant.holds tells image is);
      others = λ tells.
          others_then c.args.draft.file (g.D.Disk.seen c.args.disk.now).moments now.moments new.moments (c.pieces.invariant.others tells)
          (subst (λ (file : ℕ). EachMoment (LeavesOthers file now.moments.now) now.moments new.moments) c.pieces.invariant.file (c.write_piece.ensures.others tells));
      later = search rules;
      none = c.in_ok-write_piece.ensures.ends.none ∙ c.pieces.invariant.none;
    }
