use Rattle.std.proofs.Common.{rules, ◌≡◌, ◌<◌, length, take, drop, arith, ap}
use Rattle.std.specs.Prelude.{IsTrue}
use Rattle.disk_model.specs.FileState.{FileState}
use Rattle.disk_model.specs.DiskSeen.{bytes_in}
use Rattle.disk_model.proofs.MomentLemmas.{last_moment}
use Rattle.name_store.proofs.SliceStepLemmas.{wrote_first, wrote_both}
use Rattle.name_store.proofs.slice_steps.write_both.Goals as goal

pub returns-then-count-eq0 : goal.returns-then-count-eq0
returns-then-count-eq0 g c =
    let before = g.D.Disk.seen c.args.disk.now in
    wrote_first g.D.Disk.tells c.args.draft.now c.write_piece.new.draft c.args.piece.now (drop c.args.at (bytes_in before c.args.file)) c.args.count before (g.D.Disk.seen c.write_piece.new.disk) c.write_piece.result c.if-count-eq0.true c.write_piece.ensures

pub returns-in_err-write_piece : goal.returns-in_err-write_piece
returns-in_err-write_piece g c = record {
  ok = search rules;
  holds = search rules;
  others = c.write_piece-2.ensures.others;
  ends = record { later = c.write_piece-2.ensures.ends.later; worked = search rules; none = search rules; failed = search rules };
}

pub returns : goal.returns
returns g c =
    let before = g.D.Disk.seen c.args.disk.now in
    let mid = g.D.Disk.seen c.write_piece-2.new.disk in
    let after = g.D.Disk.seen c.copy.new.disk in
    let old = c.args.draft.now in
    let wrote = c.write_piece-2.new.draft in
    let count = c.args.count in
    let piece = c.args.piece.now in
    let some : 0 < count = omega (arith, c.if-count-eq0.false) in
    let same : (tells : IsTrue g.D.Disk.tells) → take count (drop c.args.at (bytes_in mid c.args.file)) ≡ take count (drop c.args.at (bytes_in before c.args.file)) = λ tells.
    ap (λ (f : FileState). take count (drop c.args.at f.bytes)) (last_moment (c.write_piece-2.ensures.others tells) c.args.file c.requires.apart) in
    wrote_both g.D.Disk.tells old wrote c.copy.new.draft (length piece) count piece (take count (drop c.args.at (bytes_in mid c.args.file))) before mid after c.copy.result c.in_ok-write_piece.ensures c.copy.ensures some
    (take count (drop c.args.at (bytes_in before c.args.file))) same
