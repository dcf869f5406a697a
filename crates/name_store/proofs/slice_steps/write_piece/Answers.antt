use Rattle.std.proofs.Common.{◌≡◌, arith, length}
use Rattle.std.proofs.lemmas.Bool.Decides.{nat_tests}
use Rattle.name_store.proofs.SliceStepLemmas.{wrote_none, wrote_piece}
use Rattle.name_store.proofs.slice_steps.write_piece.Goals as goal

pub returns-then-is_empty : goal.returns-then-is_empty
returns-then-is_empty g c =
    let none : length c.args.piece.now ≡ 0 = grind (arith, nat_tests) in
    wrote_none g.D.Disk.tells c.args.draft.now c.args.piece.now (g.D.Disk.seen c.args.disk.now) none

pub returns : goal.returns
returns g c = wrote_piece g.D.Disk.tells c.args.draft.now c.piece.new.self c.args.piece.now (g.D.Disk.seen c.args.disk.now) (g.D.Disk.seen c.piece.new.disk) c.piece.result c.piece.ensures
