use Rattle.std.proofs.Common.{◌+◌, ◌-◌, arith}
use Rattle.std.proofs.lemmas.Slice.{drop-put_mid}
use Rattle.image_writer.proofs.copy.copy_into.Goals as goal

pub returns-clause-behind : goal.returns-clause-behind
returns-clause-behind c =
    drop-put_mid c.args.at (c.args.at + c.min-count.result - c.args.at) c.args.buf.now c.copy_from_slice.new.self (c.args.at + c.min-count.result) (omega arith) (omega arith) (grind arith)
